-- What a thread takes with it may go there.
use mathlib.Core.List.{List, [], ◌∷◌}
use Prim.Native.Nat.{ℕ}
use mir.Syntax.{Lifetime, Sym, Ty}
use base.Fml.{Lft}
use denote.Exit.{Kept}
use denote.RattleType.{RattleType}
use denote.Param.{arg, param}
use denote.Param.Send.{AllSend, IsSend, IsSync, arg_send, param_send, shr_send}
use denote.Param.SendFields.{FieldsHave, as_row_send, declared_send}
use denote.Ref.{ShrRef}
use denote.Struct.Field.{row_field}
use denote.Struct.Tuple.{TupleAt, parts, type_at}
use Rattle.piece_queue.specs.contracts.queue.PieceQueue as pieces
use Rattle.piece_queue.specs.contracts.sender.Sender as sender
use Rattle.piece_queue.proofs.Sending.{queue_shared, sender_send}

parts_send : (Ts : List RattleType) → AllSend Ts → FieldsHave IsSend (parts Ts)
parts_send [] s = tt
parts_send (T ∷ Ts) s = (as_row_send (row_field T) s.0, parts_send Ts s.1)

tuple_send : (name : Sym) (Ts : List RattleType) → AllSend Ts → IsSend (TupleAt name Ts)
tuple_send name Ts s = declared_send (type_at name Ts) (parts_send Ts s)

-- the handle, the allocator, the queue and a sender
pub taken_send : (n : ℕ) (name : Sym) (δ : Ty) (k : Kept) (r : Lifetime) (ρ : Lft) (R A : RattleType) (p : Lifetime) (π : Lft)
    → IsSync R → IsSend A
    → IsSend (param n (arg δ k (TupleAt name (ShrRef r ρ R ∷ A ∷ ShrRef p π pieces.the_row ∷ sender.the_row ∷ []))))
taken_send n name δ k r ρ R A p π rs as_is =
    let Ts : List RattleType = ShrRef r ρ R ∷ A ∷ ShrRef p π pieces.the_row ∷ sender.the_row ∷ [] in
    param_send n (arg δ k (TupleAt name Ts)) (arg_send δ k (TupleAt name Ts) (tuple_send name Ts
    (shr_send r ρ R rs, (as_is, (shr_send p π pieces.the_row queue_shared, (sender_send, tt))))))
