-- What the end of a round makes of what came back.
use Rattle.std.specs.Prelude.{◌≡◌, ℕ, ◌+◌, ◌≤◌, List, [], ◌∷◌, ◌++◌}
use Rattle.std.specs.Prelude.{length, slice_index_or, replicate, Option, Some, None, ◌==◌, if◌then◌else◌, false}
use Rattle.std.specs.Global.{Vec}
use Rattle.ix_base.specs.Steps.{numbered_from}
use Rattle.row_fates.specs.Fate.{Numbered}
use Rattle.thread_writer.specs.declared.piece.Piece.{Piece}
use Rattle.thread_writer.specs.declared.writer.ThreadWriter.{ThreadWriter}
use Rattle.commit_point.specs.declared.written.Written.{Written}
use Rattle.flush_control.specs.Logs.{EndBy, IsLast}
use Rattle.round_order.specs.Order.{Working, seconds, told_of}
use Rattle.flush_control.specs.Rounds.{IsRound}
use Rattle.index_writer.specs.declared.ending.Gathered.{Gathered}
use Rattle.index_writer.specs.declared.ending.Rest.{Rest}
use Rattle.index_writer.specs.declared.round.RoundEnd.{RoundEnd}
use Rattle.index_writer.specs.declared.round.RoundEnd.TheVariants.{Committed, Turned, Ran}
use Rattle.index_writer.specs.declared.state.State.{State}

-- what writers leave besides their seats; the first of them has this seat number, and each other the next one
abbrev pub rests_of : ℕ → List ThreadWriter → List (Vec Piece) → List Rest
rests_of i [] ps = []
rests_of i (w ∷ ws) [] = []
rests_of i (w ∷ ws) (p ∷ ps) = record { worker = i; rows = w.rows; gave = p } ∷ rests_of (i + 1) ws ps

-- A last piece can be made: the rows are few. The documents of a block stay together, so a buffer may have 63 above the
-- most that its size can be.
abbrev pub CanEnd : Rest → Type 0
CanEnd r = length r.rows ≤ 65599

-- The pieces that were given off with a last one, of one after another. The round's first operation has the number
-- after the base.
abbrev pub AreEnded : ℕ → List Rest → List Piece → Type 0
AreEnded base [] pieces = pieces ≡ []
AreEnded base (r ∷ rs) pieces = (last : Piece) × (more : List Piece) × IsLast base r.rows last
    × (pieces ≡ r.gave.items ++ last ∷ more) × AreEnded base rs more

-- What workers were told is one order of operations, and their pieces and the packet are a round of these.
pub record IsGathered (base : ℕ) (told : List (List Numbered)) (g : Gathered) : Type 0 where
  pub ts : List Working
  pub order : (i : ℕ) → told_of i base ts ≡ slice_index_or told i []
  pub round : IsRound base (numbered_from base (seconds ts)) g.pieces.items g.packet
  pub upto : g.packet.upto ≡ base + length ts
  pub ends : EndBy g.kind (seconds ts)

-- what is on the store of segments, with more of which nothing is there
abbrev pub with_none : List (Option Written) → ℕ → List (Option Written)
with_none ws count = ws ++ replicate count None

-- a round ends by a commit, which is still to be written
abbrev pub committed : State → RoundEnd × State
committed s = (Committed s.published.upto, record s { out = false; pending = Some s.published.upto })

-- a round ends without one, by a turn or not
abbrev pub uncommitted : ℕ → State → RoundEnd × State
uncommitted kind s = ((if kind == 7 then Turned else Ran), record s { out = false; pending = None })

-- how a round ends whose last entry has this kind, and the state then
abbrev pub end_of : ℕ → State → RoundEnd × State
end_of kind s = if kind == 6 then committed s else uncommitted kind s
