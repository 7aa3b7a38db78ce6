use Rattle.std.proofs.Common.{◌∙◌, List, [], ◌∷◌, Option, sym, subst}
use Rattle.std.specs.Prelude.{IfSome}
use Rattle.thread_writer.specs.declared.piece.Piece.{Piece}
use Rattle.thread_writer.specs.Writing.{Did, Gives, parts_of}
use Rattle.round_work.specs.Outboxes.{gave_by}
use Rattle.round_work.proofs.AtWork.{told_nothing}
use Rattle.round_work.proofs.line.give_off.Goals as goal

pub send-requires-clause-worker : goal.send-requires-clause-worker
send-requires-clause-worker g c =
    let taken = c.in_ok-piece.ensures in
    let gives = subst (λ (is : Option Piece). IfSome is (λ p. Gives c.args.queue.now p c.args.writer.now c.take_pieces.new.self)) c.in-Some.is taken.gives in
    gives.piece.worker ∙ taken.grows.number ∙ sym c.requires.outbox.number_is

pub returns-in-Some-clause-works : goal.returns-in-Some-clause-works
returns-in-Some-clause-works g c =
    let q = c.args.queue.now in
    let taken = c.in_ok-piece.ensures in
    let new = c.take_pieces.new.self in
    let gave = gave_by c.args.outbox.now in
    let given = c.send.ensures.gave in
    let gives = subst (λ (is : Option Piece). IfSome is (λ p. Gives q p c.args.writer.now new)) c.in-Some.is taken.gives in
    told_nothing q c.args.writer.now new gave (gave_by c.send.new.self) taken.writer taken.grows taken.size (λ own. taken.own ∙ own)
    (λ before did. subst (λ (ps : List Piece). Did q (parts_of new) before ps) (sym given) (gives.history before gave did))
    (c.in-Some.piece ∷ []) given
