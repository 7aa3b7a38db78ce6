use Rattle.std.proofs.Common.{◌≡◌, ℕ, List, sym, subst}
use Rattle.std.specs.Prelude.{◌↔◌}
use Rattle.std.specs.List.{AllByRecursion}
use Rattle.delete_queue.specs.Seats.{IsSeatOf}
use Rattle.queue_rule.specs.Lists.{Each}
use Rattle.index_writer.specs.declared.ending.Rest.{Rest}
use Rattle.index_writer.specs.Ending.{AreEnded, CanEnd}
use Rattle.index_writer.specs.Working.{SomeTurned}
use Rattle.index_writer.proofs.Gathering.{gathered, workers}
use Rattle.index_writer.proofs.Opened.{not_stuck}
use Rattle.index_writer.proofs.Turned.{turned}
use Rattle.index_writer.proofs.ending.gather.Goals as goal

pub handed_back-requires : goal.handed_back-requires
handed_back-requires c = record {
  count = (workers c.args.parts.queue 0 c.requires.parts.0 c.args.parts.writers.items c.args.parts.pieces.items c.requires.parts.1.workers).count;
}

pub finish-requires-clause-seats : goal.finish-requires-clause-seats
finish-requires-clause-seats c =
    subst (Each (IsSeatOf c.args.parts.queue)) (sym c.in_ok-seats.ensures.seats)
    (workers c.args.parts.queue 0 c.requires.parts.0 c.args.parts.writers.items c.args.parts.pieces.items c.requires.parts.1.workers).seats

pub pieces_of-requires : goal.pieces_of-requires
pieces_of-requires c = record {
  can =
      subst (AllByRecursion CanEnd) (sym c.in_ok-seats.ensures.rests)
      (workers c.args.parts.queue 0 c.requires.parts.0 c.args.parts.writers.items c.args.parts.pieces.items c.requires.parts.1.workers).can;
}

pub returns-clause-gathered : goal.returns-clause-gathered
returns-clause-gathered c = λ told are.
    gathered c.rounds_are_ordered.ensures c.args.base told c.args.parts c.in_ok-seats.seats.items c.in-Ok.log
    (record { pieces = c.in_ok-pieces.pieces; packet = c.in_ok-packet.packet; kind = c.last_of-upto.result.1 })
    are c.in_ok-seats.ensures.seats c.in-Ok.ensures.log
    (subst (λ (rs : List Rest). AreEnded c.args.base rs c.in_ok-pieces.pieces.items) c.in_ok-seats.ensures.rests c.in_ok-pieces.ensures)
    c.in_ok-packet.ensures c.last_of-upto.ensures.kind

pub returns-clause-open : goal.returns-clause-open
returns-clause-open c = λ stuck.
    not_stuck c.args.base c.requires.parts.0 c.args.parts c.in_ok-seats.seats.items c.in-Ok.log c.requires.parts.1 c.in_ok-seats.ensures.seats c.in-Ok.ensures.log stuck

pub returns-clause-turned : goal.returns-clause-turned
returns-clause-turned c =
    subst (λ (k : ℕ). (k ≡ 7) ↔ SomeTurned c.args.parts) (sym c.last_of-upto.ensures.kind)
    (turned c.args.base c.requires.parts.0 c.args.parts c.in_ok-seats.seats.items c.in-Ok.log c.requires.parts.1 c.in_ok-seats.ensures.seats c.in-Ok.ensures.log)
