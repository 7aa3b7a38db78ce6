use Rattle.std.proofs.Common.{ℕ, List, subst}
use Rattle.row_fates.specs.Fate.{Numbered}
use Rattle.flush_control.specs.Rounds.{IsRound}
use Rattle.flush_control_tests.proofs.Telling.{round_of}
use Rattle.flush_control_tests.proofs.round.do_round.Goals as goal

pub end_round-requires-clause-round : goal.end_round-requires-clause-round
end_round-requires-clause-round g c _ _ =
    let t = c.args.told in
    subst (λ (n : ℕ). (ops : List Numbered) × IsRound n ops c.in_ok-pieces.pieces.items (record { after = t.base; upto = t.last; updates = t.updates })) c.if-base-index.false
    (c.requires.told.ops, round_of c.pieces_are_few.ensures t.base t.last t.rows.items t.updates c.in_ok-pieces.pieces.items c.requires.told c.in_ok-pieces.ensures)
