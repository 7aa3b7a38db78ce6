use Rattle.std.proofs.Common.{◌≡◌, ℕ, ◌-◌, length, sym, subst}
use Rattle.index_writer.specs.declared.round.RoundEnd.{RoundEnd}
use Rattle.index_writer.specs.declared.state.State.{State}
use Rattle.index_writer.specs.Ending.{with_none}
use Rattle.index_writer.specs.Ready.{IsReady}
use Rattle.index_writer.specs.Rounds.{Ends}
use Rattle.index_writer.proofs.Taking.{ends, pieces_can, ready_again}
use Rattle.index_writer.proofs.state.State.take.Goals as goal

pub take_round-requires-clause-can : goal.take_round-requires-clause-can
take_round-requires-clause-can g c = pieces_can _ _ _ c.args.gathered.pieces.items c.requires.gathered.1.round.pieces

pub returns-clause-ended : goal.returns-clause-ended
returns-clause-ended g c = λ told gathered.
    subst (λ (p : RoundEnd × State). Ends told p.0 c.args.self.now p.1) (sym c.end_by.ensures)
    (ends c.rounds_stand.ensures told c.args.self.now c.args.gathered c.take_round.new.self c.apply_up.new.self c.pad.new.written c.requires.ready gathered
    c.in_ok-take_round.ensures.ok c.in_ok-apply_up.ensures.ok (subst (λ (k : ℕ). c.pad.new.written ≡ with_none c.args.self.now.written (k - length c.args.self.now.written)) c.len-2.ensures c.in_ok-pad.ensures))

pub returns-clause-ready : goal.returns-clause-ready
returns-clause-ready g c =
    subst (λ (p : RoundEnd × State). IsReady p.1) (sym c.end_by.ensures)
    (ready_again c.rounds_stand.ensures c.requires.gathered.0 c.args.self.now c.args.gathered c.take_round.new.self c.apply_up.new.self c.pad.new.written c.requires.ready
    c.requires.gathered.1 c.in_ok-take_round.ensures.ok c.in_ok-apply_up.ensures.ok (subst (λ (k : ℕ). c.pad.new.written ≡ with_none c.args.self.now.written (k - length c.args.self.now.written)) c.len-2.ensures c.in_ok-pad.ensures))
