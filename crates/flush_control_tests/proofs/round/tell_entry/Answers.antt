use Rattle.flush_control_tests.proofs.Telling.{entry_told}
use Rattle.flush_control_tests.proofs.round.tell_entry.Goals as goal

pub returns : goal.returns
returns c =
    let t = c.args.told.now in
    entry_told c.taking_stands.ensures t.base t.last c.args.number t.rows.items t.updates c.take.new.self c.args.entry c.requires.told c.requires.entry
    c.requires.number c.in_ok-take.ensures.takes c.in_ok-take.ensures.upto
