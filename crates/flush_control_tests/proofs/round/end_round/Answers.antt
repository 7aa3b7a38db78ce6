use Rattle.flush_control_tests.proofs.round.end_round.Goals as goal

pub returns : goal.returns
returns g c =
    (c.rounds_stand.ensures c.args.index.now c.take_round.new.self c.apply_up.new.self c.args.pieces.items c.args.packet.now c.requires.round.0
    c.requires.published c.requires.round.1 c.in_ok-take_round.ensures.ok c.in_ok-apply_up.ensures.ok).published
