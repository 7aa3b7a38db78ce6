use Rattle.std.proofs.Common.{◌∙◌, arith}
use Rattle.round_work.proofs.Workers.{started_many, stopped_all}
use Rattle.round_work.proofs.round.fn.run_in_scope.scope.Goals as goal

pub come_all-stopped-requires : goal.come_all-stopped-requires
come_all-stopped-requires g c =
    let q = c.captures.queue.now in
    let started = c.start_all-started in
    record {
      receiver = c.make_senders-senders.ensures.receiver;
      room = (
        c.requires.stopped.0,
        (let many = started_many q c.captures.pieces.now 0 c.captures.writers.items c.captures.shares.items started.result.items started.ensures.started in
            let room = c.requires.stopped.1 in
            omega (arith, many, room)),
      );
    }

pub returns : goal.returns
returns g c =
    let come = c.come_all-stopped in
    let made = c.make_senders-senders.ensures in
    let started = c.start_all-started in
    record {
      beside = c.beside-done.ensures;
      receiver = come.ensures.receiver;
      ended = come.ensures.ended ∙ made.ended ∙ c.requires.fresh.1;
      made =
          let one = come.ensures.made in
          let two = made.made in
          let count = c.len.ensures in
          let long = c.captures.writers.ok.0 in
          omega (arith, one, two, count, long);
      stopped =
          stopped_all c.captures.queue.now c.captures.pieces.now 0 c.captures.writers.items c.captures.shares.items started.result.items
          come.result.items started.ensures.started come.ensures.back;
    }
