use Rattle.std.proofs.Common.{◌∙◌, sym, arith}
use Rattle.index_writer_tests.proofs.AtWork.{parts_begun}
use Rattle.index_writer_tests.proofs.working.into_parts.Goals as goal

pub returns : goal.returns
returns c = λ n s begun.
    let round = c.args.round in
    let count = c.in_ok-pieces.ensures.count in
    let len = c.len.ensures in
    let all = begun.all in (
      _,
      record {
        base_is = begun.base;
        all = begun.all ∙ sym begun.seats;
        workers =
            parts_begun round.queue s.buffer 0 n round.writers.items c.in_ok-pieces.pieces.items begun.writers begun.all
            (omega (arith, count, len, all, round.writers.ok.0)) c.in_ok-pieces.ensures.none;
      },
    )
