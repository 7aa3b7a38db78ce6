use Rattle.std.proofs.Common.{[], ap}
use Rattle.delete_queue.specs.declared.seat.Seat.{Seat}
use Rattle.delete_queue.specs.Seats.{number_of}
use Rattle.round_work_tests.proofs.tests.writer_for.Goals as goal

pub returns : goal.returns
returns c =
    let ready = c.make.ensures.ready c.args.queue.now c.requires.seat.0 in
    record {
      is = ready.0;
      number_is = ap (λ (s : Seat). number_of s) c.make.ensures.parts.0;
      few = c.requires.share.few;
      empty = c.requires.share.empty;
      so_far = [];
      did = ready.1;
    }
