use Rattle.std.proofs.Common.{refl}
use Rattle.thread_writer.proofs.Giving.{reads}
use Rattle.thread_writer.proofs.writer.ThreadWriter.read_slice.Goals as goal

pub returns-clause-reads : goal.returns-clause-reads
returns-clause-reads c =
    let w = c.args.self.now in
    reads c.slices_stay.ensures c.args.queue.now w (record w { seat = c.apply.new.seat; slice = c.advance.new.self }) c.advance.new.seat
    c.advance.ensures.learns c.apply.ensures.learns c.apply.ensures.seat c.advance.ensures.slice c.advance.ensures.from refl refl
