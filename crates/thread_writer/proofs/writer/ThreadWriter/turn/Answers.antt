use Rattle.std.proofs.Common.{refl}
use Rattle.thread_writer.specs.Writing.{parts_of}
use Rattle.thread_writer.proofs.Doing.{did_close}
use Rattle.thread_writer.proofs.writer.ThreadWriter.turn.Goals as goal

pub returns-clause-history : goal.returns-clause-history
returns-clause-history c =
    let w = c.args.self.now in
    did_close c.args.queue.now (parts_of w) (parts_of (record w { seat = c.close.new.seat })) c.close.result
    c.close.ensures.grows c.close.ensures.at c.close.ensures.closed c.close.ensures.full refl
