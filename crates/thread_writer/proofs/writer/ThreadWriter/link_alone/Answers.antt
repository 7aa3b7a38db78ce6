use Rattle.thread_writer.proofs.Lines.{finds_full}
use Rattle.thread_writer.proofs.writer.ThreadWriter.link_alone.Goals as goal

pub returns-in-Full-clause-full : goal.returns-in-Full-clause-full
returns-in-Full-clause-full c =
    let w = c.args.self.now in
    finds_full w (record w { seat = c.link.new.seat }) c.args.words.now c.in-Full.need c.in-Full.left c.requires.words c.in-Full.ensures.unchanged
    c.in-Full.ensures.full.0 c.in-Full.ensures.full.1 c.in-Full.ensures.full.2
