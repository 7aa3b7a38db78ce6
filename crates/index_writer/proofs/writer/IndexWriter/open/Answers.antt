use Rattle.std.proofs.Common.{◌≡◌}
use Rattle.index_writer.specs.Ready.{written_of}
use Rattle.index_writer.proofs.Opening.{opened}
use Rattle.index_writer.proofs.writer.IndexWriter.open.Goals as goal

pub returns-clause-ready : goal.returns-clause-ready
returns-clause-ready g c =
    let a = c.as_slice-entries.ensures in
    let b = c.as_slice.ensures in
    let e = c.in-Ok.ensures in
    let is : c.in-Ok.written ≡ written_of c.args.last.entries c.args.last.segments = cc in
    opened c.args.last c.args.buffer c.args.merge c.in-Ok.written c.requires.last c.requires.buffer.0 c.requires.buffer.1 c.requires.merge.0 c.requires.merge.1 is
