use Rattle.std.proofs.Common.{arith, rules}
use Rattle.segment_files.specs.Spelling.{term_postings}
use Rattle.segment_files.proofs.Rooms.{over}
use Rattle.segment_files.proofs.sizes.behind_postings.Goals as goal

pub returns-in_err-left : goal.returns-in_err-left
returns-in_err-left c = over term_postings c.args.room c.args.room 0 _ c.args.postings.now.terms c.loop-entry.entry-index c.entry-item.result c.loop-entry.left _
    c.from_residual.ensures (search rules) (search rules) (search rules) (omega arith) c.in_err-left.ensures (omega arith)
