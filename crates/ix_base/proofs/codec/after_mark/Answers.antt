use Rattle.ix_base.proofs.Marks.{mark_found, mark_missing}
use Rattle.ix_base.proofs.codec.after_mark.Goals as goal

pub returns-in-Some : goal.returns-in-Some
returns-in-Some c = mark_found c.args.mark.now c.args.bytes.now c.in-Some.rest.now c.requires c.in-Some.ensures.cases.0 c.in-Some.ensures.cases.1

pub returns-in-None : goal.returns-in-None
returns-in-None c = mark_missing c.args.mark.now c.args.bytes.now c.requires c.in-None.ensures.cases
