use Rattle.searcher.proofs.Opening.{searches_opened}
use Rattle.searcher.proofs.searcher.Searcher.open_listed.Goals as goal

pub returns-in-Ok-clause-rows : goal.returns-in-Ok-clause-rows
returns-in-Ok-clause-rows g c files next rows told holds =
    searches_opened files c.args.number next rows holds c.in-Ok.opened c.of.result.segments
    (c.in-Ok.ensures.only files next holds.holds.entries holds.holds.segments told holds.holds.spelled) c.of.ensures.segments

pub returns-in-Err-clause-whole : goal.returns-in-Err-clause-whole
returns-in-Err-clause-whole g c files next rows told holds =
    c.in-Err.ensures.whole files next holds.entries holds.segments told holds.spelled
