use Rattle.searcher.proofs.Opening.{searches_spelled}
use Rattle.searcher.proofs.searcher.Searcher.of.Goals as goal

pub returns-clause-rows : goal.returns-clause-rows
returns-clause-rows c files number next rows holds has = searches_spelled files number next rows c.args.opened holds has
