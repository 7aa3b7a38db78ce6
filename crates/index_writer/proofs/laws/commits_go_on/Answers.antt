use Rattle.index_writer.proofs.Following.{commits_go_on}
use Rattle.index_writer.proofs.laws.commits_go_on.Goals as goal

pub returns : goal.returns
returns c = commits_go_on
