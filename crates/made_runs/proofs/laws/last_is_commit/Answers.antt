use Rattle.made_runs.proofs.Ends.{last_is_commit}
use Rattle.made_runs.proofs.laws.last_is_commit.Goals as goal

pub returns : goal.returns
returns c = last_is_commit
