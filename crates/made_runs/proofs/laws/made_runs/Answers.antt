use Rattle.made_runs.proofs.Summed.{made_runs}
use Rattle.made_runs.proofs.laws.made_runs.Goals as goal

pub returns : goal.returns
returns c = made_runs
