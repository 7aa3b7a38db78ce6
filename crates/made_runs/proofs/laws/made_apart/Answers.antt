use Rattle.made_runs.proofs.MadeLines.{made_apart}
use Rattle.made_runs.proofs.laws.made_apart.Goals as goal

pub returns : goal.returns
returns c = made_apart
