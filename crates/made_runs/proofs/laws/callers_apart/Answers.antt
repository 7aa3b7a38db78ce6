use Rattle.made_runs.proofs.Apart.{callers_apart}
use Rattle.made_runs.proofs.laws.callers_apart.Goals as goal

pub returns : goal.returns
returns c = callers_apart
