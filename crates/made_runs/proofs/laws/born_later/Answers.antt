use Rattle.made_runs.proofs.Later.{born_later}
use Rattle.made_runs.proofs.laws.born_later.Goals as goal

pub returns : goal.returns
returns c = born_later
