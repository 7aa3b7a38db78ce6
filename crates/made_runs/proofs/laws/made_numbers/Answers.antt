use Rattle.made_runs.proofs.Summed.{made_numbers}
use Rattle.made_runs.proofs.laws.made_numbers.Goals as goal

pub returns : goal.returns
returns c = made_numbers
