use Rattle.run_log.proofs.AgainLaws.{commits_run_on}
use Rattle.run_log.proofs.laws.commits_run_on.Goals as goal

pub returns : goal.returns
returns c = commits_run_on
