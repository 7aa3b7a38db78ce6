use Rattle.index_writer.proofs.Following.{commits_hold, crashes_hold}
use Rattle.index_writer.proofs.laws.commits_hold.Goals as goal

pub returns-clause-made : goal.returns-clause-made
returns-clause-made c = commits_hold

pub returns-clause-crash : goal.returns-clause-crash
returns-clause-crash c = crashes_hold
