use Rattle.index_writer.proofs.Standing as standing
use Rattle.index_writer.proofs.laws.pruned_go_on.Goals as goal

pub returns : goal.returns
returns c = standing.pruned_go_on
