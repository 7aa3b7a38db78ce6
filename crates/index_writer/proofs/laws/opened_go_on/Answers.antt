use Rattle.index_writer.proofs.Following.{opened_go_on}
use Rattle.index_writer.proofs.laws.opened_go_on.Goals as goal

pub returns : goal.returns
returns c = opened_go_on
