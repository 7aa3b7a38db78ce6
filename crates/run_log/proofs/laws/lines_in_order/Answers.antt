use Rattle.run_log.proofs.TellingLaws.{order_of}
use Rattle.run_log.proofs.laws.lines_in_order.Goals as goal

pub returns : goal.returns
returns c = order_of
