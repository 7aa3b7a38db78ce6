use Rattle.delete_slice.proofs.Logs.{logs_are_in_grammar}
use Rattle.delete_slice.proofs.laws.logs_are_in_grammar.Goals as goal

pub returns : goal.returns
returns c = logs_are_in_grammar
