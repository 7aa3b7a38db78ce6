use Rattle.delete_slice.proofs.Logs.{logs_are_in_grammar}
use Rattle.delete_slice_tests.proofs.tests.log_of.Goals as goal

pub returns-in-Ok : goal.returns-in-Ok
returns-in-Ok c = logs_are_in_grammar c.args.queue _ c.in-Ok.log c.in-Ok.ensures.log
