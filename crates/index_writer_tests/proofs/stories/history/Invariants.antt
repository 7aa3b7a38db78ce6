use Rattle.index_writer.specs.Ready.{IsSound}
use Rattle.index_writer_tests.proofs.stories.history.Given as goal

abbrev pub invariant-loop-step : goal.invariant-loop-step
invariant-loop-step g l = IsSound l.writer.state
