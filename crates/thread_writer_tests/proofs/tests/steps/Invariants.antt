use Rattle.thread_writer.specs.Writing.{IsWriter}
use Rattle.thread_writer_tests.proofs.tests.steps.Given as goal

abbrev pub invariant-loop-line : goal.invariant-loop-line
invariant-loop-line l = IsWriter l.queue l.first × IsWriter l.queue l.second
