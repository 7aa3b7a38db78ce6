use Rattle.std.proofs.Common.{◌≡◌}
use Rattle.piece_queue.specs.Passes.{IsSender, number_of}
use Rattle.piece_queue_tests.proofs.tests.send_some.Given as goal

abbrev pub invariant-loop-place : goal.invariant-loop-place
invariant-loop-place g l = record {
  sender : IsSender l.pieces l.sender;
  worker : number_of l.sender ≡ l.fn.worker;
}
