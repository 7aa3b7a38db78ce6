use Rattle.std.proofs.Common.{◌≡◌}
use Rattle.piece_queue.specs.Passes.{IsReceiver, IsSender, made_by, number_of}
use Rattle.piece_queue_tests.proofs.tests.send_and_take.Given as goal

abbrev pub invariant-loop-place : goal.invariant-loop-place
invariant-loop-place g l = record {
  sender : IsSender l.pieces l.sender;
  worker : number_of l.sender ≡ 1;
  receiver : IsReceiver l.pieces l.receiver;
  made : made_by l.receiver ≡ 2;
}
