use Rattle.std.proofs.Common.{◌≡◌, ◌≤◌, length}
use Rattle.std.specs.Prelude.{vec_capacity}
use Rattle.piece_queue.specs.Passes.{IsReceiver, ended_with, made_by}
use Rattle.round_work.specs.Rounds.{AreFresh}
use Rattle.round_work.proofs.starting.make_senders.Given as goal

abbrev pub invariant-loop : goal.invariant-loop
invariant-loop l = record {
  receiver : IsReceiver l.pieces l.receiver;
  made : made_by l.receiver ≡ l.counter;
  ended : ended_with l.receiver ≡ ended_with l.fn.receiver;
  senders : AreFresh l.pieces 0 l.senders.items;
  count : length l.senders.items ≡ l.counter;
  few : l.counter ≤ l.count;
  room : l.count ≤ vec_capacity l.senders;
}
