use Rattle.std.proofs.Common.{length}
use Rattle.std.specs.List.{AllByRecursion}
use Rattle.std.specs.Vec.Iter.{into_iter_items}
use Rattle.delete_queue.specs.Making.{AreNewFrom}
use Rattle.round_work.specs.Working.{AreAtWork}
use Rattle.round_work_tests.specs.Shares.{CanGoOn}
use Rattle.round_work_tests.proofs.tests.begin_all.Given as goal

abbrev pub invariant-loop-share : goal.invariant-loop-share
invariant-loop-share l = record {
  seats : AreNewFrom l.queue (length l.writers.items) (into_iter_items l.seats);
  shares : AllByRecursion CanGoOn (into_iter_items l.share-iterator);
  all : AreAtWork l.queue 0 l.writers.items l.begun.items;
}
