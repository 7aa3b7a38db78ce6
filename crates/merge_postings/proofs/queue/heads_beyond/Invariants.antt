use Rattle.merge_postings.proofs.Resuming.{Resuming}
use Rattle.merge_postings.proofs.queue.heads_beyond.Given as goal

abbrev pub invariant-loop-place : goal.invariant-loop-place
invariant-loop-place l = Resuming l.upto l.sources l.place l.heads.items
