use Rattle.std.proofs.Common.{◌≡◌, ℕ, ◌/◌, ◌<◌, length}
use Rattle.merge_postings.proofs.Losers.{PlaysUp}
use Rattle.merge_postings.proofs.tree.play_above.Given as goal

abbrev pub invariant-nodes : goal.invariant-nodes
invariant-nodes l = record {
  all : length l.losers ≡ length l.heads;
  below : l.node < length l.heads;
  place : l.first < length l.heads;
  up : (child : ℕ) × (l.node ≡ child / 2) × PlaysUp l.heads l.losers child l.first;
}

abbrev pub decreases-nodes : goal.decreases-nodes
decreases-nodes l = l.node
