use Rattle.std.proofs.Common.{◌≤◌, length}
use Rattle.merge_postings.proofs.Losers.{HaveLostFrom}
use Rattle.merge_postings.proofs.Playing.{IsPlayedFrom}
use Rattle.merge_postings.proofs.tree.play_all.Given as goal

abbrev pub invariant-nodes : goal.invariant-nodes
invariant-nodes l = record {
  upto : l.node ≤ length l.heads;
  played : IsPlayedFrom l.node l.heads l.wins.items;
  lost : HaveLostFrom l.node (length l.heads) l.wins.items l.losers.items;
}

abbrev pub decreases-nodes : goal.decreases-nodes
decreases-nodes l = l.node
