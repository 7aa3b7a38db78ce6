use Rattle.std.proofs.Common.{◌≡◌, ◌<◌, ◌≤◌, ℕ, length, get_or}
use Rattle.merge_postings.proofs.tree.keep_places.Given as goal

abbrev pub invariant-loop-at : goal.invariant-loop-at
invariant-loop-at l = record {
  long : length l.places.items ≡ l.count;
  upto : l.at ≤ l.count;
  zero : (x : ℕ) → x < l.at → get_or l.places.items x 0 ≡ 0;
}
