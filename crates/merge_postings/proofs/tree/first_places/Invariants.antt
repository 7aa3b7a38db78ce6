use Rattle.std.proofs.Common.{◌≡◌, ◌≤◌, ℕ, length, get_or}
use Rattle.merge_postings.proofs.tree.first_places.Given as goal

abbrev pub invariant-loop : goal.invariant-loop
invariant-loop l = record {
  long : length l.places.items ≡ l.counter;
  upto : l.counter ≤ l.count;
  zero : (x : ℕ) → get_or l.places.items x 0 ≡ 0;
}
