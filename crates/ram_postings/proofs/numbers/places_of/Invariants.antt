use Rattle.std.proofs.Common.{◌≡◌, take, length}
use Rattle.ram_postings.specs.Kept.{ArePlaces}
use Rattle.ram_postings.proofs.numbers.places_of.Given as goal

abbrev pub invariant-loop-mark : goal.invariant-loop-mark
invariant-loop-mark l = record {
  place : l.place ≡ l.mark-index;
  long : length l.places.items ≡ l.fn.bound;
  placed : ArePlaces (take l.mark-index l.marks) l.places.items;
}
