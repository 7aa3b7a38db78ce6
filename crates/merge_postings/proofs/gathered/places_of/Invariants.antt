use Rattle.std.proofs.Common.{◌≡◌, ◌||◌, ℕ, drop}
use Rattle.merge_postings.specs.Gathering.{is_gathered}
use Rattle.merge_postings.specs.Parts.{any_part}
use Rattle.merge_postings.proofs.gathered.places_of.Given as goal

abbrev pub invariant-loop-part : goal.invariant-loop-part
invariant-loop-part l = (r x : ℕ) → (is_gathered l.gathered r x || any_part (drop l.part-index l.parts) r x) ≡ any_part l.parts r x
