use Rattle.std.proofs.Common.{◌≡◌, ℕ, ◌<◌, ◌+◌, Some, take, length, get_or, set, sym, ap, ◌∙◌, subst, arith}
use Rattle.std.proofs.lemmas.List.{length-set}
use Rattle.ram_postings.proofs.MarksPlaced.{placed_more}
use Rattle.ram_postings.specs.Kept.{ArePlaces}
use Rattle.ram_postings.proofs.numbers.places_of.Goals as goal

pub loop-mark-preserved : goal.loop-mark-preserved
loop-mark-preserved c =
    let i : ℕ = c.loop-mark.mark-index in
    let low : get_or c.args.marks.now i 0 < c.args.bound = c.requires.below i 0 c.loop-mark-test.true in
    let long : length c.loop-mark.places.items ≡ c.args.bound = c.loop-mark.invariant.long in
    record {
      place = ap (λ (n : ℕ). n + 1) c.loop-mark.invariant.place;
      long = length-set c.loop-mark.places.items (get_or c.args.marks.now i 0) (Some c.loop-mark.place) ∙ long;
      placed = subst (λ (n : ℕ). ArePlaces (take (i + 1) c.args.marks.now) (set c.loop-mark.places.items (get_or c.args.marks.now i 0) (Some n))) (sym c.loop-mark.invariant.place)
          (placed_more c.args.marks.now c.loop-mark.places.items i 0 c.loop-mark-test.true (omega arith) c.requires.rise c.loop-mark.invariant.placed);
    }
