use Rattle.std.proofs.Common.{◌∙◌, List, ap, refl, subst, sym}
use Rattle.merge_postings.specs.Gathering.{PlacesRise, any_place}
use Rattle.merge_postings.specs.declared.gathered.Place.{Place}
use Rattle.merge_postings.proofs.Gathering.{sorted_are, sorted_rise}
use Rattle.merge_postings.proofs.gathered.Gathered.into_rows.Goals as goal

pub spots_of-requires : goal.spots_of-requires
spots_of-requires c = subst PlacesRise (sym c.as_slice-2.ensures.value) (sorted_rise _ (λ p q. refl) c.sort.new.self.items c.in_ok-sort.ensures.sorted)

pub returns : goal.returns
returns c r x =
    c.in_ok-sorted.ensures r x
    ∙ ap (λ (places : List Place). any_place places r x) c.as_slice-2.ensures.value
    ∙ sorted_are c.args.self.rows c.as_slice.result.now c.args.self.late.items c.add_spots.new.late.items c.sort.new.self.items c.as_slice.ensures.places c.in_ok-add_spots.ensures c.in_ok-sort.ensures.permutation r x
