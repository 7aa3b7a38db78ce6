-- What a search gathers before it puts it in order.
use Rattle.std.specs.Prelude.{◌≡◌, ℕ, List, map, Option, IsPermutation, slice_get, slice_index_or}
use Rattle.std.specs.List.{filter_map}
use Rattle.std.specs.Option.{option_and_then}
use Rattle.std.specs.List.Sorted.{IsNonDecreasingBy}
use Rattle.ix_base.specs.Hits.{hit_of, matching}
use Rattle.ix_base.specs.declared.document.Hit.{Hit}
use Rattle.ix_base.specs.declared.document.Row.{Row}
use Rattle.ix_base.specs.declared.query.Query.{Query}
use Rattle.live_docs.specs.Marks.{fresh}
use Rattle.live_docs.specs.declared.live_docs.Mark.{Mark}
use Rattle.segment_core.specs.LiveRows.{marked}
use Rattle.searcher.specs.declared.shown.Found.{Found}

-- the hit of a row, with the row's birth
abbrev pub found_of : Row → Found
found_of row = record { birth = row.birth; hit = hit_of row }

-- what a query finds among rows, in the order in which these come
abbrev pub found_among : Query → List Row → List Found
found_among query rows = map found_of (matching query rows)

-- these are the hits of what was found, by birth
pub record AreByBirth (found : List Found) (hits : List Hit) : Type 0 where
  pub sorted : List Found
  pub merged : IsPermutation found sorted
  pub rise : IsNonDecreasingBy (λ (f : Found). f.birth) sorted
  pub are : hits ≡ map (λ (f : Found). f.hit) sorted

-- the row of this number, with the numbers that were set in it; none where there is no such row, or where it isn't live
abbrev pub live_at : List Row → List Mark → ℕ → Option Row
live_at rows marks number =
    option_and_then (λ row. marked row (slice_index_or marks number fresh)) (slice_get rows number)

-- what the live ones of the rows of these numbers are
abbrev pub found_at : List Row → List Mark → List ℕ → List Found
found_at rows marks numbers = map found_of (filter_map (live_at rows marks) numbers)
