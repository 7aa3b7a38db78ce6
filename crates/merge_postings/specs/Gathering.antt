-- The places of one term, gathered from several lists.
use Rattle.std.specs.Prelude.{◌≡◌, ℕ, ◌<◌, ◌≤◌, List, [], ◌∷◌, Bool, ◌&&◌, ◌||◌, ◌==◌, ◌⊎◌}
use Rattle.std.specs.List.{AllByRecursion, list_any}
use Rattle.ix_base.specs.Posted.{posted_at}
use Rattle.merge_postings.specs.declared.gathered.Gathered.{Gathered}
use Rattle.merge_postings.specs.declared.gathered.Place.{Place}

-- the place is this one
abbrev pub is_place : ℕ → ℕ → Place → Bool
is_place r x p = (p.row == r) && (p.position == x)

abbrev pub any_place : List Place → ℕ → ℕ → Bool
any_place places r x = list_any (is_place r x) places

-- it was gathered, in order or late
abbrev pub is_gathered : Gathered → ℕ → ℕ → Bool
is_gathered g r x = posted_at g.rows r x || any_place g.late.items r x

-- the place at r and x isn't behind these
abbrev pub IsUptoPlaces : ℕ → ℕ → List Place → Type 0
IsUptoPlaces r x places = AllByRecursion (λ (p : Place). (r < p.row) ⊎ ((r ≡ p.row) × (x ≤ p.position))) places

-- no place is behind a later one
abbrev pub PlacesRise : List Place → Type 0
PlacesRise [] = Unit {0}
PlacesRise (p ∷ ps) = IsUptoPlaces p.row p.position ps × PlacesRise ps
