-- Places that are gathered, and put in order.
use Rattle.std.proofs.Common.{◌≡◌, ℕ, suc, ◌+◌, ◌<◌, ◌≤◌, Option, List, [], ◌∷◌, Bool, true, false, ◌||◌, length, get_or, ◌⊎◌, inl, inr, refl, sym, ap, ◌∙◌, subst, arith}
use Rattle.std.specs.List.{list_any}
use Rattle.std.specs.List.Sorted.{IsPermutation, IsSorted}
use Rattle.std.specs.Ordering.{MatchOrdering, is_lt, nat_cmp, ordering_then}
use Rattle.std.specs.declared.cmp.Ordering.{Ordering}
use Rattle.std.specs.declared.cmp.Ordering.TheVariants.{Less, Equal, Greater}
use Rattle.std.proofs.lemmas.Cmp.{ranked}
use Rattle.std.proofs.lemmas.List.Sorted.{list_any-IsPermutation}
use Rattle.ix_base.specs.Grouped.{grouped}
use Rattle.ix_base.proofs.GroupedLaws.{is_spot, posted_are}
use Rattle.ix_base.specs.Posted.{posted_at}
use Rattle.ix_base.specs.declared.postings.Posting.{Posting}
use Rattle.ix_base.specs.declared.spots.Spot.{Spot}
use Rattle.merge_postings.specs.Gathering.{any_place, is_place, IsUptoPlaces, PlacesRise}
use Rattle.merge_postings.specs.Renumbering.{moved_at}
use Rattle.merge_postings.specs.declared.gathered.Place.{Place}
use Rattle.merge_postings.proofs.MovedSpots.{moved_is, moves}

-- ---- places that are added

-- the places that were there, and those that came of rows that get a number
abbrev pub AddsMoved : List (Option ℕ) → List Spot → List Place → List Place → Type 0
AddsMoved numbers spots old new = (r x : ℕ) → any_place new r x ≡ (any_place old r x || list_any (moves numbers r x) spots)

-- the places that were there, and these
abbrev pub AddsSpots : List Spot → List Place → List Place → Type 0
AddsSpots spots old new = (r x : ℕ) → any_place new r x ≡ (any_place old r x || list_any (is_spot r x) spots)

pub adds_moved : (numbers : List (Option ℕ)) (spots : List Spot) (old new : List Place) → AddsMoved numbers spots old new
    → (r x : ℕ) → any_place new r x ≡ (any_place old r x || moved_at numbers (grouped spots) r x)
adds_moved numbers spots old new was r x = was r x ∙ ap (λ (b : Bool). any_place old r x || b) (moved_is numbers spots r x)

pub adds_spots : (spots : List Spot) (old new : List Place) → AddsSpots spots old new → (r x : ℕ) → any_place new r x ≡ (any_place old r x || posted_at (grouped spots) r x)
adds_spots spots old new was r x = was r x ∙ ap (λ (b : Bool). any_place old r x || b) (sym (posted_are [] spots r x))

-- ---- places that rise

abbrev IsUptoPlace : Place → Place → Type 0
IsUptoPlace p q = (p.row < q.row) ⊎ ((p.row ≡ q.row) × (p.position ≤ q.position))

upto : (p : Place) (ps : List Place) → ((d : Place) → 0 < length ps → IsUptoPlace p (get_or ps 0 d)) → PlacesRise ps → IsUptoPlaces p.row p.position ps
upto p [] first up = tt
upto p (q ∷ ps) first up = (first q (omega arith), through ps up.0)
  where
    step : IsUptoPlace p q → (s : Place) → IsUptoPlace q s → IsUptoPlace p s
    step (inl l) s (inl m) = inl (omega arith)
    step (inl l) s (inr e) = let f : q.row ≡ s.row = e.0 in inl (omega arith)
    step (inr e) s (inl m) = let f : p.row ≡ q.row = e.0 in inl (omega arith)
    step (inr e) s (inr f) = let l : p.position ≤ q.position = e.1 in let m : q.position ≤ s.position = f.1 in inr (e.0 ∙ f.0, omega arith)

    through : (ss : List Place) → IsUptoPlaces q.row q.position ss → IsUptoPlaces p.row p.position ss
    through [] all = tt
    through (s ∷ ss) all = (step (first q (omega arith)) s all.0, through ss all.1)

-- where each place isn't behind the next one, none is behind a later one
rises_from : (ps : List Place) → ((k : ℕ) (d : Place) → suc k < length ps → IsUptoPlace (get_or ps k d) (get_or ps (suc k) d)) → PlacesRise ps
rises_from [] h = tt
rises_from (p ∷ ps) h =
    let more = rises_from ps (λ k d lt. h (suc k) d (omega arith)) in
    (upto p ps (λ d lt. h 0 d (omega arith)) more, more)

not_before : (p q : Place) → is_lt (ordering_then (nat_cmp q.row p.row) (nat_cmp q.position p.position)) ≡ false → IsUptoPlace p q
not_before p q e = go (nat_cmp q.row p.row) (ranked q.row p.row (nat_cmp q.row p.row) refl) e
  where
    within : (o : Ordering) → MatchOrdering o (q.position < p.position) (q.position ≡ p.position) (p.position < q.position) → is_lt o ≡ false → p.position ≤ q.position
    within Less m f = absurd (cc)
    within Equal m f = omega arith
    within Greater m f = omega arith

    go : (o : Ordering) → MatchOrdering o (q.row < p.row) (q.row ≡ p.row) (p.row < q.row) → is_lt (ordering_then o (nat_cmp q.position p.position)) ≡ false → IsUptoPlace p q
    go Less m f = absurd (cc)
    go Equal m f = inr (sym m, within (nat_cmp q.position p.position) (ranked q.position p.position (nat_cmp q.position p.position) refl) f)
    go Greater m f = inl m

-- places that are sorted by rows, and then by positions, rise
pub sorted_rise : (cmp : Place → Place → Ordering) → ((p q : Place) → cmp p q ≡ ordering_then (nat_cmp p.row q.row) (nat_cmp p.position q.position))
    → (ps : List Place) → IsSorted cmp ps → PlacesRise ps
sorted_rise cmp is ps sorted = rises_from ps (λ k d lt.
    let next : k + 1 ≡ suc k = omega arith in
    subst (λ (n : ℕ). IsUptoPlace (get_or ps k d) (get_or ps n d)) next
    (not_before (get_or ps k d) (get_or ps (k + 1) d) (ap is_lt (sym (is (get_or ps (k + 1) d) (get_or ps k d))) ∙ sorted k d (omega arith) (omega arith))))

-- ---- places that are put in order

-- Places were put, none behind those that are left.
pub record Spread (all left : List Place) (rows : List Posting) : Type 0 where
  pub exact : (r x : ℕ) → (posted_at rows r x || any_place left r x) ≡ any_place all r x
  pub rises : PlacesRise left
  pub before : (r x : ℕ) → posted_at rows r x ≡ true → IsUptoPlaces r x left

-- ---- all that were gathered

or_comm : (a b : Bool) → (a || b) ≡ (b || a)
or_comm true true = refl
or_comm true false = refl
or_comm false true = refl
or_comm false false = refl

pub sorted_are : (rows : List Posting) (spots : List Spot) (late all sorted : List Place) → rows ≡ grouped spots
    → ((r x : ℕ) → any_place all r x ≡ (any_place late r x || posted_at (grouped spots) r x)) → IsPermutation all sorted
    → (r x : ℕ) → any_place sorted r x ≡ (posted_at rows r x || any_place late r x)
sorted_are rows spots late all sorted is added moved r x =
    sym (list_any-IsPermutation (is_place r x) all sorted moved)
    ∙ added r x
    ∙ or_comm (any_place late r x) (posted_at (grouped spots) r x)
    ∙ ap (λ (ps : List Posting). posted_at ps r x || any_place late r x) (sym is)
