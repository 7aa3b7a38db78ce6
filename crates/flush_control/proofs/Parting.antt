-- Segments of a list found by their ids, and the list without them.
use Rattle.std.proofs.Common.{◌≡◌, ◌∙◌, ◌⊎◌, inl, inr, ℕ, zero, suc, ◌+◌, ◌<◌, ◌≤◌, Bool, true, false, cond, not, eqb, List, [], ◌∷◌, ◌++◌, length, map, take, get_or, refl, sym, ap, subst, arith, append_assoc, append-nil, IsPermutation}
use Rattle.std.specs.Prelude.{Contains, ◌||◌}
use Rattle.std.specs.List.{AllByRecursion, flat_map, list_any, sum_by}
use Rattle.std.proofs.lemmas.Bool.{eqb-true, eq-eqb}
use Rattle.std.proofs.lemmas.List.Recursion.{is_sum_by}
use Rattle.std.proofs.lemmas.List.Sorted.{IsPermutation-append_comm, IsPermutation-append_left, IsPermutation-append_right, IsPermutation-map, IsPermutation-refl, IsPermutation-trans, sum_by-IsPermutation}
use Rattle.segment_core.specs.LiveRows.{Lived}
use Rattle.commit_point.specs.Writing.{SegmentIdsRise}
use Rattle.merge_core.specs.Merging.{IdsRise, Sources}
use Rattle.merge_core.specs.Picking.{is_among, rank}
use Rattle.flush_control.specs.Merging.{without}
use Rattle.flush_control.specs.Published.{IdsDiffer}

-- ---- a segment in a list

abbrev pub IsIn : Lived → List Lived → Type 0
IsIn s [] = ⊥
IsIn s (g ∷ gs) = (g ≡ s) ⊎ IsIn s gs

pub is_in : (s : Lived) (gs : List Lived) → Contains gs s → IsIn s gs
is_in s gs has = by gs has.0 has.1 has.2
  where
    by : (xs : List Lived) (k : ℕ) → k < length xs → get_or xs k s ≡ s → IsIn s xs
    by [] k lt is = absurd (omega (arith, lt))
    by (g ∷ xs) zero lt is = inl is
    by (g ∷ xs) (suc k) lt is = inr (by xs k (omega (arith, lt)) is)

pub all_in : (P : Lived → Type 0) (s : Lived) (gs : List Lived) → AllByRecursion P gs → IsIn s gs → P s
all_in P s [] all has = absurd has
all_in P s (g ∷ gs) all (inl is) = subst P is all.0
all_in P s (g ∷ gs) all (inr has) = all_in P s gs all.1 has

pub each_source : (P : Lived → Type 0) (gs : List Lived) (ids : List ℕ) (ss : List Lived) → AllByRecursion P gs → Sources gs ids ss → AllByRecursion P ss
each_source P gs [] [] all found = tt
each_source P gs [] (s ∷ ss) all found = absurd found
each_source P gs (id ∷ ids) [] all found = absurd found
each_source P gs (id ∷ ids) (s ∷ ss) all found = (all_in P s gs all (is_in s gs found.0.0), each_source P gs ids ss all found.1)

-- ---- ids that rise

pub id_above : (low limit : ℕ) (s : Lived) (gs : List Lived) → SegmentIdsRise low limit gs → IsIn s gs → low ≤ s.segment.id
id_above low limit s [] rise has = absurd has
id_above low limit s (g ∷ gs) rise (inl is) = subst (λ (x : Lived). low ≤ x.segment.id) is rise.0
id_above low limit s (g ∷ gs) rise (inr has) = omega (arith, rise.0, id_above (g.segment.id + 1) limit s gs rise.2 has)

pub id_below : (low limit : ℕ) (s : Lived) (gs : List Lived) → SegmentIdsRise low limit gs → IsIn s gs → s.segment.id < limit
id_below low limit s [] rise has = absurd has
id_below low limit s (g ∷ gs) rise (inl is) = subst (λ (x : Lived). x.segment.id < limit) is rise.1
id_below low limit s (g ∷ gs) rise (inr has) = id_below (g.segment.id + 1) limit s gs rise.2 has

id_at : (low limit : ℕ) (gs : List Lived) (k : ℕ) (d : Lived) → SegmentIdsRise low limit gs → k < length gs → low ≤ (get_or gs k d).segment.id
id_at low limit [] k d rise lt = absurd (omega (arith, lt))
id_at low limit (g ∷ gs) zero d rise lt = rise.0
id_at low limit (g ∷ gs) (suc k) d rise lt = omega (arith, rise.0, id_at (g.segment.id + 1) limit gs k d rise.2 (omega (arith, lt)))

pub ids_rise : (low limit : ℕ) (gs : List Lived) → SegmentIdsRise low limit gs → IdsRise gs
ids_rise low limit [] rise i j d lt end = absurd (omega (arith, end))
ids_rise low limit (g ∷ gs) rise i zero d lt end = absurd (omega (arith, lt))
ids_rise low limit (g ∷ gs) rise zero (suc j) d lt end = omega (arith, id_at (g.segment.id + 1) limit gs j d rise.2 (omega (arith, end)))
ids_rise low limit (g ∷ gs) rise (suc i) (suc j) d lt end = ids_rise (g.segment.id + 1) limit gs rise.2 i j d (omega (arith, lt)) (omega (arith, end))

-- ---- ids that are apart

abbrev one_if : Bool → ℕ
one_if b = cond b 1 0

-- how often a number stands in a list
count : ℕ → List ℕ → ℕ
count x [] = 0
count x (y ∷ ys) = one_if (eqb y x) + count x ys

by_bool : {A : Type 0} (b : Bool) → (b ≡ true → A) → (b ≡ false → A) → A
by_bool true yes_ no_ = yes_ refl
by_bool false yes_ no_ = no_ refl

count_permuted : (x : ℕ) (xs ys : List ℕ) → IsPermutation xs ys → count x ys ≡ count x xs
unfolding count
count_permuted x xs ys moved =
    summed ys ∙ (sum_by-IsPermutation (λ y. one_if (eqb y x)) xs ys moved ∙ sym (summed xs))
  where
    summed : (zs : List ℕ) → count x zs ≡ sum_by (λ y. one_if (eqb y x)) zs
    summed zs = is_sum_by (count x) (λ y. one_if (eqb y x)) refl (λ y ys. refl) zs

none_counted : (x : ℕ) (ys : List ℕ) → count x ys ≤ 0 → list_any (λ y. eqb y x) ys ≡ false
unfolding count
none_counted x [] few = refl
none_counted x (y ∷ ys) few =
    by_bool (eqb y x)
    (λ e. absurd (omega (arith, few, ap one_if e)))
    (λ e. ap (λ (b : Bool). b || list_any (λ z. eqb z x) ys) e ∙ none_counted x ys (omega (arith, few)))

are_apart : (xs : List ℕ) → ((x : ℕ) → count x xs ≤ 1) → IdsDiffer xs
unfolding count
are_apart [] few = tt
are_apart (x ∷ xs) few = (
  none_counted x xs (omega (arith, few x, ap one_if (eq-eqb x x refl))),
  are_apart xs (λ y. omega (arith, few y)),
)

counted_taken : (x m : ℕ) (rs : List (ℕ × ℕ)) → count x (map (λ r. r.1) (take m rs)) ≤ count x (map (λ r. r.1) rs)
unfolding count
counted_taken x zero rs = omega arith
counted_taken x (suc m) [] = omega arith
counted_taken x (suc m) (r ∷ rs) = omega (arith, counted_taken x m rs)

ids_of : List Lived → List ℕ
ids_of gs = map (λ r. r.1) (map rank gs)

below_none : (low limit x : ℕ) (gs : List Lived) → SegmentIdsRise low limit gs → x < low → count x (ids_of gs) ≤ 0
unfolding count ids_of
below_none low limit x [] rise lt = omega arith
below_none low limit x (g ∷ gs) rise lt =
    by_bool (eqb g.segment.id x)
    (λ e. absurd (omega (arith, rise.0, lt, eqb-true g.segment.id x e)))
    (λ e. omega (arith, ap one_if e, below_none (g.segment.id + 1) limit x gs rise.2 (omega (arith, rise.0, lt))))

ids_once : (low limit x : ℕ) (gs : List Lived) → SegmentIdsRise low limit gs → count x (ids_of gs) ≤ 1
unfolding count ids_of
ids_once low limit x [] rise = omega arith
ids_once low limit x (g ∷ gs) rise =
    by_bool (eqb g.segment.id x)
    (λ e. omega (arith, ap one_if e, below_none (g.segment.id + 1) limit x gs rise.2 (omega (arith, eqb-true g.segment.id x e))))
    (λ e. omega (arith, ap one_if e, ids_once (g.segment.id + 1) limit x gs rise.2))

-- the ids of the segments of the first ranks
pub picked_apart : (low limit m : ℕ) (gs : List Lived) (ranks : List (ℕ × ℕ)) → SegmentIdsRise low limit gs → IsPermutation (map rank gs) ranks
    → IdsDiffer (map (λ r. r.1) (take m ranks))
unfolding ids_of
picked_apart low limit m gs ranks rise moved =
    are_apart (map (λ r. r.1) (take m ranks))
    (λ x. omega (
      arith,
      counted_taken x m ranks,
      count_permuted x (ids_of gs) (map (λ r. r.1) ranks) (IsPermutation-map (λ (r : ℕ × ℕ). r.1) (map rank gs) ranks moved),
      ids_once low limit x gs rise,
    ))

-- ---- the rows of the segments, parted

without_none : (gs : List Lived) → without [] gs ≡ gs
without_none [] = refl
without_none (g ∷ gs) = ap (λ (xs : List Lived). g ∷ xs) (without_none gs)

untouched : (id : ℕ) (ids : List ℕ) (low limit : ℕ) (gs : List Lived) → SegmentIdsRise low limit gs → id < low → without (id ∷ ids) gs ≡ without ids gs
untouched id ids low limit [] rise lt = refl
untouched id ids low limit (g ∷ gs) rise lt =
    by_bool (eqb id g.segment.id)
    (λ e. absurd (omega (arith, rise.0, lt, eqb-true id g.segment.id e)))
    (λ e.
    ap (λ (b : Bool). cond (not (b || is_among ids g)) (g ∷ without (id ∷ ids) gs) (without (id ∷ ids) gs)) e
    ∙ ap (λ (xs : List Lived). cond (not (is_among ids g)) (g ∷ xs) xs) (untouched id ids (g.segment.id + 1) limit gs rise.2 (omega (arith, rise.0, lt))))

swap_front : {X : Type 0} (xs ys zs : List X) → IsPermutation (xs ++ (ys ++ zs)) (ys ++ (xs ++ zs))
swap_front {X} xs ys zs =
    subst (λ (l : List X). IsPermutation l (ys ++ (xs ++ zs))) (append_assoc xs ys zs)
    (subst (IsPermutation ((xs ++ ys) ++ zs)) (append_assoc ys xs zs)
    (IsPermutation-append_left zs (xs ++ ys) (ys ++ xs) (IsPermutation-append_comm xs ys)))

keep : {X : Type 0} (f : Lived → List X) (b : Bool) (g s : Lived) (xs ys : List Lived) → IsPermutation (flat_map f xs) (f s ++ flat_map f ys)
    → IsPermutation (flat_map f (cond (not b) (g ∷ xs) xs)) (f s ++ flat_map f (cond (not b) (g ∷ ys) ys))
keep f true g s xs ys moved = moved
keep f false g s xs ys moved =
    IsPermutation-trans (f g ++ flat_map f xs) (f g ++ (f s ++ flat_map f ys)) (f s ++ (f g ++ flat_map f ys))
    (IsPermutation-append_right (f g) (flat_map f xs) (f s ++ flat_map f ys) moved)
    (swap_front (f g) (f s) (flat_map f ys))

-- the segment with one id, which is none of the others
one_out : {X : Type 0} (f : Lived → List X) (id : ℕ) (ids : List ℕ) (s : Lived) (low limit : ℕ) (gs : List Lived) → SegmentIdsRise low limit gs → IsIn s gs
    → s.segment.id ≡ id → list_any (λ x. eqb x id) ids ≡ false → IsPermutation (flat_map f (without ids gs)) (f s ++ flat_map f (without (id ∷ ids) gs))
one_out f id ids s low limit [] rise has same apart = absurd has
one_out f id ids s low limit (g ∷ gs) rise (inl is) same apart =
    let id_is : g.segment.id ≡ id = ap (λ (x : Lived). x.segment.id) is ∙ same in
    let stays : is_among ids g ≡ false = ap (λ (k : ℕ). list_any (λ x. eqb x k) ids) id_is ∙ apart in
    let goes : eqb id g.segment.id ≡ true = ap (eqb id) id_is ∙ eq-eqb id id refl in
    let left : without (id ∷ ids) (g ∷ gs) ≡ without ids gs =
    ap (λ (b : Bool). cond (not (b || is_among ids g)) (g ∷ without (id ∷ ids) gs) (without (id ∷ ids) gs)) goes
    ∙ untouched id ids (g.segment.id + 1) limit gs rise.2 (omega (arith, id_is)) in
    let all : without ids (g ∷ gs) ≡ g ∷ without ids gs = ap (λ (b : Bool). cond (not b) (g ∷ without ids gs) (without ids gs)) stays in
    subst (λ (l : List Lived). IsPermutation (flat_map f l) (f s ++ flat_map f (without (id ∷ ids) (g ∷ gs)))) (sym all)
    (subst (λ (l : List Lived). IsPermutation (f g ++ flat_map f (without ids gs)) (f s ++ flat_map f l)) (sym left)
    (subst (λ (x : Lived). IsPermutation (f g ++ flat_map f (without ids gs)) (f x ++ flat_map f (without ids gs))) is
    (IsPermutation-refl (f g ++ flat_map f (without ids gs)))))
one_out f id ids s low limit (g ∷ gs) rise (inr has) same apart =
    let later : g.segment.id < id = omega (arith, same, id_above (g.segment.id + 1) limit s gs rise.2 has) in
    by_bool (eqb id g.segment.id)
    (λ e. absurd (omega (arith, later, eqb-true id g.segment.id e)))
    (λ e.
    subst (λ (b : Bool). IsPermutation (flat_map f (without ids (g ∷ gs))) (f s ++ flat_map f (cond (not (b || is_among ids g)) (g ∷ without (id ∷ ids) gs) (without (id ∷ ids) gs)))) (sym e)
    (keep f (is_among ids g) g s (without ids gs) (without (id ∷ ids) gs) (one_out f id ids s (g.segment.id + 1) limit gs rise.2 has same apart)))

-- what the segments have is what those that stay and the sources have
pub parted : {X : Type 0} (f : Lived → List X) (low limit : ℕ) (gs : List Lived) (ids : List ℕ) (ss : List Lived) → SegmentIdsRise low limit gs → IdsDiffer ids
    → Sources gs ids ss → IsPermutation (flat_map f gs) (flat_map f (without ids gs) ++ flat_map f ss)
parted f low limit gs [] [] rise apart found =
    subst (IsPermutation (flat_map f gs)) (sym (append-nil (flat_map f (without [] gs)) ∙ ap (flat_map f) (without_none gs))) (IsPermutation-refl (flat_map f gs))
parted f low limit gs [] (s ∷ ss) rise apart found = absurd found
parted f low limit gs (id ∷ ids) [] rise apart found = absurd found
parted {X} f low limit gs (id ∷ ids) (s ∷ ss) rise apart found =
    let left = flat_map f (without (id ∷ ids) gs) in
    let rest = flat_map f ss in
    IsPermutation-trans (flat_map f gs) (flat_map f (without ids gs) ++ rest) (left ++ (f s ++ rest))
    (parted f low limit gs ids ss rise apart.1 found.1)
    (IsPermutation-trans (flat_map f (without ids gs) ++ rest) ((f s ++ left) ++ rest) (left ++ (f s ++ rest))
    (IsPermutation-append_left rest (flat_map f (without ids gs)) (f s ++ left) (one_out f id ids s low limit gs rise (is_in s gs found.0.0) found.0.1 apart.0))
    (subst (λ (l : List X). IsPermutation l (left ++ (f s ++ rest))) (sym (append_assoc (f s) left rest)) (swap_front (f s) left rest)))
