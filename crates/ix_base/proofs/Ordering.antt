-- Postings that stay in order as a place is put behind them.
use Rattle.std.proofs.Common.{◌≡◌, ◌≢◌, ℕ, ◌-◌, ◌<◌, ◌≤◌, Some, ◌||◌, List, [], ◌∷◌, ◌++◌, Bool, true, false, ◌&&◌, ◌==◌, length, get_or, ◌⊎◌, inl, inr, refl, sym, ap, ◌∙◌, subst, arith}
use Rattle.std.specs.List.{All, AllPairs, slice_get}
use Rattle.std.proofs.lemmas.Bool.{eqb-true, eq-eqb, and_from, and_parts, cases_lt}
use Rattle.std.proofs.lemmas.List.{get_or_push, length_push, append_assoc}
use Rattle.std.proofs.lemmas.List.Folds.{list_any_at, Any-from_list_any}
use Rattle.std.proofs.lemmas.List.Elements.{All-weaker, All-nil}
use Rattle.ix_base.specs.Inversion.{has_number, posted_at, IsPosting}
use Rattle.ix_base.specs.declared.postings.Posting.{Posting}
use Rattle.ix_base.specs.declared.spots.Spot.{Spot}
use Rattle.ix_base.specs.Grouped.{one, joined, with_spot, grouped, ArePostings, AreSpots, IsBefore, IsAfter, IsUpto}
use Rattle.ix_base.proofs.GroupedLaws.{grouped_push, posted_are, is_spot}
use Rattle.ix_base.proofs.Ends.{ends, All-front, All-last, All-push, pairs_front, pairs_last, pairs_push}

at_end : (front : List Posting) (last : Posting) (s : Spot) → with_spot (front ++ last ∷ []) s ≡ front ++ joined (last.row == s.row) last s
at_end [] last s = refl
at_end (g ∷ []) last s = refl
at_end (g ∷ h ∷ gs) last s = ap (λ (l : List Posting). g ∷ l) (at_end (h ∷ gs) last s)

some_push : {X : Type 0} (xs : List X) (y : X) → 0 < length (xs ++ y ∷ [])
some_push xs y = omega (arith, length_push xs y)

-- a position of the last posting is posted
last_posted : (front : List Posting) (last : Posting) (i d : ℕ) → i < length last.positions → posted_at (front ++ last ∷ []) last.row (get_or last.positions i d) ≡ true
last_posted front last i d lt =
    let x = get_or last.positions i d in
    let has : has_number last.positions x ≡ true = list_any_at (λ y. y == x) last.positions i d lt (eq-eqb x x refl) in
    let p : Posting → Bool = λ g. (g.row == last.row) && has_number g.positions x in
    let here : p last ≡ true = and_from (last.row == last.row) (has_number last.positions x) (eq-eqb last.row last.row refl) has in
    let long : length front < length (front ++ last ∷ []) = omega (arith, length_push front last) in
    list_any_at p (front ++ last ∷ []) (length front) last long (subst (λ (g : Posting). p g ≡ true) (sym (get_or_push front last last (length front) refl)) here)

one_is : (s : Spot) → IsPosting (one s)
one_is s = record { some = omega arith; rise = pairs_push (λ (a : ℕ) (b : ℕ). a < b) [] s.position (λ i j d lt in'. absurd (omega arith)) (All-nil (λ x. x < s.position)) }

begins : (gs : List Posting) (s : Spot) → ArePostings gs → All (λ g. g.row < s.row) gs → ArePostings (gs ++ one s ∷ [])
begins gs s h below = record {
  rise = pairs_push (λ a b. a.row < b.row) gs (one s) h.rise below;
  each = All-push IsPosting gs (one s) h.each (one_is s);
}

goes_on : (front : List Posting) (last : Posting) (s : Spot) → ArePostings (front ++ last ∷ []) → All (λ x. x < s.position) last.positions → ArePostings (front ++ record { row = last.row; positions = last.positions ++ s.position ∷ [] } ∷ [])
goes_on front last s h below =
    let new : Posting = record { row = last.row; positions = last.positions ++ s.position ∷ [] } in
    let was = All-last IsPosting front last h.each in
    let is : IsPosting new = record { some = some_push last.positions s.position; rise = pairs_push (λ a b. a < b) last.positions s.position was.rise below } in
    record {
      rise = pairs_push (λ a b. a.row < b.row) front new (pairs_front (λ a b. a.row < b.row) front last h.rise) (All-weaker (λ g. g.row < last.row) (λ g. g.row < new.row) (λ g l. l) front (pairs_last (λ a b. a.row < b.row) front last h.rise));
      each = All-push IsPosting front new (All-front IsPosting front last h.each) is;
    }

follows : (front : List Posting) (last : Posting) (s : Spot) → ArePostings (front ++ last ∷ []) → IsAfter s.row s.position (front ++ last ∷ []) → (same : Bool) → (last.row == s.row) ≡ same → ArePostings (front ++ joined same last s)
follows front last s h after true e =
    let is : last.row ≡ s.row = eqb-true last.row s.row e in
    goes_on front last s h (λ i d lt. go is (after last.row (get_or last.positions i d) (last_posted front last i d lt)))
  where
    go : {x : ℕ} → last.row ≡ s.row → (last.row < s.row) ⊎ ((last.row ≡ s.row) × (x < s.position)) → x < s.position
    go q (inl l) = absurd (omega arith)
    go q (inr p) = p.1
follows front last s h after false e =
    let was = All-last IsPosting front last h.each in
    let low : last.row < s.row = go (after last.row (get_or last.positions 0 0) (last_posted front last 0 0 was.some)) in
    let fronts : All (λ g. g.row < s.row) front = All-weaker (λ g. g.row < last.row) (λ g. g.row < s.row) (λ g l. omega arith) front (pairs_last (λ a b. a.row < b.row) front last h.rise) in
    subst ArePostings (append_assoc front (last ∷ []) (one s ∷ [])) (begins (front ++ last ∷ []) s h (All-push (λ g. g.row < s.row) front last fronts low))
  where
    go : {x : ℕ} → (last.row < s.row) ⊎ ((last.row ≡ s.row) × (x < s.position)) → last.row < s.row
    go (inl l) = l
    go (inr p) = let q : true ≡ false = sym (eq-eqb last.row s.row p.0) ∙ e in cc

-- the place comes after all that are there
pub stays_ordered : (gs : List Posting) (s : Spot) → ArePostings gs → IsAfter s.row s.position gs → ArePostings (with_spot gs s)
stays_ordered gs s h after = go (ends gs)
  where
    go : (gs ≡ []) ⊎ ((front : List Posting) × (last : Posting) × (gs ≡ front ++ last ∷ [])) → ArePostings (with_spot gs s)
    go (inl e) = subst (λ (l : List Posting). ArePostings (with_spot l s)) (sym e) (begins [] s (subst ArePostings e h) (All-nil (λ g. g.row < s.row)))
    go (inr p) =
        let lawful = subst ArePostings p.2 h in
        let behind = subst (IsAfter s.row s.position) p.2 after in
        subst (λ (l : List Posting). ArePostings (with_spot l s)) (sym p.2) (subst ArePostings (sym (at_end p.0 p.1 s)) (follows p.0 p.1 s lawful behind (p.1.row == s.row) refl))

pub posted_spot : (spots : List Spot) (k : ℕ) (d : Spot) → k < length spots → posted_at (grouped spots) (get_or spots k d).row (get_or spots k d).position ≡ true
posted_spot spots k d lt =
    let s = get_or spots k d in
    posted_are [] spots s.row s.position
    ∙ list_any_at (is_spot s.row s.position) spots k d lt (and_from (s.row == s.row) (s.position == s.position) (eq-eqb s.row s.row refl) (eq-eqb s.position s.position refl))

-- one more place behind those that are there
pub spots_more : (spots : List Spot) (s : Spot) → AreSpots spots → IsAfter s.row s.position (grouped spots) → AreSpots (spots ++ s ∷ [])
spots_more spots s h after = record {
  rise = pairs_push IsBefore spots s h.rise (λ k d lt. after (get_or spots k d).row (get_or spots k d).position (posted_spot spots k d lt));
  postings = subst ArePostings (sym (grouped_push [] spots s)) (stays_ordered (grouped spots) s h.postings after);
}

-- ---- a place that may be the last

get_last : {X : Type 0} (front : List X) (last : X) → slice_get (front ++ last ∷ []) (length (front ++ last ∷ []) - 1) ≡ Some last
get_last {X} front last =
    let n : length (front ++ last ∷ []) - 1 ≡ length front = omega (arith, length_push front last) in
    ap (slice_get (front ++ last ∷ [])) n ∙ go front
  where
    go : (xs : List X) → slice_get (xs ++ last ∷ []) (length xs) ≡ Some last
    go [] = refl
    go (x ∷ xs) = go xs

last_upto : (last s : Spot) → (last.row < s.row) ⊎ ((last.row ≡ s.row) × (last.position ≤ s.position)) → last ≢ s → IsBefore last s
last_upto last s (inl l) other = inl l
last_upto last s (inr p) other = go (cases_lt last.position s.position)
  where
    go : (last.position < s.position) ⊎ (s.position ≤ last.position) → IsBefore last s
    go (inl l) = inr (p.0, l)
    go (inr g) =
        let row : last.row ≡ s.row = p.0 in
        let most : last.position ≤ s.position = p.1 in
        let position : last.position ≡ s.position = omega arith in
        absurd (other (λ i. record { row = row i; position = position i }))

then_before : (a b c : Spot) → IsBefore a b → IsBefore b c → IsBefore a c
then_before a b c (inl l) (inl m) = inl (omega arith)
then_before a b c (inl l) (inr p) = let e : b.row ≡ c.row = p.0 in inl (omega arith)
then_before a b c (inr p) (inl m) = let e : a.row ≡ b.row = p.0 in inl (omega arith)
then_before a b c (inr p) (inr q) =
    let below : a.position < b.position = p.1 in
    let more : b.position < c.position = q.1 in
    inr (p.0 ∙ q.0, omega arith)

all_before : (spots : List Spot) (s : Spot) → AllPairs IsBefore spots → IsUpto s.row s.position (grouped spots) → slice_get spots (length spots - 1) ≢ Some s → All (λ e. IsBefore e s) spots
all_before spots s rise upto other = go (ends spots)
  where
    go : (spots ≡ []) ⊎ ((front : List Spot) × (last : Spot) × (spots ≡ front ++ last ∷ [])) → All (λ e. IsBefore e s) spots
    go (inl e) = subst (All (λ (t : Spot). IsBefore t s)) (sym e) (All-nil (λ t. IsBefore t s))
    go (inr p) =
        let front = p.0 in
        let last = p.1 in
        let up = subst (AllPairs IsBefore) p.2 rise in
        let got : slice_get spots (length spots - 1) ≡ Some last = ap (λ (l : List Spot). slice_get l (length l - 1)) p.2 ∙ get_last front last in
        let differs : last ≢ s = λ e. other (got ∙ ap Some e) in
        let there : All (λ t. (t.row < s.row) ⊎ ((t.row ≡ s.row) × (t.position ≤ s.position))) spots = λ k d lt. upto (get_or spots k d).row (get_or spots k d).position (posted_spot spots k d lt) in
        let below : IsBefore last s = last_upto last s (All-last (λ t. (t.row < s.row) ⊎ ((t.row ≡ s.row) × (t.position ≤ s.position))) front last (subst (All (λ (t : Spot). (t.row < s.row) ⊎ ((t.row ≡ s.row) × (t.position ≤ s.position)))) p.2 there)) differs in
        let fronts : All (λ t. IsBefore t s) front = All-weaker (λ t. IsBefore t last) (λ t. IsBefore t s) (λ t b. then_before t last s b below) front (pairs_last IsBefore front last up) in
        subst (All (λ (t : Spot). IsBefore t s)) (sym p.2) (All-push (λ t. IsBefore t s) front last fronts below)

-- a place that isn't the last comes after it
pub after_upto : (spots : List Spot) (s : Spot) → AreSpots spots → IsUpto s.row s.position (grouped spots) → slice_get spots (length spots - 1) ≢ Some s → IsAfter s.row s.position (grouped spots)
after_upto spots s h upto other r x posted =
    let before = all_before spots s h.rise upto other in
    let a = Any-from_list_any (is_spot r x) spots (sym (posted_are [] spots r x) ∙ posted) in
    let e : Spot = a.1 in
    let is = and_parts (e.row == r) (e.position == x) a.4 in
    let row : e.row ≡ r = eqb-true e.row r is.0 in
    let position : e.position ≡ x = eqb-true e.position x is.1 in
    let found : IsBefore e s = subst (λ (t : Spot). IsBefore t s) a.3 (before a.0 e a.2) in
    subst (λ (n : ℕ). (n < s.row) ⊎ ((n ≡ s.row) × (x < s.position))) row (subst (λ (n : ℕ). (e.row < s.row) ⊎ ((e.row ≡ s.row) × (n < s.position))) position found)

-- the last place is there already
pub last_there : (spots : List Spot) (s : Spot) → slice_get spots (length spots - 1) ≡ Some s → posted_at (grouped spots) s.row s.position ≡ true
last_there spots s is = go (ends spots)
  where
    go : (spots ≡ []) ⊎ ((front : List Spot) × (last : Spot) × (spots ≡ front ++ last ∷ [])) → posted_at (grouped spots) s.row s.position ≡ true
    go (inl e) = let q = sym (ap (λ (l : List Spot). slice_get l (length l - 1)) e) ∙ is in cc
    go (inr p) =
        let front = p.0 in
        let last = p.1 in
        let got : slice_get spots (length spots - 1) ≡ Some last = ap (λ (l : List Spot). slice_get l (length l - 1)) p.2 ∙ get_last front last in
        let same : last ≡ s = (let q : Some last ≡ Some s = sym got ∙ is in cc) in
        let long : length front < length spots = omega (arith, length_push front last, ap length p.2) in
        let at : get_or spots (length front) last ≡ s = ap (λ (l : List Spot). get_or l (length front) last) p.2 ∙ get_or_push front last last (length front) refl ∙ same in
        subst (λ (t : Spot). posted_at (grouped spots) t.row t.position ≡ true) at (posted_spot spots (length front) last long)

pub already : (gs : List Posting) (row position r x : ℕ) → posted_at gs row position ≡ true → posted_at gs r x ≡ (posted_at gs r x || ((row == r) && (position == x)))
already gs row position r x there = go ((row == r) && (position == x)) refl
  where
    ends : (b : Bool) → b ≡ (b || false)
    ends true = refl
    ends false = refl

    go : (b : Bool) → ((row == r) && (position == x)) ≡ b → posted_at gs r x ≡ (posted_at gs r x || b)
    go true e =
        let is = and_parts (row == r) (position == x) e in
        let at : posted_at gs r x ≡ true = subst (λ (n : ℕ). posted_at gs r n ≡ true) (eqb-true position x is.1) (subst (λ (n : ℕ). posted_at gs n position ≡ true) (eqb-true row r is.0) there) in
        at ∙ ap (λ (b : Bool). b || true) (sym at)
    go false e = ends (posted_at gs r x)
