-- Places put one after another.
use Rattle.std.proofs.Common.{◌≡◌, ◌≢◌, ℕ, suc, ◌<◌, ◌-◌, ◌+◌, Some, List, [], ◌∷◌, ◌++◌, Bool, true, false, ◌==◌, if◌then◌else◌, length, map, take, get_or, refl, sym, ap, ◌∙◌, subst, arith}
use Rattle.std.specs.List.{slice_get}
use Rattle.std.proofs.lemmas.Bool.{eqb-true}
use Rattle.std.proofs.lemmas.List.{take_more, append-nil, append_assoc}
use Rattle.ix_base.specs.declared.postings.Posting.{Posting}
use Rattle.ix_base.specs.declared.spots.Spot.{Spot}
use Rattle.ix_base.proofs.GroupedLaws.{grouped_push}
use Rattle.ix_base.specs.Grouped.{joined, with_spot, grouped_from, grouped, with_row, position_in, positions_at, positions_in}

-- ---- rows

abbrev pub row_of : Posting → ℕ
row_of g = g.row

one_row : (g : Posting) (s : Spot) (b : Bool) → (if b then g.row ∷ [] else g.row ∷ s.row ∷ []) ≡ map row_of (joined b g s)
one_row g s true = refl
one_row g s false = refl

pub rows_with : (gs : List Posting) (s : Spot) → with_row (map row_of gs) s.row ≡ map row_of (with_spot gs s)
rows_with [] s = refl
rows_with (g ∷ []) s = one_row g s (g.row == s.row)
rows_with (g ∷ h ∷ gs) s = ap (λ l. g.row ∷ l) (rows_with (h ∷ gs) s)

later : (q p : ℕ) (xs : List ℕ) → slice_get (q ∷ p ∷ xs) (length (q ∷ p ∷ xs) - 1) ≡ slice_get (p ∷ xs) (length (p ∷ xs) - 1)
later q p xs =
    let e : length (q ∷ p ∷ xs) - 1 ≡ suc (length (p ∷ xs) - 1) = omega arith in
    ap (slice_get (q ∷ p ∷ xs)) e

pub row_stays : (xs : List ℕ) (row : ℕ) → slice_get xs (length xs - 1) ≡ Some row → xs ≡ with_row xs row
row_stays [] row h = grind arith
row_stays (q ∷ []) row h = grind arith
row_stays (q ∷ p ∷ xs) row h = ap (λ (l : List ℕ). q ∷ l) (row_stays (p ∷ xs) row (sym (later q p xs) ∙ h))

pub row_comes : (xs : List ℕ) (row : ℕ) → slice_get xs (length xs - 1) ≢ Some row → xs ++ row ∷ [] ≡ with_row xs row
row_comes [] row h = refl
row_comes (q ∷ []) row h = comes (q == row) refl
  where
    comes : (b : Bool) → (q == row) ≡ b → q ∷ row ∷ [] ≡ (if b then q ∷ [] else q ∷ row ∷ [])
    comes true e = absurd (h (ap (λ (n : ℕ). Some n) (eqb-true q row e)))
    comes false e = refl
row_comes (q ∷ p ∷ xs) row h = ap (λ (l : List ℕ). q ∷ l) (row_comes (p ∷ xs) row (λ e. h (later q p xs ∙ e)))

-- ---- positions

pub last_of : {xs ys : List ℕ} {row : ℕ} → ys ≡ xs → slice_get ys (length ys - 1) ≡ Some row → slice_get xs (length xs - 1) ≡ Some row
last_of {xs} {ys} {row} e h = subst (λ (l : List ℕ). slice_get l (length l - 1) ≡ Some row) e h

pub rows_step : (spots : List Spot) (i : ℕ) (old new : List ℕ) (s : Spot) → i < length spots → old ≡ map row_of (grouped (take i spots)) → new ≡ with_row old (get_or spots i s).row → new ≡ map row_of (grouped (take (i + 1) spots))
rows_step spots i old new s lt was is =
    let e : take (i + 1) spots ≡ take i spots ++ get_or spots i s ∷ [] = take_more spots i s lt in
    is ∙ ap (λ (l : List ℕ). with_row l (get_or spots i s).row) was
    ∙ rows_with (grouped (take i spots)) (get_or spots i s)
    ∙ ap (map row_of) (sym (grouped_push [] (take i spots) (get_or spots i s)))
    ∙ ap (λ (l : List Spot). map row_of (grouped l)) (sym e)

-- ---- positions in a row

alike : (g : Posting) (s : Spot) (row : ℕ) (same : Bool) → (g.row == s.row) ≡ same → positions_in row (joined same g s) ≡ positions_in row (g ∷ []) ++ position_in row s
alike g s row true e = rw (sym (eqb-true g.row s.row e)) (split (g.row == row))
  where
    split : (b : Bool) → (if b then g.positions ++ s.position ∷ [] else []) ++ [] ≡ ((if b then g.positions else []) ++ []) ++ (if b then s.position ∷ [] else [])
    split true = append-nil (g.positions ++ s.position ∷ []) ∙ ap (λ (l : List ℕ). l ++ s.position ∷ []) (sym (append-nil g.positions))
    split false = refl
alike g s row false e = ap (λ (l : List ℕ). (if g.row == row then g.positions else []) ++ l) (append-nil (position_in row s)) ∙ ap (λ (l : List ℕ). l ++ position_in row s) (sym (append-nil (if g.row == row then g.positions else [])))

pub positions_with : (row : ℕ) (gs : List Posting) (s : Spot) → positions_in row (with_spot gs s) ≡ positions_in row gs ++ position_in row s
positions_with row [] s = append-nil (position_in row s)
positions_with row (g ∷ []) s = alike g s row (g.row == s.row) refl
positions_with row (g ∷ h ∷ gs) s =
    let front = if g.row == row then g.positions else [] in
    ap (λ (l : List ℕ). front ++ l) (positions_with row (h ∷ gs) s) ∙ sym (append_assoc front (positions_in row (h ∷ gs)) (position_in row s))

-- the postings of places have in a row the positions of those places
pub positions_are : (row : ℕ) (gs : List Posting) (spots : List Spot) → positions_in row (grouped_from gs spots) ≡ positions_in row gs ++ positions_at row spots
positions_are row gs [] = sym (append-nil (positions_in row gs))
positions_are row gs (s ∷ rest) =
    positions_are row (with_spot gs s) rest
    ∙ ap (λ (l : List ℕ). l ++ positions_at row rest) (positions_with row gs s)
    ∙ append_assoc (positions_in row gs) (position_in row s) (positions_at row rest)
