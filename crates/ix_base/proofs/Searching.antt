-- Places of one row, found among places by row.
use Rattle.std.proofs.Common.{◌≡◌, ◌≢◌, ℕ, zero, suc, ◌<◌, ◌≤◌, List, [], ◌∷◌, ◌++◌, Bool, if◌then◌else◌, length, get_or, map, take, drop, ◌⊎◌, inl, inr, refl, sym, ap, ◌∙◌, arith}
use Rattle.std.specs.List.{All, AllPairs, AllWithin}
use Rattle.std.proofs.lemmas.Bool.{eq-eqb, ne_eqb, cases_lt}
use Rattle.ix_base.specs.declared.spots.Spot.{Spot}
use Rattle.ix_base.specs.Grouped.{position_in, positions_at, IsBefore, IsByRow}

pub by_row : (spots : List Spot) → AllPairs IsBefore spots → IsByRow spots
by_row spots rise i j d le lt = go (cases_lt i j)
  where
    low : (a b : Spot) → IsBefore a b → a.row ≤ b.row
    low a b (inl l) = omega arith
    low a b (inr p) = let e : a.row ≡ b.row = p.0 in omega arith

    go : (i < j) ⊎ (j ≤ i) → (get_or spots i d).row ≤ (get_or spots j d).row
    go (inl l) = low (get_or spots i d) (get_or spots j d) (rise i j d l lt)
    go (inr g) = let e : i ≡ j = omega arith in omega (arith, ap (λ (k : ℕ). (get_or spots k d).row) e)

skipped : (row : ℕ) (s : Spot) → s.row ≢ row → position_in row s ≡ []
skipped row s ne = ap (λ (b : Bool). if b then s.position ∷ [] else []) (ne_eqb s.row row ne)

taken : (row : ℕ) (s : Spot) → s.row ≡ row → position_in row s ≡ s.position ∷ []
taken row s e = ap (λ (b : Bool). if b then s.position ∷ [] else []) (eq-eqb s.row row e)

-- places of earlier rows left out
pub past : (row n : ℕ) (spots : List Spot) → n ≤ length spots → AllWithin (λ s. s.row < row) spots 0 n → positions_at row (drop n spots) ≡ positions_at row spots
past row zero spots le low = refl
past row (suc n) [] le low = refl
past row (suc n) (s ∷ rest) le low =
    let first : s.row < row = low 0 s (omega arith) (omega arith) in
    past row n rest (omega arith) (λ k d from lt. low (suc k) d (omega arith) (omega arith))
    ∙ sym (ap (λ (l : List ℕ). l ++ positions_at row rest) (skipped row s (λ e. omega arith)))

none : (row : ℕ) (spots : List Spot) → All (λ s. row < s.row) spots → positions_at row spots ≡ []
none row [] high = refl
none row (s ∷ rest) high =
    let first : row < s.row = high 0 s (omega arith) in
    ap (λ (l : List ℕ). l ++ positions_at row rest) (skipped row s (λ e. omega arith)) ∙ none row rest (λ k d lt. high (suc k) d (omega arith))

-- the places of the row, where those of later rows alone come behind them
pub here : (row n : ℕ) (spots : List Spot) → n ≤ length spots → AllWithin (λ s. s.row ≡ row) spots 0 n → AllWithin (λ s. row < s.row) spots n (length spots) → map (λ s. s.position) (take n spots) ≡ positions_at row spots
here row zero spots le same high = sym (none row spots (λ k d lt. high k d (omega arith) lt))
here row (suc n) [] le same high = refl
here row (suc n) (s ∷ rest) le same high =
    ap (λ (l : List ℕ). s.position ∷ l) (here row n rest (omega arith) (λ k d from lt. same (suc k) d (omega arith) (omega arith)) (λ k d from lt. high (suc k) d (omega arith) (omega arith)))
    ∙ sym (ap (λ (l : List ℕ). l ++ positions_at row rest) (taken row s (same 0 s (omega arith) (omega arith))))
