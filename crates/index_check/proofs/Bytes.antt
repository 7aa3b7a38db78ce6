-- Bytes that are compared place by place.
use Rattle.std.proofs.Common.{◌≡◌, ◌∙◌, ℕ, zero, suc, ◌<◌, ◌≤◌, List, [], ◌∷◌, length, get_or, take, refl, sym, arith}
use Rattle.std.proofs.lemmas.List.{take_all}

abbrev Fit : List ℕ → Type 0
Fit xs = (k : ℕ) → k < length xs → get_or xs k 0 < 256

fit_rest : (x : ℕ) (xs : List ℕ) → Fit (x ∷ xs) → Fit xs
fit_rest x xs fit k lt = fit (suc k) (omega (arith, lt))

-- bytes that are the same at each of the first few places, where 256 stands behind the end
pub same_before : (xs ys : List ℕ) (n : ℕ) → Fit xs → Fit ys → ((k : ℕ) → k < n → get_or xs k 256 ≡ get_or ys k 256) → take n xs ≡ take n ys
same_before xs ys zero fx fy same = refl
same_before [] [] (suc n) fx fy same = refl
same_before [] (y ∷ ys) (suc n) fx fy same = absurd (omega (arith, same 0 (omega arith), fy 0 (omega arith)))
same_before (x ∷ xs) [] (suc n) fx fy same = absurd (omega (arith, same 0 (omega arith), fx 0 (omega arith)))
same_before (x ∷ xs) (y ∷ ys) (suc n) fx fy same =
    let first : x ≡ y = same 0 (omega arith) in
    let rest : take n xs ≡ take n ys = same_before xs ys n (fit_rest x xs fx) (fit_rest y ys fy) (λ k lt. same (suc k) (omega (arith, lt))) in
    cc

pub same_bytes : (xs ys : List ℕ) (n : ℕ) → Fit xs → Fit ys → length xs ≤ n → length ys ≤ n → ((k : ℕ) → k < n → get_or xs k 256 ≡ get_or ys k 256) → xs ≡ ys
same_bytes xs ys n fx fy x_le y_le same = sym (take_all n xs x_le) ∙ same_before xs ys n fx fy same ∙ take_all n ys y_le
