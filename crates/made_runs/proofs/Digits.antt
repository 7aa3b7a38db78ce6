-- The decimal digits of a number in front of a dash tell the number.
use Rattle.std.proofs.Common.{◌≡◌, ℕ, ◌<◌, List, [], ◌∷◌, ◌++◌, refl, subst, arith}
use Rattle.std.proofs.lemmas.Fmt.{decimal_is_IsNumeral, decimal_injective}
use Rattle.std.specs.Fmt.{decimal}
use Rattle.std.specs.Char.{digit_value}
use Rattle.std.specs.Str.Parse.{AllDigits}

no_digit : digit_value 45 < 10 → ⊥
no_digit lt = absurd (omega (arith, lt))

same_digits : (xs ys us vs : List ℕ) → AllDigits 10 xs → AllDigits 10 ys → xs ++ 45 ∷ us ≡ ys ++ 45 ∷ vs → xs ≡ ys
same_digits [] [] us vs first second e = refl
same_digits [] (y ∷ ys) us vs first second e =
    let here : y ≡ 45 = cc in absurd (no_digit (subst (λ (c : ℕ). digit_value c < 10) here second.0))
same_digits (x ∷ xs) [] us vs first second e =
    let here : x ≡ 45 = cc in absurd (no_digit (subst (λ (c : ℕ). digit_value c < 10) here first.0))
same_digits (x ∷ xs) (y ∷ ys) us vs first second e =
    let rest : xs ++ 45 ∷ us ≡ ys ++ 45 ∷ vs = cc in
    let more = same_digits xs ys us vs first.1 second.1 rest in
    let here : x ≡ y = cc in
    cc

pub numbers_apart : (letter a b : ℕ) (us vs : List ℕ) → a < 256 → b < 256
    → letter ∷ (decimal a ++ 45 ∷ us) ≡ letter ∷ (decimal b ++ 45 ∷ vs) → a ≡ b
numbers_apart letter a b us vs small other e =
    let rest : decimal a ++ 45 ∷ us ≡ decimal b ++ 45 ∷ vs = cc in
    decimal_injective a b (omega (arith, small)) (omega (arith, other))
    (same_digits (decimal a) (decimal b) us vs (decimal_is_IsNumeral a (omega (arith, small))).0.1
    (decimal_is_IsNumeral b (omega (arith, other))).0.1 rest)
