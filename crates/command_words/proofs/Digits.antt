-- Decimal digits, as clap reads them.
use Rattle.std.proofs.Common.{◌≡◌, ℕ, ◌<◌, ◌≤◌, ◌^◌, ◌==◌, List, [], ◌∷◌, Bool, true, false, cond, drop, Some, None, ◌∙◌, refl, ap, arith}
use Rattle.std.specs.Str.Parse.{IsNumeral, digits_value, without_leading_plus}
use Rattle.std.proofs.lemmas.Bool.{ne_eqb}
use Rattle.std.proofs.lemmas.Str.Parse.{digit_from_value}
use Rattle.clap.specs.Values.{IsUnsignedIn}
use Rattle.clap.specs.ValueTests.{accepts}
use Rattle.clap.specs.declared.builder.value_parser.ValueParser.TheVariants as parser
use Rattle.clap.proofs.ValueTestLemmas.{Accepts-accepts}
use Rattle.command_words.specs.Accepted.{number_text}

-- digits don't begin with a hyphen
pub no_minus : (d : ℕ) (ds : List ℕ) → IsNumeral 10 (d ∷ ds) → (d == 45) ≡ false
no_minus d ds digits = ne_eqb _ _ (λ e. omega (arith, digit_from_value d digits.1.0))

-- nor with a plus
no_plus : (text : List ℕ) → IsNumeral 10 text → without_leading_plus text ≡ text
no_plus [] digits = refl
no_plus (d ∷ ds) digits =
    let plus : (d == 43) ≡ false = ne_eqb _ _ (λ e. omega (arith, digit_from_value d digits.1.0)) in
    ap (λ (b : Bool). drop (cond b 1 0) (d ∷ ds)) plus

-- the decimal digits of a number from low to high
abbrev pub IsDecimal : ℕ → ℕ → List ℕ → Type 0
IsDecimal low high text = IsNumeral 10 text × (low ≤ digits_value 10 text) × (digits_value 10 text ≤ high)

pub decimal_accepted : (low high : ℕ) (text : List ℕ) → high < 2 ^ 64 → IsDecimal low high text → accepts false (parser.Unsigned low high) text ≡ true
decimal_accepted low high text small is =
    let bare = no_plus text is.0 in
    let fits : digits_value 10 text < 2 ^ 64 = omega (arith, is.2, small) in
    let whole : IsUnsignedIn low high text = rw bare (is.0, fits, is.1, is.2) in
    Accepts-accepts false (parser.Unsigned low high) text whole

pub decimal_number : (low high : ℕ) (text : List ℕ) → high < 2 ^ 64 → IsDecimal low high text → number_text low high text ≡ Some (digits_value 10 text)
decimal_number low high text small is =
    let taken = decimal_accepted low high text small is in
    let bare = no_plus text is.0 in
    ap (λ (b : Bool). cond b (Some (digits_value 10 (without_leading_plus text))) None) taken ∙ ap (λ (t : List ℕ). Some (digits_value 10 t)) bare
