-- What `get_one` reads at `u64`, within bounds.
use Rattle.std.proofs.Common.{◌≡◌, ℕ, ◌^◌, ◌<◌, ◌≤◌, List, Bool, true, false, ◌&&◌, nat_le, nat_lt, if◌then◌else◌, Option, Some, None, Result, option_and_then, refl, sym, arith, inl, inr, ◌⊎◌, rules}
use borrow.Author.Tests.{tests}
use Rattle.std.specs.Str.Parse.{IsNumeral, ParsesUnsigned, ExplainsUnsignedError, HasUnsignedDigitsIfOk, digits_value, without_leading_plus}
use Rattle.std.specs.declared.num.ParseIntError.{ParseIntError}
use Rattle.clap.specs.Matches.{ReadsOne}
use Rattle.clap.specs.ValueTests.{accepts, is_numeral}
use Rattle.clap.specs.declared.builder.value_parser.ValueParser.TheVariants as vp
use Rattle.clap.proofs.ValueTestLemmas.{accepts-Accepts, Accepts-accepts}
use Rattle.clap.proofs.WalkLemmas.{both}
use Rattle.command_words.specs.Accepted.{number_text}

abbrev pub within : ℕ → ℕ → ℕ → Option ℕ
within low high n = if nat_le low n && nat_le n high then Some n else None

-- a text that `u64` reads is a number within the bounds where its value is
text_within : (low high : ℕ) (t : List ℕ) (v : ℕ) → IsNumeral 10 (without_leading_plus t) → digits_value 10 (without_leading_plus t) < 2 ^ 64 → v ≡ digits_value 10 (without_leading_plus t)
    → number_text low high t ≡ within low high v
text_within low high t v digits fits value =
    let whole : accepts false (vp.Unsigned 0 18446744073709551615) t ≡ true = Accepts-accepts false (vp.Unsigned 0 18446744073709551615) t (digits, fits, omega arith, omega arith) in
    let first = both _ _ whole in
    let numeral : is_numeral (without_leading_plus t) ≡ true = first.0 in
    let small : nat_lt (digits_value 10 (without_leading_plus t)) (2 ^ 64) ≡ true = (both _ _ first.1).0 in
    rw (numeral, small, value) refl

no_text : (low high : ℕ) (t : List ℕ) → ((IsNumeral 10 (without_leading_plus t) × (digits_value 10 (without_leading_plus t) < 2 ^ 64)) → ⊥) → number_text low high t ≡ None
no_text low high t refused = go (accepts false (vp.Unsigned low high) t) refl
  where
    go : (b : Bool) → accepts false (vp.Unsigned low high) t ≡ b → (if b then Some (digits_value 10 (without_leading_plus t)) else None) ≡ None
    go true e = let is = accepts-Accepts false (vp.Unsigned low high) t e in absurd (refused (is.0, is.1))
    go false e = refl

-- what `from_str` of `u64` may give
abbrev pub Reads : List ℕ → Result ℕ ParseIntError → Type 0
Reads bs r = ParsesUnsigned 64 10 bs r × ExplainsUnsignedError 10 bs r × HasUnsignedDigitsIfOk bs r

pub number_read : (low high : ℕ) (o : Option (List ℕ)) (r : Option ℕ) → (o ≡ None → r ≡ None) → ((t : List ℕ) → o ≡ Some t → ReadsOne Reads t r)
    → option_and_then (within low high) r ≡ option_and_then (number_text low high) o
number_read low high None r none value = rw (none refl) refl
number_read low high (Some t) (Some v) none value =
    let parsed = (value t refl).0 in
    sym (text_within low high t v parsed.0.0 parsed.0.1 parsed.1)
number_read low high (Some t) None none value = sym (no_text low high t (value t refl).1.0)

pub within-inside : (low high n : ℕ) → low ≤ n → n ≤ high → within low high n ≡ Some n
within-inside low high n above below = search (rules, tests)

pub within-outside : (low high n : ℕ) → ((n < low) ⊎ (high < n)) → within low high n ≡ None
within-outside low high n (inl below) = search (rules, tests)
within-outside low high n (inr above) = search (rules, tests)
