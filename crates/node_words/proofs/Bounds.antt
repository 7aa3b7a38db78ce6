-- Reading a name and the two bounds of a range.
use Rattle.std.proofs.Common.{ℤ, List, ◌++◌}
use Rattle.std.specs.Int.{w64}
use Rattle.std.specs.Prelude.{FitsSigned, ℕ}
use Rattle.ix_base.specs.Spelling.{signed64, text_bytes, IsName}
use Rattle.node_words.proofs.Both.{both_begin, both_one_form, first_fails, second_fails}
use Rattle.node_words.proofs.Forms.{OneForm, one_name, one_signed}
use Rattle.node_words.specs.Reads.{StandsAtStart, NoneAtStart, Range, IsRange, range_bytes}
use Rattle.node_words.specs.declared.fault.ReadError.TheVariants.{Foreign}

abbrev Bounds : Type 0
Bounds = ℤ × ℤ

abbrev AreBounds : Bounds → Type 0
AreBounds b = FitsSigned w64 b.0 × FitsSigned w64 b.1

abbrev bounds_bytes : Bounds → List ℕ
bounds_bytes b = signed64 b.0 ++ signed64 b.1

pub one_range : OneForm IsRange range_bytes
one_range = both_one_form IsName text_bytes AreBounds bounds_bytes one_name (both_one_form (FitsSigned w64) signed64 (FitsSigned w64) signed64 one_signed one_signed)

pub no_range_name : (bytes : List ℕ) → NoneAtStart IsName text_bytes bytes → NoneAtStart IsRange range_bytes bytes
no_range_name bytes h = first_fails IsName text_bytes AreBounds bounds_bytes (λ (r : Range). r.0) (λ (r : Range). r.1) Foreign bytes h

pub no_low : (name bytes mid : List ℕ) → StandsAtStart IsName text_bytes name bytes mid → NoneAtStart (FitsSigned w64) signed64 mid → NoneAtStart IsRange range_bytes bytes
no_low name bytes mid p h =
    second_fails IsName text_bytes AreBounds bounds_bytes (λ (r : Range). r.0) (λ (r : Range). r.1) one_name Foreign name bytes mid p
    (first_fails (FitsSigned w64) signed64 (FitsSigned w64) signed64 (λ (b : Bounds). b.0) (λ (b : Bounds). b.1) Foreign mid h)

pub no_high : (name : List ℕ) (low : ℤ) (bytes mid rest : List ℕ) → StandsAtStart IsName text_bytes name bytes mid → StandsAtStart (FitsSigned w64) signed64 low mid rest → NoneAtStart (FitsSigned w64) signed64 rest
    → NoneAtStart IsRange range_bytes bytes
no_high name low bytes mid rest p q h =
    second_fails IsName text_bytes AreBounds bounds_bytes (λ (r : Range). r.0) (λ (r : Range). r.1) one_name Foreign name bytes mid p
    (second_fails (FitsSigned w64) signed64 (FitsSigned w64) signed64 (λ (b : Bounds). b.0) (λ (b : Bounds). b.1) one_signed Foreign low mid rest q h)

pub range_begins : (name : List ℕ) (low high : ℤ) (bytes mid late rest : List ℕ) → StandsAtStart IsName text_bytes name bytes mid → StandsAtStart (FitsSigned w64) signed64 low mid late
    → StandsAtStart (FitsSigned w64) signed64 high late rest → StandsAtStart IsRange range_bytes (name, (low, high)) bytes rest
range_begins name low high bytes mid late rest p q r =
    both_begin IsName text_bytes AreBounds bounds_bytes name (low, high) bytes mid rest p (both_begin (FitsSigned w64) signed64 (FitsSigned w64) signed64 low high mid late rest q r)
