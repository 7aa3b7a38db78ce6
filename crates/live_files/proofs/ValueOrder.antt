-- How set numbers are ordered: by row, and by name within a row.
use Rattle.std.proofs.Common.{◌≡◌, ℕ, ◌<◌, ◌≤◌, Bool, true, ◌&&◌, eqb, ltb, List, arith, inl, inr}
use Rattle.std.specs.Prelude.{◌⊎◌}
use Rattle.std.specs.Cmp.Derive.{both_true}
use Rattle.std.proofs.lemmas.Bool.{and_parts, or_cases, or_left, or_right, eqb-true, eq-eqb, ltb-true, lt-ltb}
use Rattle.ix_base.specs.Limits.{text_lt}
use Rattle.live_files.specs.LiveFits.{is_before}

-- how one row and name come before others
abbrev pub Before : ℕ → List ℕ → ℕ → List ℕ → Type 0
Before row name next_row next_name = (row < next_row) ⊎ ((row ≡ next_row) × (text_lt name next_name ≡ true))

same_row : (row next_row : ℕ) (lower : Bool) → (eqb row next_row && lower) ≡ true → (row ≡ next_row) × (lower ≡ true)
same_row row next_row lower e = let h = and_parts (eqb row next_row) lower e in (eqb-true row next_row h.0, h.1)

pub before_of : (row : ℕ) (name : List ℕ) (next_row : ℕ) (next_name : List ℕ) → is_before row name next_row next_name ≡ true → Before row name next_row next_name
before_of row name next_row next_name e =
    elim (or_cases (ltb row next_row) (eqb row next_row && text_lt name next_name) e) [
      | inl h ↦ inl (ltb-true row next_row h)
      | inr h ↦ inr (same_row row next_row (text_lt name next_name) h)
    ]

pub of_before : (row : ℕ) (name : List ℕ) (next_row : ℕ) (next_name : List ℕ) → Before row name next_row next_name → is_before row name next_row next_name ≡ true
of_before row name next_row next_name (inl lt) = or_left (ltb row next_row) (eqb row next_row && text_lt name next_name) (lt-ltb row next_row lt)
of_before row name next_row next_name (inr h) = or_right (ltb row next_row) (eqb row next_row && text_lt name next_name) (both_true (eq-eqb row next_row h.0) h.1)

pub not_after : (row : ℕ) (name : List ℕ) (next_row : ℕ) (next_name : List ℕ) → Before row name next_row next_name → row ≤ next_row
not_after row name next_row next_name (inl lt) = omega arith
not_after row name next_row next_name (inr h) = omega (arith, h.0)
