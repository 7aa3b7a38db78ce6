-- The births of the sources' next rows.
use Rattle.std.proofs.Common.{◌≡◌, ◌≢◌, ◌∙◌, ℕ, zero, suc, ◌+◌, ◌<◌, List, [], ◌∷◌, ◌++◌, Option, Some, None, length, get_or, set, replicate, ◌⊎◌, inl, inr, refl, sym, ap, arith}
use Rattle.std.specs.List.{slice_get}
use Rattle.std.specs.Option.{option_map}
use Rattle.std.proofs.lemmas.List.{get_or-set_other, get_or-set_same, length-set}
use Rattle.ix_base.specs.declared.document.Row.{Row}
use Rattle.segment_core.specs.LiveRows.{Lived}
use Rattle.merge_core.specs.Reading.{row_at}
use Rattle.merge_core.specs.Choosing.{AreBirths, AreFirstBirths, next_of}
use Rattle.merge_core.proofs.Finding.{row_at_source}

abbrev birth_of : Option Row → Option ℕ
birth_of o = option_map (λ (r : Row). r.birth) o

zero_at : (n k : ℕ) → let none : ℕ = 0 in get_or (replicate n none) k none ≡ none
zero_at zero k = refl
zero_at (suc n) zero = refl
zero_at (suc n) (suc k) = zero_at n k

-- no row was looked at yet
pub births_begun : (ss : List Lived) (births : List (Option ℕ)) (next : List ℕ) (n : ℕ) → AreFirstBirths ss births → next ≡ replicate n 0 → AreBirths ss next births
births_begun ss births next n first is = record {
  count = first.count;
  each = λ k lt. first.each k lt ∙ ap (λ (j : ℕ). birth_of (row_at ss k j)) (sym (ap (λ (l : List ℕ). get_or l k 0) is ∙ zero_at n k));
}

pub same_or_not : (j k : ℕ) → (j ≡ k) ⊎ (j ≢ k)
same_or_not zero zero = inl refl
same_or_not zero (suc k) = inr (λ e. absurd (omega arith))
same_or_not (suc j) zero = inr (λ e. absurd (omega arith))
same_or_not (suc j) (suc k) = elim (same_or_not j k) [ inl e ↦ inl (ap suc e) | inr ne ↦ inr (λ e. ne (omega arith)) ]

-- the next row of a source was looked at
pub births_taken : (ss : List Lived) (next now : List ℕ) (old new : List (Option ℕ)) (k x : ℕ) (s : Lived) → AreBirths ss next old → length next ≡ length ss
    → k < length ss → slice_get ss k ≡ Some s → now ≡ set next k x → new ≡ set old k (birth_of (slice_get s.segment.rows x)) → AreBirths ss now new
births_taken ss next now old new k x s was long lt at next_is births_is = record {
  count = ap length births_is ∙ length-set old k (birth_of (slice_get s.segment.rows x)) ∙ was.count;
  each = λ j less.
      ap (λ (l : List (Option ℕ)). get_or l j None) births_is
      ∙ by j less (same_or_not j k)
      ∙ ap (λ (l : List ℕ). birth_of (next_of ss l j)) (sym next_is);
}
  where
    by : (j : ℕ) → j < length ss → (j ≡ k) ⊎ (j ≢ k) → get_or (set old k (birth_of (slice_get s.segment.rows x))) j None ≡ birth_of (next_of ss (set next k x) j)
    by j less (inl e) =
        let inside : k < length old = omega (arith, was.count) in
        let there : k < length next = omega arith in
        ap (λ (i : ℕ). get_or (set old k (birth_of (slice_get s.segment.rows x))) i None) e
        ∙ get_or-set_same old k (birth_of (slice_get s.segment.rows x)) None inside
        ∙ ap birth_of (sym (row_at_source ss k x s at))
        ∙ ap (λ (i : ℕ). birth_of (row_at ss k i)) (sym (get_or-set_same next k x 0 there))
        ∙ ap (λ (i : ℕ). birth_of (next_of ss (set next k x) i)) (sym e)
    by j less (inr ne) =
        get_or-set_other old k j (birth_of (slice_get s.segment.rows x)) None ne
        ∙ was.each j less
        ∙ ap (λ (i : ℕ). birth_of (row_at ss j i)) (sym (get_or-set_other next k j x 0 ne))

-- one more first birth
pub first_births_more : (ss : List Lived) (old new : List (Option ℕ)) (i : ℕ) (b : Option ℕ) → length old ≡ i
    → ((k : ℕ) → k < i → get_or old k None ≡ birth_of (row_at ss k 0)) → new ≡ old ++ b ∷ [] → b ≡ birth_of (row_at ss i 0)
    → (k : ℕ) → k < i + 1 → get_or new k None ≡ birth_of (row_at ss k 0)
first_births_more ss old new i b long was is born k lt = ap (λ (l : List (Option ℕ)). get_or l k None) is ∙ by (same_or_not k i)
  where
    at_end : (l : List (Option ℕ)) → get_or (l ++ b ∷ []) (length l) None ≡ b
    at_end [] = refl
    at_end (y ∷ l) = at_end l

    before : (l : List (Option ℕ)) (j : ℕ) → j < length l → get_or (l ++ b ∷ []) j None ≡ get_or l j None
    before [] j h = absurd (omega arith)
    before (y ∷ l) zero h = refl
    before (y ∷ l) (suc j) h = before l j (omega arith)

    by : (k ≡ i) ⊎ (k ≢ i) → get_or (old ++ b ∷ []) k None ≡ birth_of (row_at ss k 0)
    by (inl e) =
        ap (λ (j : ℕ). get_or (old ++ b ∷ []) j None) (e ∙ sym long) ∙ at_end old ∙ born ∙ ap (λ (j : ℕ). birth_of (row_at ss j 0)) (sym e)
    by (inr ne) = before old k (omega (arith, ne)) ∙ was k (omega (arith, ne))
