-- The places of one term that are listed.
use Rattle.std.proofs.Common.{◌≡◌, ℕ, zero, suc, ◌≤◌, List, [], ◌∷◌, ◌++◌, Bool, false, ◌||◌, length, drop, refl, sym, ap, ◌∙◌, arith}
use Rattle.std.proofs.lemmas.List.Folds.{list_any-append}
use Rattle.ix_base.proofs.GroupedLaws.{or_false}
use Rattle.merge_postings.specs.Parts.{Listed, any_part}
use Rattle.merge_postings.specs.Renumbering.{moved_at}
use Rattle.merge_postings.specs.Walk.{AddsPlaces, Waiting}

-- one more is listed, which are those of a source's next entry
pub part_listed : (w : Waiting) (p : Listed) (old new : List Listed) → p ≡ record { rows = w.first.rows; numbers = w.numbers } → new ≡ old ++ p ∷ []
    → AddsPlaces w (any_part old) (any_part new)
part_listed w p old new is put r x =
    ap (λ (ps : List Listed). any_part ps r x) put
    ∙ list_any-append (λ (q : Listed). moved_at q.numbers q.rows r x) old (p ∷ [])
    ∙ ap (λ (b : Bool). any_part old r x || b) (sym (or_false (moved_at p.numbers p.rows r x)))
    ∙ ap (λ (q : Listed). any_part old r x || moved_at q.numbers q.rows r x) is

-- none is listed
pub none_listed : (parts : List Listed) → parts ≡ [] → (r x : ℕ) → any_part parts r x ≡ false
none_listed parts is r x = ap (λ (ps : List Listed). any_part ps r x) is

none_behind : (parts : List Listed) (i : ℕ) (r x : ℕ) → length parts ≤ i → any_part (drop i parts) r x ≡ false
none_behind [] zero r x le = refl
none_behind [] (suc i) r x le = refl
none_behind (p ∷ ps) zero r x le = absurd (omega arith)
none_behind (p ∷ ps) (suc i) r x le = none_behind ps i r x (omega arith)

-- where none is left, all were taken
pub all_listed : (parts : List Listed) (i : ℕ) (taken : Bool) (r x : ℕ) → length parts ≤ i → (taken || any_part (drop i parts) r x) ≡ any_part parts r x → taken ≡ any_part parts r x
all_listed parts i taken r x le all = or_false taken ∙ ap (λ (b : Bool). taken || b) (sym (none_behind parts i r x le)) ∙ all
