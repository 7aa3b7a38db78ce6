-- Documents that are read one after another, each in the next row.
use Rattle.std.proofs.Common.{◌≡◌, ℕ, zero, suc, ◌+◌, ◌<◌, List, [], ◌∷◌, ◌++◌, Bool, true, false, ◌&&◌, ◌||◌, ◌==◌, map, length, get_or, take, refl, sym, ap, ◌∙◌, subst, arith}
use Rattle.std.proofs.lemmas.Bool.{eq-eqb, eqb-true, ne_eqb}
use Rattle.std.proofs.lemmas.List.{take_more, map_push, length-map, length-take}
use Rattle.ix_base.specs.Documents.{Document}
use Rattle.ix_base.specs.Inversion.{stands_in_row}
use Rattle.ix_base.proofs.GroupedLaws.{or_false}
use Rattle.ix_base.specs.Matches.{stands_at}
use Rattle.ix_base.specs.Terms.{terms}
use Rattle.ix_base.specs.declared.document.Row.{Row}
use Rattle.analysis.specs.Kept.{FieldLists, kept, AddsPlaces, AreKept}

next_same : (n r : ℕ) → (suc n == suc r) ≡ (n == r)
next_same n r = go (n == r) refl
  where
    go : (b : Bool) → (n == r) ≡ b → (suc n == suc r) ≡ b
    go true e = eq-eqb (suc n) (suc r) (ap suc (eqb-true n r e))
    go false e = ne_eqb (suc n) (suc r) (λ same. (let f : true ≡ false = sym (eq-eqb n r (omega arith)) ∙ e in cc))

-- where terms stand in documents, and in one more
stands_more : (docs : List Document) (doc : Document) (f w : List ℕ) (r x : ℕ)
    → (stands_in_row docs f w r x || ((length docs == r) && stands_at (terms doc) f w x)) ≡ stands_in_row (docs ++ doc ∷ []) f w r x
stands_more [] doc f w zero x = refl
stands_more [] doc f w (suc r) x = ap (λ (b : Bool). b && stands_at (terms doc) f w x) (ne_eqb 0 (suc r) (λ e. omega arith))
stands_more (d ∷ docs) doc f w zero x =
    ap (λ (b : Bool). stands_at (terms d) f w x || (b && stands_at (terms doc) f w x)) (ne_eqb (suc (length docs)) 0 (λ e. omega arith))
    ∙ sym (or_false (stands_at (terms d) f w x))
stands_more (d ∷ docs) doc f w (suc r) x =
    ap (λ (b : Bool). stands_in_row docs f w r x || (b && stands_at (terms doc) f w x)) (next_same (length docs) r)
    ∙ stands_more docs doc f w r x

pub kept_more : (docs : List Document) (doc : Document) (row : ℕ) (old new : FieldLists) → row ≡ length docs → AreKept docs old → AddsPlaces row (terms doc) old new → AreKept (docs ++ doc ∷ []) new
kept_more docs doc row old new is kept adds f w r x =
    adds f w r x
    ∙ (λ i. kept f w r x i || ((is i == r) && stands_at (terms doc) f w x))
    ∙ stands_more docs doc f w r x

abbrev doc_of : Row → Document
doc_of row = row.doc

docs_so_far : (rows : List Row) (i : ℕ) → i < length rows → i ≡ length (map doc_of (take i rows))
docs_so_far rows i lt = omega (arith, length-map (take i rows) doc_of, length-take i rows)

pub rows_more : (rows : List Row) (i : ℕ) (row : Row) (number : ℕ) (old new : FieldLists) → i < length rows → row ≡ get_or rows i row → number ≡ i
    → AreKept (map doc_of (take i rows)) old → AddsPlaces number (terms row.doc) old new → AreKept (map doc_of (take (i + 1) rows)) new
rows_more rows i row number old new lt at is kept adds =
    let taken : take (i + 1) rows ≡ take i rows ++ row ∷ [] = take_more rows i row lt ∙ ap (λ (r : Row). take i rows ++ r ∷ []) (sym at) in
    subst (λ (l : List Document). AreKept l new) (sym (ap (map doc_of) taken ∙ map_push doc_of (take i rows) row))
    (kept_more (map doc_of (take i rows)) row.doc number old new (is ∙ docs_so_far rows i lt) kept adds)
