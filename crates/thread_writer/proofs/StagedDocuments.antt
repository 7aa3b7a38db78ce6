-- Documents staged one after another, and the first one that is refused.
use Rattle.std.proofs.Common.{◌≡◌, ◌∙◌, ℕ, zero, suc, ◌+◌, ◌<◌, List, [], ◌∷◌, ◌++◌, length, map, take, get_or, Option, Some, None, refl, sym, ap, arith, append_assoc}
use Rattle.std.proofs.lemmas.List.{map-append, take_more}
use Rattle.ix_base.specs.Documents.{Document}
use Rattle.ix_base.specs.Refusals.{document_refusal, first_refusal, block_refusal}
use Rattle.ix_base.specs.declared.refusal.Refusal.{Refusal}
use Rattle.ix_base.specs.declared.refusal.Refusal.TheVariants.{Term, Query}
use Rattle.ix_base.specs.declared.refusal.Refused.{Refused}
use Rattle.ix_base.specs.declared.refusal.Refused.TheVariants.{For, NoMemory}
use Rattle.ram_postings.specs.Buffer.{Staged, waiting, born_rows}
use Rattle.thread_writer.specs.Answers.{RefusedExactly, told_for}
use Rattle.thread_writer.proofs.Buffers.{born_still}

-- ---- refusals

first_none : (a b : Option Refusal) → first_refusal a b ≡ None → (a ≡ None) × (b ≡ None)
first_none (Some r) b h = cc
first_none None b h = (refl, h)

fits_more : (docs : List Document) (doc : Document) → block_refusal docs ≡ None → document_refusal doc ≡ None → block_refusal (docs ++ doc ∷ []) ≡ None
fits_more [] doc h fits = ap (λ (r : Option Refusal). first_refusal r None) fits
fits_more (x ∷ docs) doc h fits =
    let parts = first_none (document_refusal x) (block_refusal docs) h in
    ap (λ (r : Option Refusal). first_refusal r (block_refusal (docs ++ doc ∷ []))) parts.0 ∙ fits_more docs doc parts.1 fits

-- the first document that is refused decides
block_first : (docs : List Document) (i : ℕ) (d : Document) (r : Refusal) → i < length docs → block_refusal (take i docs) ≡ None
    → document_refusal (get_or docs i d) ≡ Some r → block_refusal docs ≡ Some r
block_first [] i d r lt h is = absurd (omega (arith, lt))
block_first (x ∷ docs) zero d r lt h is = ap (λ (a : Option Refusal). first_refusal a (block_refusal docs)) is
block_first (x ∷ docs) (suc i) d r lt h is =
    let parts = first_none (document_refusal x) (block_refusal (take i docs)) h in
    ap (λ (a : Option Refusal). first_refusal a (block_refusal docs)) parts.0 ∙ block_first docs i d r (omega (arith, lt)) parts.1 is

pub refused_first : (refused : Refused) (docs : List Document) (i : ℕ) (d : Document) → i < length docs → block_refusal (take i docs) ≡ None
    → RefusedExactly (told_for refused) (document_refusal (get_or docs i d)) → RefusedExactly (told_for refused) (block_refusal docs)
refused_first (For (Term size)) docs i d lt h is = block_first docs i d (Term size) lt h is
refused_first (For (Query size)) docs i d lt h is = block_first docs i d (Query size) lt h is
refused_first NoMemory docs i d lt h is = tt

-- ---- one more document

pub fits_next : (docs : List Document) (i : ℕ) (d : Document) → i < length docs → block_refusal (take i docs) ≡ None
    → document_refusal (get_or docs i d) ≡ None → block_refusal (take (i + 1) docs) ≡ None
fits_next docs i d lt h fits = ap block_refusal (take_more docs i d lt) ∙ fits_more (take i docs) (get_or docs i d) h fits

pub rows_next : (old rows new : List Staged) (docs : List Document) (i : ℕ) (d doc : Document) → i < length docs → rows ≡ old ++ map waiting (take i docs)
    → new ≡ rows ++ waiting doc ∷ [] → doc ≡ get_or docs i d → new ≡ old ++ map waiting (take (i + 1) docs)
rows_next old rows new docs i d doc lt was is at =
    is ∙ ap (λ (l : List Staged). l ++ waiting doc ∷ []) was ∙ append_assoc old (map waiting (take i docs)) (waiting doc ∷ [])
    ∙ ap (λ (x : Document). old ++ (map waiting (take i docs) ++ waiting x ∷ [])) at
    ∙ ap (λ (l : List Staged). old ++ l) (sym (ap (map waiting) (take_more docs i d lt) ∙ map-append waiting (take i docs) (get_or docs i d ∷ [])))

-- ---- what stays after an error

pub same_rows : (old rows new : List Staged) (docs : List Document) → new ≡ rows → rows ≡ old ++ map waiting docs → born_rows new ≡ born_rows old
same_rows old rows new docs same is = ap born_rows (same ∙ is) ∙ born_still old docs
