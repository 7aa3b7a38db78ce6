-- What postings that are an inversion have.
use Rattle.std.proofs.Common.{◌≡◌, ℕ, ◌<◌, List, Bool, true, false, ◌&&◌, eqb, Option, Some, None, length, get_or}
use Rattle.std.proofs.Common.{refl, sym, ◌∙◌}
use Rattle.std.specs.List.{slice_get}
use Rattle.std.specs.Option.{option_map_or}
use Rattle.std.specs.Str.{bytes_eq}
use Rattle.std.proofs.lemmas.Bool.{eq-eqb}
use Rattle.std.specs.Cmp.Derive.{both_true}
use Rattle.std.proofs.lemmas.List.Elements.{recursion_from_All}
use Rattle.std.proofs.lemmas.List.Folds.{list_any_at}
use Rattle.std.proofs.lemmas.Option.{slice_get_within}
use Rattle.std.proofs.lemmas.Slice.Eq.{bytes_eq-Decides}
use Rattle.ix_base.specs.Documents.{Document}
use Rattle.ix_base.specs.Inversion.{at_row, posted, posted_at, has_number, IsInversion}
use Rattle.ix_base.specs.declared.document.Term.{Term}
use Rattle.ix_base.specs.declared.postings.Posting.{Posting}
use Rattle.ix_base.specs.declared.postings.TermPostings.{TermPostings}
use Rattle.ix_base.specs.declared.postings.Postings.{Postings}
use Rattle.segment_files.specs.Fits.{RowsBelow}

-- a test of a row's document passes only where there is such a row
row_known : (test : Document → Bool) (docs : List Document) (row : ℕ)
    → at_row test docs row ≡ true → row < length docs
row_known test docs row e = go (slice_get docs row) refl e
  where
    go : (found : Option Document) → slice_get docs row ≡ found
        → option_map_or test found false ≡ true → row < length docs
    go None is h = absurd cc
    go (Some doc) is h = slice_get_within docs row doc is

-- the field and the bytes are the term's
abbrev names : List ℕ → List ℕ → Term → Bool
names field bytes term = bytes_eq term.field field && bytes_eq term.bytes bytes

names_itself : (term : Term) → names term.field term.bytes term ≡ true
names_itself term =
    both_true ((bytes_eq-Decides term.field term.field).1 refl) ((bytes_eq-Decides term.bytes term.bytes).1 refl)

-- a row has its first position
row_has : (rows : List Posting) (j : ℕ) (d : Posting) → j < length rows → 0 < length (get_or rows j d).positions
    → posted_at rows (get_or rows j d).row (get_or (get_or rows j d).positions 0 0) ≡ true
row_has rows j d in' some =
    let row = (get_or rows j d).row in
    let at = get_or (get_or rows j d).positions 0 0 in
    let has = list_any_at (λ y. eqb y at) (get_or rows j d).positions 0 0 some (eq-eqb at at refl) in
    let test : Posting → Bool = λ p. eqb p.row row && has_number p.positions at in
    list_any_at test rows j d in' (both_true (eq-eqb row row refl) has)

-- what a term's own rows have is posted
term_has : (entries : List TermPostings) (k : ℕ) (e : TermPostings) (row at : ℕ) → k < length entries
    → posted_at (get_or entries k e).rows row at ≡ true
    → posted entries (get_or entries k e).term.field (get_or entries k e).term.bytes row at ≡ true
term_has entries k e row at in' has =
    let term = (get_or entries k e).term in
    let test : TermPostings → Bool = λ f. names term.field term.bytes f.term && posted_at f.rows row at in
    list_any_at test entries k e in' (both_true (names_itself term) has)

-- each row of an inversion is that of a document
pub inverted_below : (docs : List Document) (postings : Postings)
    → IsInversion docs postings → RowsBelow (length docs) postings
inverted_below docs postings h = recursion_from_All _ postings.terms (λ k e in'. recursion_from_All _ _ (below k e in'))
  where
    below : (k : ℕ) (e : TermPostings) → k < length postings.terms → (j : ℕ) (d : Posting)
        → j < length (get_or postings.terms k e).rows → (get_or (get_or postings.terms k e).rows j d).row < length docs
    below k e in' j d there =
        let entry = get_or postings.terms k e in
        let posting = get_or entry.rows j d in
        let at = get_or posting.positions 0 0 in
        let has = row_has entry.rows j d there (((h.ordered.each k e in').each j d there).some) in
        let posted = term_has postings.terms k e posting.row at in' has in
        row_known _ docs posting.row (sym (h.exact entry.term.field entry.term.bytes posting.row at) ∙ posted)
