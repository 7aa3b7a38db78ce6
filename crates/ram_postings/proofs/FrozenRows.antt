-- The rows of a buffer against what is kept of its documents.
use Rattle.std.proofs.Common.{◌≡◌, ℕ, zero, suc, ◌<◌, ◌≤◌, Option, Some, None, List, [], ◌∷◌, ◌++◌, false, length, map, get_or, ◌⊎◌, inl, inr, refl, sym, ap, ◌∙◌, arith}
use Rattle.std.specs.List.{All, AllPairs, slice_get}
use Rattle.std.specs.Option.{option_map_or}
use Rattle.std.proofs.lemmas.Bool.{cases_lt}
use Rattle.std.proofs.lemmas.Option.{slice_get_within, get_or_from_slice_get}
use Rattle.std.proofs.lemmas.List.Elements.{All-head, All-tail, All-cons, All-nil}
use Rattle.ix_base.specs.Documents.{Document}
use Rattle.ix_base.specs.Inversion.{posted, stands_in_row, IsPostings, IsInversion}
use Rattle.ix_base.specs.Matches.{stands_at}
use Rattle.ix_base.specs.Terms.{terms}
use Rattle.ix_base.specs.declared.document.Row.{Row}
use Rattle.ix_base.specs.declared.document.Term.{Term}
use Rattle.ix_base.specs.declared.postings.Posting.{Posting}
use Rattle.ix_base.specs.declared.postings.TermPostings.{TermPostings}
use Rattle.ram_postings.specs.Buffer.{row_of, born_rows}
use Rattle.ram_postings.specs.Kept.{kept, number_of, NumbersRise, HasNoNumber, staged_of, placed_of, mark_of, born_marks, IsKept, ArePlaces, IsBuffer}
use Rattle.ram_postings.specs.declared.entry.Entry.{Entry}

pub marks_all : (P : ℕ → Type 0) (es : List Entry) → All (λ p. P p.1) (map placed_of es) → All P (born_marks es)
marks_all P [] h = All-nil P
marks_all P (e ∷ es) h = go e.birth (marks_all P es (All-tail (λ (p : Document × ℕ). P p.1) (placed_of e) (map placed_of es) h))
  where
    go : (o : Option ℕ) → All P (born_marks es) → All P (mark_of e.mark o ++ born_marks es)
    go None more = more
    go (Some n) more = All-cons P e.mark (born_marks es) (All-head (λ (p : Document × ℕ). P p.1) (placed_of e) (map placed_of es) h) more

module _ {X : Type 0} where
  pairs_first : (R : X → X → Type 0) (x : X) (xs : List X) → AllPairs R (x ∷ xs) → All (R x) xs
  pairs_first R x xs h k d lt = h zero (suc k) d (omega arith) (omega arith)

  pairs_rest : (R : X → X → Type 0) (x : X) (xs : List X) → AllPairs R (x ∷ xs) → AllPairs R xs
  pairs_rest R x xs h i j d lt in' = h (suc i) (suc j) d (omega arith) (omega arith)

  pairs_cons : (R : X → X → Type 0) (x : X) (xs : List X) → All (R x) xs → AllPairs R xs → AllPairs R (x ∷ xs)
  pairs_cons R x xs first rest i zero d lt in' = absurd (omega arith)
  pairs_cons R x xs first rest zero (suc j) d lt in' = first j d (omega arith)
  pairs_cons R x xs first rest (suc i) (suc j) d lt in' = rest i j d (omega arith) (omega arith)

pub marks_rise : (es : List Entry) → AllPairs (λ a b. a.1 < b.1) (map placed_of es) → AllPairs (λ a b. a < b) (born_marks es)
marks_rise [] h = λ i j d lt in'. absurd (omega arith)
marks_rise (e ∷ es) h =
    go e.birth (marks_rise es (pairs_rest (λ (a : Document × ℕ) (b : Document × ℕ). a.1 < b.1) (placed_of e) (map placed_of es) h))
    (marks_all (λ m. e.mark < m) es (pairs_first (λ (a : Document × ℕ) (b : Document × ℕ). a.1 < b.1) (placed_of e) (map placed_of es) h))
  where
    go : (o : Option ℕ) → AllPairs (λ a b. a < b) (born_marks es) → All (λ m. e.mark < m) (born_marks es) → AllPairs (λ a b. a < b) (mark_of e.mark o ++ born_marks es)
    go None rest first = rest
    go (Some n) rest first = pairs_cons (λ (a : ℕ) (b : ℕ). a < b) e.mark (born_marks es) first rest

pub marks_few : (es : List Entry) → length (born_marks es) ≤ length es
marks_few [] = omega arith
marks_few (e ∷ es) = go e.birth (marks_few es)
  where
    go : (o : Option ℕ) → length (born_marks es) ≤ length es → length (mark_of e.mark o ++ born_marks es) ≤ length (e ∷ es)
    go None h = omega arith
    go (Some n) h = omega arith

-- places of marks that rise, rise
pub numbers_rise : (marks : List ℕ) (numbers : List (Option ℕ)) → ArePlaces marks numbers → AllPairs (λ a b. a < b) marks → NumbersRise numbers
numbers_rise marks numbers placed rise m n r s has has' low = go (cases_lt r s)
  where
    at : slice_get marks r ≡ Some m
    at = (placed m r).0 has

    at' : slice_get marks s ≡ Some n
    at' = (placed n s).0 has'

    below : (a b : ℕ) → a ≡ m → b ≡ n → b ≤ a → r < s
    below a b p q le = absurd (omega arith)

    down : (s < r) ⊎ (r ≤ s) → s ≤ r → r < s
    down (inl l) le =
        let up : get_or marks s 0 < get_or marks r 0 = rise s r 0 l (slice_get_within marks r m at) in
        below (get_or marks r 0) (get_or marks s 0) (get_or_from_slice_get marks r m 0 at) (get_or_from_slice_get marks s n 0 at') (omega arith)
    down (inr g) le =
        let same : s ≡ r = omega arith in
        below (get_or marks r 0) (get_or marks r 0) (get_or_from_slice_get marks r m 0 at) (ap (λ (k : ℕ). get_or marks k 0) (sym same) ∙ get_or_from_slice_get marks s n 0 at') (omega arith)

    go : (r < s) ⊎ (s ≤ r) → r < s
    go (inl l) = l
    go (inr g) = down (cases_lt s r) g

-- ---- a row is a document with its mark, or isn't there

abbrev pub docs_of : List Entry → List Document
docs_of es = map (λ (row : Row). row.doc) (born_rows (map staged_of es))

-- the document of a row, its mark, and what holds of both
record IsRow (P : Document × ℕ → Type 0) (marks : List ℕ) (docs : List Document) (r : ℕ) : Type 0 where
  mark : ℕ
  doc : Document
  at : slice_get marks r ≡ Some mark
  is : slice_get docs r ≡ Some doc
  holds : P (doc, mark)

abbrev RowOrNone : (Document × ℕ → Type 0) → List ℕ → List Document → ℕ → Type 0
RowOrNone P marks docs r = IsRow P marks docs r ⊎ ((slice_get marks r ≡ None) × (slice_get docs r ≡ None))

row_at : (P : Document × ℕ → Type 0) (es : List Entry) → All P (map placed_of es) → (r : ℕ) → RowOrNone P (born_marks es) (docs_of es) r
row_at P [] h r = inr (refl, refl)
row_at P (e ∷ es) h r = go e.birth (row_at P es (All-tail P (placed_of e) (map placed_of es) h)) r
  where
    first : (k : ℕ) → ((q : ℕ) → RowOrNone P (born_marks es) (docs_of es) q) → RowOrNone P (e.mark ∷ born_marks es) (e.doc ∷ docs_of es) k
    first zero more = inl (record { mark = e.mark; doc = e.doc; at = refl; is = refl; holds = All-head P (placed_of e) (map placed_of es) h })
    first (suc k) more = elim (more k) [ inl p ↦ inl (record { mark = p.mark; doc = p.doc; at = p.at; is = p.is; holds = p.holds }) | inr q ↦ inr q ]

    go : (o : Option ℕ) → ((q : ℕ) → RowOrNone P (born_marks es) (docs_of es) q) → (k : ℕ)
        → RowOrNone P (mark_of e.mark o ++ born_marks es) (map (λ (row : Row). row.doc) (row_of e.doc o ++ born_rows (map staged_of es))) k
    go None more k = more k
    go (Some n) more k = first k more

-- the terms that were made are the inversion of the rows
pub rows_inverted : (es : List Entry) (next : ℕ) (lists : List (Term × List Posting)) (numbers : List (Option ℕ)) (made : List TermPostings)
    → IsBuffer es next lists → ArePlaces (born_marks es) numbers → IsPostings made
    → ((t : Term) (r x : ℕ) → HasNoNumber numbers r → posted made t.field t.bytes r x ≡ false)
    → ((t : Term) (m r x : ℕ) → number_of numbers m ≡ Some r → posted made t.field t.bytes r x ≡ kept lists t m x)
    → IsInversion (docs_of es) (record { terms = made })
rows_inverted es next lists numbers made h placed ordered others ok = record { ordered = ordered; exact = λ field bytes r x. exact (record { field = field; bytes = bytes }) r x (row_at (IsKept lists) es h.documents.exact r) }
  where
    stands : (t : Term) (r x : ℕ) (o : Option Document) → slice_get (docs_of es) r ≡ o → stands_in_row (docs_of es) t.field t.bytes r x ≡ option_map_or (λ doc. stands_at (terms doc) t.field t.bytes x) o false
    stands t r x o e = ap (λ (o : Option Document). option_map_or (λ doc. stands_at (terms doc) t.field t.bytes x) o false) e

    exact : (t : Term) (r x : ℕ) → RowOrNone (IsKept lists) (born_marks es) (docs_of es) r → posted made t.field t.bytes r x ≡ stands_in_row (docs_of es) t.field t.bytes r x
    exact t r x (inl p) = ok t p.mark r x ((placed p.mark r).1 p.at) ∙ p.holds t x ∙ sym (stands t r x (Some p.doc) p.is)
    exact t r x (inr q) = others t r x (λ m e. (let f : Some m ≡ None = sym ((placed m r).0 e) ∙ q.0 in cc)) ∙ sym (stands t r x None q.1)
