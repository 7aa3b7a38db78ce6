-- Rows found by what their documents are now.
use Rattle.std.proofs.Common.{◌≡◌, ◌∙◌, ℕ, zero, suc, ℤ, ◌+◌, ◌<◌, List, [], ◌∷◌, ◌++◌, Bool, true, false, cond, length, nat_lt, get_or, Option, Some, None, is_some, refl, sym, ap, subst, arith, append_assoc, if◌then◌else◌}
use Rattle.std.specs.Str.{bytes_eq}
use Rattle.std.proofs.lemmas.List.{length-append}
use Rattle.std.proofs.lemmas.Slice.Eq.{bytes_eq-Decides}
use Rattle.ix_base.specs.Births.{first_birth}
use Rattle.ix_base.specs.Matches.{matches, holds_term, stands_at, value_of}
use Rattle.ix_base.specs.Query.{tree_of}
use Rattle.ix_base.specs.Inversion.{at_row, rows_where, rows_from}
use Rattle.ix_base.specs.Terms.{terms}
use Rattle.ix_base.specs.Documents.{Document}
use Rattle.ix_base.specs.Steps.{Named, with_number}
use Rattle.ix_base.specs.declared.document.Row.{Row}
use Rattle.ix_base.specs.declared.document.Term.{Term}
use Rattle.ix_base.specs.declared.query.Query.{Query}
use Rattle.ix_base.specs.declared.document.Operation.TheVariants.{DeleteTerm, DeleteQuery, SetNumber}
use Rattle.live_docs.specs.declared.live_docs.Mark.{Mark}
use Rattle.live_docs.specs.Marks.{fresh, killed, SetsOne, SetNumbersAreAMap}
use Rattle.query_core.specs.Answers.{AreRowsWhere, ArePositions, number_at}
use Rattle.segment_core.specs.Segments.{documents}
use Rattle.row_fates.specs.Fate.{Numbered}
use Rattle.segment_core.specs.LiveRows.{with_numbers, above}
use Rattle.segment_core.specs.Marking.{valued_live, now, documents_now, marks_touched, marks_after, with_rows, hits}
use Rattle.segment_core.proofs.Found.{hit_at, taken_more}

-- ---- by the rows that were found

-- a row that passes the test now and was born before the number
abbrev pub where_now : ℕ → (Document → Bool) → (Mark → Mark) → Row → Mark → Mark
where_now n test f row m = if nat_lt row.birth (first_birth n) then (if test (now row.doc m) then f m else m) else m

found_from : (n : ℕ) (f : Mark → Mark) (test : Document → Bool) (rest : List Row) (mrest : List Mark) (pre : List Row) (mpre : List Mark) (k : ℕ)
    → k ≡ length pre → length mpre ≡ length pre → length mrest ≡ length rest
    → hits n f (pre ++ rest) (rows_from k test (documents_now rest mrest)) (mpre ++ mrest) ≡ mpre ++ with_rows (where_now n test f) rest mrest
found_from n f test [] mrest pre mpre k at same long = refl
found_from n f test (row ∷ rest) [] pre mpre k at same long = absurd (omega arith)
found_from n f test (row ∷ rest) (m ∷ mrest) pre mpre k at same long =
    by (test (now row.doc m)) (λ x. shift x (found_from n f test rest mrest (pre ++ row ∷ []) (mpre ++ x ∷ []) (k + 1) longer (longest x) (omega arith)))
  where
    P : List Row
    P = pre ++ row ∷ rest

    R : List ℕ
    R = rows_from (k + 1) test (documents_now rest mrest)

    W : List Mark
    W = with_rows (where_now n test f) rest mrest

    longer : k + 1 ≡ length (pre ++ row ∷ [])
    longer = let e = length-append pre (row ∷ []) in omega (arith, e)

    longest : (x : Mark) → length (mpre ++ x ∷ []) ≡ length (pre ++ row ∷ [])
    longest x = let e = length-append pre (row ∷ []) in let d = length-append mpre (x ∷ []) in omega (arith, e, d)

    shift : (x : Mark) → hits n f ((pre ++ row ∷ []) ++ rest) R ((mpre ++ x ∷ []) ++ mrest) ≡ (mpre ++ x ∷ []) ++ W → hits n f P R (mpre ++ x ∷ mrest) ≡ mpre ++ x ∷ W
    shift x e =
        ap (λ rows. hits n f rows R (mpre ++ x ∷ mrest)) (sym (append_assoc pre (row ∷ []) rest))
        ∙ (ap (λ ms. hits n f ((pre ++ row ∷ []) ++ rest) R ms) (sym (append_assoc mpre (x ∷ []) mrest))
        ∙ (e ∙ append_assoc mpre (x ∷ []) W))

    same_mark : (b : Bool) → cond b m m ≡ m
    same_mark true = refl
    same_mark false = refl

    by : (t : Bool) → ((x : Mark) → hits n f P R (mpre ++ x ∷ mrest) ≡ mpre ++ x ∷ W)
        → hits n f P (if t then k ∷ R else R) (mpre ++ m ∷ mrest) ≡ mpre ++ (if nat_lt row.birth (first_birth n) then (if t then f m else m) else m) ∷ W
    by true more = ap (hits n f P R) (hit_at n f pre row rest mpre m mrest k at same) ∙ more (if nat_lt row.birth (first_birth n) then f m else m)
    by false more = more m ∙ ap (λ (x : Mark). mpre ++ x ∷ W) (sym (same_mark (nat_lt row.birth (first_birth n))))

-- the rows that were found by a test are those that pass it
found_now : (n : ℕ) (f : Mark → Mark) (test : Document → Bool) (rows : List Row) (marks : List Mark) → length marks ≡ length rows
    → hits n f rows (rows_where test (documents_now rows marks)) marks ≡ with_rows (where_now n test f) rows marks
found_now n f test rows marks long = found_from n f test rows marks [] [] 0 refl refl long

-- the rows that match a query by what they are now are those that its delete touches
pub query_touched : (n : ℕ) (q : Query) (rows : List Row) (found : List ℕ) (marks : List Mark) → length marks ≡ length rows
    → found ≡ rows_where (matches (tree_of q)) (documents_now rows marks)
    → hits n killed rows found marks ≡ marks_touched (n, DeleteQuery q) rows marks
query_touched n q rows found marks long is =
    ap (λ f. hits n killed rows f marks) is ∙ found_now n killed (matches (tree_of q)) rows marks long

-- ---- the index of documents as they are now

pub length-documents_now : (rows : List Row) (marks : List Mark) → length marks ≡ length rows → length (documents_now rows marks) ≡ length (documents rows)
length-documents_now [] marks long = refl
length-documents_now (row ∷ rows) [] long = absurd (omega arith)
length-documents_now (row ∷ rows) (m ∷ marks) long = ap suc (length-documents_now rows marks (omega arith))

same_from : (test : Document → Bool) → ((doc : Document) (m : Mark) → test (now doc m) ≡ test doc) → (k : ℕ) (rows : List Row) (marks : List Mark) → length marks ≡ length rows
    → rows_from k test (documents_now rows marks) ≡ rows_from k test (documents rows)
same_from test stable k [] marks long = refl
same_from test stable k (row ∷ rows) [] long = absurd (omega arith)
same_from test stable k (row ∷ rows) (m ∷ marks) long =
    ap (λ b. cond b (k ∷ rows_from (k + 1) test (documents_now rows marks)) (rows_from (k + 1) test (documents_now rows marks))) (stable row.doc m)
    ∙ ap (λ (l : List ℕ). cond (test row.doc) (k ∷ l) l) (same_from test stable (k + 1) rows marks (omega arith))

-- a test that doesn't read numbers finds the same rows
pub found_still : (test : Document → Bool) → ((doc : Document) (m : Mark) → test (now doc m) ≡ test doc) → (rows : List Row) (marks : List Mark) → length marks ≡ length rows
    → rows_where test (documents rows) ≡ rows_where test (documents_now rows marks)
found_still test stable rows marks long = sym (same_from test stable 0 rows marks long)

-- the rows that hold a term are those that its delete or its setting touches
found_holding : (n : ℕ) (f : Mark → Mark) (t : Term) (rows : List Row) (found : List ℕ) (marks : List Mark) → length marks ≡ length rows
    → found ≡ rows_where (holds_term t.field t.bytes) (documents rows)
    → hits n f rows found marks ≡ with_rows (where_now n (holds_term t.field t.bytes) f) rows marks
found_holding n f t rows found marks long is =
    let test : Document → Bool = holds_term t.field t.bytes in
    ap (λ l. hits n f rows l marks) (is ∙ found_still test (λ doc m. refl) rows marks long) ∙ found_now n f test rows marks long

pub term_taken : (low n : ℕ) (t : Term) (rest : List Numbered) (rows : List Row) (found : List ℕ) (marks : List Mark) → low < n → length marks ≡ length rows
    → found ≡ rows_where (holds_term t.field t.bytes) (documents rows)
    → marks_after (above low rest) rows (hits n killed rows found marks) ≡ marks_after (above low ((n, DeleteTerm t) ∷ rest)) rows marks
term_taken low n t rest rows found marks lt long is =
    taken_more low (n, DeleteTerm t) rest rows marks (hits n killed rows found marks) lt (found_holding n killed t rows found marks long is)

pub setting_touched : (n : ℕ) (t : Term) (name : List ℕ) (value : ℤ) (rows : List Row) (found : List ℕ) (marks : List Mark) → length marks ≡ length rows
    → found ≡ rows_where (holds_term t.field t.bytes) (documents rows)
    → hits n (valued_live name value) rows found marks ≡ marks_touched (n, SetNumber t name value) rows marks
setting_touched n t name value rows found marks long is = found_holding n (valued_live name value) t rows found marks long is

-- what is found in an index of documents as they were is found in that of the documents as they are now
pub found_current : (inverts : List Document → Type 0) (test : Document → Bool) → ((doc : Document) (m : Mark) → test (now doc m) ≡ test doc)
    → (rows : List Row) (marks : List Mark) (found : List ℕ) → AreRowsWhere inverts test found
    → (docs : List Document) → inverts (documents rows) → length marks ≡ length rows → docs ≡ documents_now rows marks → found ≡ rows_where test docs
found_current inverts test stable rows marks found are docs inverted long is =
    are (documents rows) inverted ∙ (found_still test stable rows marks long ∙ ap (rows_where test) (sym is))

at_still : (test : Document → Bool) → ((doc : Document) (m : Mark) → test (now doc m) ≡ test doc) → (rows : List Row) (marks : List Mark) (r : ℕ) → length marks ≡ length rows
    → at_row test (documents rows) r ≡ at_row test (documents_now rows marks) r
at_still test stable [] marks r long = refl
at_still test stable (row ∷ rows) [] r long = absurd (omega arith)
at_still test stable (row ∷ rows) (m ∷ marks) zero long = sym (stable row.doc m)
at_still test stable (row ∷ rows) (m ∷ marks) (suc r) long = at_still test stable rows marks r (omega arith)

-- a term stands where it stood
pub places_current : (inverts : List Document → Type 0) (term : Term) (row : ℕ) (rows : List Row) (marks : List Mark) (positions : List ℕ)
    → ((docs : List Document) → inverts docs → ArePositions docs term row positions)
    → (docs : List Document) → inverts (documents rows) → length marks ≡ length rows → docs ≡ documents_now rows marks → ArePositions docs term row positions
places_current inverts term row rows marks positions are docs inverted long is =
    let a = are (documents rows) inverted in
    record {
      rise = a.rise;
      exact = λ at. a.exact at ∙ (at_still (λ doc. stands_at (terms doc) term.field term.bytes at) (λ doc m. refl) rows marks row long
          ∙ ap (λ (ds : List Document). at_row (λ doc. stands_at (terms doc) term.field term.bytes at) ds row) (sym is));
    }

abbrev pub first_of : Option ℤ → Option ℤ → Option ℤ
first_of None other = other
first_of (Some value) other = Some value

set_first : SetNumbersAreAMap → (name : List ℕ) (v : Named) (ns : List Named) → value_of name (with_number v.0 v.1 ns) ≡ cond (bytes_eq v.0 name) (Some v.1) (value_of name ns)
set_first law name v ns = by (bytes_eq v.0 name) refl
  where
    is : SetsOne v.0 v.1 ns
    is = law v.0 v.1 ns

    by : (b : Bool) → bytes_eq v.0 name ≡ b → value_of name (with_number v.0 v.1 ns) ≡ cond b (Some v.1) (value_of name ns)
    by true e = subst (λ (k : List ℕ). value_of k (with_number v.0 v.1 ns) ≡ Some v.1) ((bytes_eq-Decides v.0 name).0 e) is.set
    by false e = is.others name (λ (h : name ≡ v.0). let t : bytes_eq v.0 name ≡ true = (bytes_eq-Decides v.0 name).1 (sym h) in cc (t, e))

-- a number that was set stands over the row's own
value_over : SetNumbersAreAMap → (name : List ℕ) (values numbers : List Named) → value_of name (with_numbers values numbers) ≡ first_of (value_of name values) (value_of name numbers)
value_over law name [] numbers = refl
value_over law name (v ∷ values) numbers = set_first law name v (with_numbers values numbers) ∙ by (bytes_eq v.0 name) (value_over law name values numbers)
  where
    by : (b : Bool) → value_of name (with_numbers values numbers) ≡ first_of (value_of name values) (value_of name numbers)
        → cond b (Some v.1) (value_of name (with_numbers values numbers)) ≡ first_of (cond b (Some v.1) (value_of name values)) (value_of name numbers)
    by true more = refl
    by false more = more

pub number_now : SetNumbersAreAMap → (name : List ℕ) (rows : List Row) (marks : List Mark) (row : ℕ) → length marks ≡ length rows
    → number_at (documents_now rows marks) row name ≡ first_of (value_of name (get_or marks row fresh).values) (number_at (documents rows) row name)
number_now law name [] [] row long = refl
number_now law name [] (m ∷ marks) row long = absurd (omega arith)
number_now law name (r ∷ rows) [] row long = absurd (omega arith)
number_now law name (r ∷ rows) (m ∷ marks) zero long = value_over law name m.values r.doc.num
number_now law name (r ∷ rows) (m ∷ marks) (suc row) long = number_now law name rows marks row (omega arith)

pub some_first : (set other : Option ℤ) → is_some set ≡ true → first_of set other ≡ set
some_first None other e = cc
some_first (Some v) other e = refl

pub none_first : (set other : Option ℤ) → is_some set ≡ false → first_of set other ≡ other
none_first None other e = refl
none_first (Some v) other e = cc

-- the number that was set, if there is one, else the row's own
pub number_read : SetNumbersAreAMap → (name : List ℕ) (rows : List Row) (marks : List Mark) (row : ℕ) (docs : List Document) (set other : Option ℤ) → length marks ≡ length rows
    → docs ≡ documents_now rows marks → set ≡ value_of name (get_or marks row fresh).values → other ≡ number_at (documents rows) row name
    → first_of set other ≡ number_at docs row name
number_read law name rows marks row docs set other long is e f =
    sym (ap (λ (ds : List Document). number_at ds row name) is ∙ (number_now law name rows marks row long ∙ (λ i. first_of (sym e i) (sym f i))))
