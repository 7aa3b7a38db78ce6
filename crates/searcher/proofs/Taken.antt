-- The live rows with given numbers.
use Rattle.std.proofs.Common.{◌≡◌, ℕ, ◌+◌, Bool, true, false, cond, List, [], ◌∷◌, ◌++◌, length, map, Option, Some, None, refl, sym, ap, subst, ◌∙◌, append_assoc, arith}
use Rattle.std.specs.Prelude.{slice_get, slice_index_or}
use Rattle.std.specs.List.{filter, filter_map, cons_option}
use Rattle.std.specs.Option.{option_and_then}
use Rattle.std.proofs.lemmas.List.{length-append}
use Rattle.ix_base.specs.Documents.{Document}
use Rattle.ix_base.specs.declared.document.Row.{Row}
use Rattle.ix_base.specs.Inversion.{rows_from, rows_where}
use Rattle.live_docs.specs.Marks.{fresh}
use Rattle.live_docs.specs.declared.live_docs.Mark.{Mark}
use Rattle.segment_core.specs.LiveRows.{marked, live_rows}
use Rattle.segment_core.specs.Marking.{now, documents_now}
use Rattle.searcher.specs.Finding.{live_at}

-- the rows that a test takes
abbrev taken : (Document → Bool) → List Row → List Row
taken test = filter (λ row. test row.doc)

row_here : (front rows : List Row) (row : Row) → slice_get (front ++ row ∷ rows) (length front) ≡ Some row
row_here [] rows row = refl
row_here (r ∷ front) rows row = row_here front rows row

mark_here : (front marks : List Mark) (m : Mark) → slice_index_or (front ++ m ∷ marks) (length front) fresh ≡ m
mark_here [] marks m = refl
mark_here (n ∷ front) marks m = mark_here front marks m

here : (front rows : List Row) (row : Row) (before marks : List Mark) (m : Mark) → length before ≡ length front
    → live_at (front ++ row ∷ rows) (before ++ m ∷ marks) (length front) ≡ marked row m
here front rows row before marks m same =
    ap (option_and_then (λ r. marked r (slice_index_or (before ++ m ∷ marks) (length front) fresh))) (row_here front rows row)
    ∙ ap (λ (n : ℕ). marked row (slice_index_or (before ++ m ∷ marks) n fresh)) (sym same)
    ∙ ap (marked row) (mark_here before marks m)

-- one row more
module _ (test : Document → Bool) (at : ℕ → Option Row) (i : ℕ) (rest : List ℕ) (rows : List Row) (so_far : filter_map at rest ≡ taken test rows) where
  shown_taken : (b : Bool) (r : Row) → at i ≡ Some r → filter_map at (cond b (i ∷ rest) rest) ≡ cond b (r ∷ taken test rows) (taken test rows)
  shown_taken true r is = ap (λ (o : Option Row). cons_option o (filter_map at rest)) is ∙ ap (λ (rs : List Row). r ∷ rs) so_far
  shown_taken false r is = so_far

  dead_passed : (b : Bool) → at i ≡ None → filter_map at (cond b (i ∷ rest) rest) ≡ taken test rows
  dead_passed true is = ap (λ (o : Option Row). cons_option o (filter_map at rest)) is ∙ so_far
  dead_passed false is = so_far

  one_taken : (row : Row) (m : Mark) → at i ≡ marked row m → filter_map at (cond (test (now row.doc m)) (i ∷ rest) rest) ≡ taken test (cons_option (marked row m) rows)
  one_taken row m is = by m.live refl
    where
      shown : Row
      shown = record row { doc = now row.doc m }

      by : (l : Bool) → m.live ≡ l → filter_map at (cond (test (now row.doc m)) (i ∷ rest) rest) ≡ taken test (cons_option (marked row m) rows)
      by true e =
          let lives : marked row m ≡ Some shown = ap (λ (l : Bool). cond l (Some shown) None) e in
          shown_taken (test (now row.doc m)) shown (is ∙ lives) ∙ ap (λ (o : Option Row). taken test (cons_option o rows)) (sym lives)
      by false e =
          let dies : marked row m ≡ None = ap (λ (l : Bool). cond l (Some shown) None) e in
          dead_passed (test (now row.doc m)) (is ∙ dies) ∙ ap (λ (o : Option Row). taken test (cons_option o rows)) (sym dies)

from_here : (test : Document → Bool) (front rows : List Row) (before marks : List Mark) → length before ≡ length front → length marks ≡ length rows
    → filter_map (live_at (front ++ rows) (before ++ marks)) (rows_from (length front) test (documents_now rows marks)) ≡ taken test (live_rows rows marks)
from_here test front [] before marks same long = refl
from_here test front (row ∷ rows) before [] same long = absurd (omega (arith, long))
from_here test front (row ∷ rows) before (m ∷ marks) same long =
    let all : (front ++ row ∷ []) ++ rows ≡ front ++ row ∷ rows = append_assoc front (row ∷ []) rows in
    let all_marks : (before ++ m ∷ []) ++ marks ≡ before ++ m ∷ marks = append_assoc before (m ∷ []) marks in
    let count : length (front ++ row ∷ []) ≡ length front + 1 = length-append front (row ∷ []) in
    let counted : length (before ++ m ∷ []) ≡ length before + 1 = length-append before (m ∷ []) in
    let next = from_here test (front ++ row ∷ []) rows (before ++ m ∷ []) marks (omega (arith, count, counted, same)) (omega (arith, long)) in
    let Says : List Row → List Mark → ℕ → Type 0 = λ rs ms n. filter_map (live_at rs ms) (rows_from n test (documents_now rows marks)) ≡ taken test (live_rows rows marks) in
    let moved : Says (front ++ row ∷ rows) (before ++ m ∷ marks) (length front + 1) =
    subst (λ (rs : List Row). Says rs (before ++ m ∷ marks) (length front + 1)) all
    (subst (λ (ms : List Mark). Says ((front ++ row ∷ []) ++ rows) ms (length front + 1)) all_marks
    (subst (λ (n : ℕ). Says ((front ++ row ∷ []) ++ rows) ((before ++ m ∷ []) ++ marks) n) count next)) in
    one_taken test (live_at (front ++ row ∷ rows) (before ++ m ∷ marks)) (length front) (rows_from (length front + 1) test (documents_now rows marks)) (live_rows rows marks) moved row m
    (here front rows row before marks m same)

-- the live ones of the rows whose numbers are answered are the live rows that pass the test
pub rows_taken : (test : Document → Bool) (rows : List Row) (marks : List Mark) → length marks ≡ length rows
    → filter_map (live_at rows marks) (rows_where test (documents_now rows marks)) ≡ taken test (live_rows rows marks)
rows_taken test rows marks long = from_here test [] rows [] marks refl long
