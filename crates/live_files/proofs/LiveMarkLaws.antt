-- Marks are given back by the live bits and set numbers that they are spelled by, and those by the marks.
use Rattle.std.proofs.Common.{◌≡◌, ◌≢◌, ◌∙◌, ℕ, zero, suc, ◌+◌, ◌<◌, ◌≤◌, eqb, Bool, true, false, cond, List, [], ◌∷◌, ◌++◌, length, map, refl, sym, ap, subst, arith, inl, inr}
use Rattle.std.specs.Prelude.{ℤ, ⊤}
use Rattle.std.specs.List.{AllByRecursion, AllPairs}
use Rattle.std.proofs.lemmas.Bool.{and_from, eqb-true, eq-eqb}
use Rattle.ix_base.specs.Limits.{text_lt, rise_after, names_rise}
use Rattle.ix_base.specs.Steps.{Named}
use Rattle.live_docs.specs.Marks.{RowsNamesRise}
use Rattle.live_docs.specs.declared.live_docs.Mark.{Mark}
use Rattle.live_files.specs.LiveFits.{IsBefore, ValueFits, ValuesFit}
use Rattle.live_files.specs.LiveMarks.{own_values, other_values, marks_from, marks_of}
use Rattle.live_files.specs.LiveSpelling.{SetValue, live_bits, row_values, values_from, values_of}
use Rattle.live_files.proofs.ValueOrder.{Before, before_of, not_after}

-- ---- marks are given back

later_row : (row next : ℕ) → row < next → eqb next row ≡ false
later_row row next lt = by (eqb next row) refl
  where
    by : (b : Bool) → eqb next row ≡ b → b ≡ false
    by true e = absurd (omega (arith, lt, eqb-true next row e))
    by false e = refl

pub own_first : (row : ℕ) (x : SetValue) (values : List SetValue) (b : Bool) → eqb x.0 row ≡ b → own_values row (x ∷ values) ≡ cond b ((x.1, x.2) ∷ own_values row values) []
own_first row x values b e = ap (λ (t : Bool). cond t ((x.1, x.2) ∷ own_values row values) []) e

pub others_first : (row : ℕ) (x : SetValue) (values : List SetValue) (b : Bool) → eqb x.0 row ≡ b → other_values row (x ∷ values) ≡ cond b (other_values row values) (x ∷ values)
others_first row x values b e = ap (λ (t : Bool). cond t (other_values row values) (x ∷ values)) e

-- no number of a later row is a row's own
own_none : (row next : ℕ) (marks : List Mark) → row < next → own_values row (values_from next marks) ≡ []
own_none row next [] lt = refl
own_none row next (m ∷ marks) lt = by m.values (own_none row (next + 1) marks (omega (arith, lt)))
  where
    by : (ns : List Named) → own_values row (values_from (next + 1) marks) ≡ [] → own_values row (row_values next ns ++ values_from (next + 1) marks) ≡ []
    by [] more = more
    by (n ∷ ns) more = own_first row (next, n.0, n.1) (row_values next ns ++ values_from (next + 1) marks) false (later_row row next lt)

others_all : (row next : ℕ) (marks : List Mark) → row < next → other_values row (values_from next marks) ≡ values_from next marks
others_all row next [] lt = refl
others_all row next (m ∷ marks) lt = by m.values (others_all row (next + 1) marks (omega (arith, lt)))
  where
    by : (ns : List Named) → other_values row (values_from (next + 1) marks) ≡ values_from (next + 1) marks
        → other_values row (row_values next ns ++ values_from (next + 1) marks) ≡ row_values next ns ++ values_from (next + 1) marks
    by [] more = more
    by (n ∷ ns) more = others_first row (next, n.0, n.1) (row_values next ns ++ values_from (next + 1) marks) false (later_row row next lt)

own_back : (row : ℕ) (ns : List Named) (rest : List SetValue) → own_values row rest ≡ [] → own_values row (row_values row ns ++ rest) ≡ ns
own_back row [] rest e = e
own_back row (n ∷ ns) rest e =
    own_first row (row, n.0, n.1) (row_values row ns ++ rest) true (eq-eqb row row refl) ∙ ap (λ (l : List Named). n ∷ l) (own_back row ns rest e)

others_back : (row : ℕ) (ns : List Named) (rest : List SetValue) → other_values row rest ≡ rest → other_values row (row_values row ns ++ rest) ≡ rest
others_back row [] rest e = e
others_back row (n ∷ ns) rest e = others_first row (row, n.0, n.1) (row_values row ns ++ rest) true (eq-eqb row row refl) ∙ others_back row ns rest e

marks_back_from : (row : ℕ) (marks : List Mark) → marks_from row (live_bits marks) (values_from row marks) ≡ marks
marks_back_from row [] = refl
marks_back_from row (m ∷ marks) =
    let bits = live_bits marks in
    let rest = values_from (row + 1) marks in
    let lt : row < row + 1 = omega arith in
    ap (λ (ns : List Named). record { live = m.live; values = ns } ∷ marks_from (row + 1) bits (other_values row (row_values row m.values ++ rest))) (own_back row m.values rest (own_none row (row + 1) marks lt))
    ∙ ap (λ (vs : List SetValue). m ∷ marks_from (row + 1) bits vs) (others_back row m.values rest (others_all row (row + 1) marks lt))
    ∙ ap (λ (ms : List Mark). m ∷ ms) (marks_back_from (row + 1) marks)

pub marks_back : (marks : List Mark) → marks_of (live_bits marks) (values_of marks) ≡ marks
marks_back marks = marks_back_from 0 marks

-- ---- live bits are given back

bits_back_from : (row : ℕ) (bits : List Bool) (values : List SetValue) → live_bits (marks_from row bits values) ≡ bits
bits_back_from row [] values = refl
bits_back_from row (bit ∷ bits) values = ap (λ (bs : List Bool). bit ∷ bs) (bits_back_from (row + 1) bits (other_values row values))

pub bits_back : (bits : List Bool) (values : List SetValue) → live_bits (marks_of bits values) ≡ bits
bits_back bits values = bits_back_from 0 bits values

count_from : (row : ℕ) (bits : List Bool) (values : List SetValue) → length (marks_from row bits values) ≡ length bits
count_from row [] values = refl
count_from row (bit ∷ bits) values = ap suc (count_from (row + 1) bits (other_values row values))

pub marks_count : (bits : List Bool) (values : List SetValue) → length (marks_of bits values) ≡ length bits
marks_count bits values = count_from 0 bits values

-- ---- set numbers are given back

-- rows don't fall, from one on
abbrev RowsFrom : ℕ → List SetValue → Type 0
RowsFrom low [] = ⊤
RowsFrom low (x ∷ values) = (low ≤ x.0) × RowsFrom x.0 values

-- the numbers rise by row and then by name
abbrev Rise : List SetValue → Type 0
Rise values = AllPairs IsBefore values

first_before : (x y : SetValue) (values : List SetValue) → Rise (x ∷ y ∷ values) → Before x.0 x.1 y.0 y.1
first_before x y values rise = before_of x.0 x.1 y.0 y.1 (rise zero 1 y (omega arith) (omega arith))

rest_rise : (x : SetValue) (values : List SetValue) → Rise (x ∷ values) → Rise values
rest_rise x values rise i j d lt within = rise (suc i) (suc j) d (omega arith) (omega arith)

rows_after : (last : SetValue) (values : List SetValue) → Rise (last ∷ values) → RowsFrom last.0 values
rows_after last [] good = tt
rows_after last (x ∷ values) good = (not_after last.0 last.1 x.0 x.1 (first_before last x values good), rows_after x values (rest_rise last (x ∷ values) good))

rows_from : (values : List SetValue) → Rise values → RowsFrom 0 values
rows_from [] good = tt
rows_from (x ∷ values) good = (omega arith, rows_after x values good)

-- a row's own numbers and the others are all of them
split : (row : ℕ) (values : List SetValue) → row_values row (own_values row values) ++ other_values row values ≡ values
split row [] = refl
split row (x ∷ values) = by (eqb x.0 row) refl (split row values)
  where
    by : (b : Bool) → eqb x.0 row ≡ b → row_values row (own_values row values) ++ other_values row values ≡ values
        → row_values row (cond b ((x.1, x.2) ∷ own_values row values) []) ++ cond b (other_values row values) (x ∷ values) ≡ x ∷ values
    by true e more =
        ap (λ (r : ℕ). (r, x.1, x.2) ∷ (row_values row (own_values row values) ++ other_values row values)) (sym (eqb-true x.0 row e))
        ∙ ap (λ (vs : List SetValue). x ∷ vs) more
    by false e more = refl

others_later : (row : ℕ) (values : List SetValue) → RowsFrom row values → RowsFrom (row + 1) (other_values row values)
others_later row [] rise = tt
others_later row (x ∷ values) rise = by (eqb x.0 row) refl (others_later row values)
  where
    by : (b : Bool) → eqb x.0 row ≡ b → (RowsFrom row values → RowsFrom (row + 1) (other_values row values)) → RowsFrom (row + 1) (cond b (other_values row values) (x ∷ values))
    by true e more = more (subst (λ (r : ℕ). RowsFrom r values) (eqb-true x.0 row e) rise.1)
    by false e more =
        let other : x.0 ≢ row = λ same. absurd (let both : false ≡ true = sym e ∙ eq-eqb x.0 row same in cc) in
        (omega (arith, rise.0, other), rise.1)

others_below : (n row : ℕ) (values : List SetValue) → AllByRecursion (λ (x : SetValue). x.0 < n) values → AllByRecursion (λ (x : SetValue). x.0 < n) (other_values row values)
others_below n row [] below = tt
others_below n row (x ∷ values) below = by (eqb x.0 row) (others_below n row values below.1)
  where
    by : (b : Bool) → AllByRecursion (λ (y : SetValue). y.0 < n) (other_values row values) → AllByRecursion (λ (y : SetValue). y.0 < n) (cond b (other_values row values) (x ∷ values))
    by true more = more
    by false more = below

values_back_from : (row : ℕ) (bits : List Bool) (values : List SetValue) → RowsFrom row values → AllByRecursion (λ (x : SetValue). x.0 < row + length bits) values
    → values_from row (marks_from row bits values) ≡ values
values_back_from row [] [] rise below = refl
values_back_from row [] (x ∷ values) rise below = absurd (omega (arith, rise.0, below.0))
values_back_from row (bit ∷ bits) values rise below =
    let same : row + length (bit ∷ bits) ≡ row + 1 + length bits = omega arith in
    let within : AllByRecursion (λ (x : SetValue). x.0 < row + 1 + length bits) values = subst (λ (n : ℕ). AllByRecursion (λ (x : SetValue). x.0 < n) values) same below in
    ap (λ (vs : List SetValue). row_values row (own_values row values) ++ vs)
    (values_back_from (row + 1) bits (other_values row values) (others_later row values rise) (others_below (row + 1 + length bits) row values within))
    ∙ split row values

rows_within : (n : ℕ) (values : List SetValue) → AllByRecursion (ValueFits n) values → AllByRecursion (λ (x : SetValue). x.0 < n) values
rows_within n [] each = tt
rows_within n (x ∷ values) each = (each.0.row, rows_within n values each.1)

pub values_back : (bits : List Bool) (values : List SetValue) → ValuesFit (length bits) values → values_of (marks_of bits values) ≡ values
values_back bits values fit =
    let all : length bits ≡ 0 + length bits = omega arith in
    values_back_from 0 bits values (rows_from values fit.rise)
    (subst (λ (n : ℕ). AllByRecursion (λ (x : SetValue). x.0 < n) values) all (rows_within (length bits) values fit.each))

-- ---- the names of each row's numbers rise

abbrev names : List Named → List (List ℕ)
names numbers = map (λ number. number.0) numbers

comes_after : (row : ℕ) (name : List ℕ) (next : ℕ) (other : List ℕ) → next ≡ row → Before row name next other → text_lt name other ≡ true
comes_after row name next other same (inl lt) = absurd (omega (arith, lt, same))
comes_after row name next other same (inr h) = h.1

own_after : (row : ℕ) (name : List ℕ) (value : ℤ) (values : List SetValue) → Rise ((row, name, value) ∷ values) → rise_after name (names (own_values row values)) ≡ true
own_after row name value [] good = refl
own_after row name value (x ∷ values) good = by (eqb x.0 row) refl (own_after row x.1 x.2 values)
  where
    by : (b : Bool) → eqb x.0 row ≡ b → (Rise ((row, x.1, x.2) ∷ values) → rise_after x.1 (names (own_values row values)) ≡ true)
        → rise_after name (names (cond b ((x.1, x.2) ∷ own_values row values) [])) ≡ true
    by true e more =
        let same : x.0 ≡ row = eqb-true x.0 row e in
        and_from _ _ (comes_after row name x.0 x.1 same (first_before (row, name, value) x values good))
        (more (subst (λ (r : ℕ). Rise ((r, x.1, x.2) ∷ values)) same (rest_rise (row, name, value) (x ∷ values) good)))
    by false e more = refl

own_rise : (row : ℕ) (values : List SetValue) → Rise values → names_rise (names (own_values row values)) ≡ true
own_rise row [] good = refl
own_rise row (x ∷ values) good = by (eqb x.0 row) refl
  where
    by : (b : Bool) → eqb x.0 row ≡ b → names_rise (names (cond b ((x.1, x.2) ∷ own_values row values) [])) ≡ true
    by true e = own_after row x.1 x.2 values (subst (λ (r : ℕ). Rise ((r, x.1, x.2) ∷ values)) (eqb-true x.0 row e) good)
    by false e = refl

others_rise : (row : ℕ) (values : List SetValue) → Rise values → Rise (other_values row values)
others_rise row [] good = good
others_rise row (x ∷ values) good = by (eqb x.0 row) (others_rise row values (rest_rise x values good))
  where
    by : (b : Bool) → Rise (other_values row values) → Rise (cond b (other_values row values) (x ∷ values))
    by true more = more
    by false more = good

rise_from : (row : ℕ) (bits : List Bool) (values : List SetValue) → Rise values → RowsNamesRise (marks_from row bits values)
rise_from row [] values good = tt
rise_from row (bit ∷ bits) values good = (own_rise row values good, rise_from (row + 1) bits (other_values row values) (others_rise row values good))

pub marks_rise : (bits : List Bool) (values : List SetValue) → ValuesFit (length bits) values → RowsNamesRise (marks_of bits values)
marks_rise bits values fit = rise_from 0 bits values fit.rise
