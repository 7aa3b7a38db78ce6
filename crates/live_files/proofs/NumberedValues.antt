-- The numbers of the rows in which some were set are those of all rows.
use Rattle.std.proofs.Common.{◌≡◌, ◌∙◌, ℕ, zero, suc, ◌+◌, ◌-◌, ◌^◌, ◌<◌, ◌≤◌, true, List, [], ◌∷◌, ◌++◌, length, take, get_or, min, refl, sym, ap, subst, append_assoc, arith}
use Rattle.std.specs.Prelude.{⊤}
use Rattle.std.specs.List.{flat_map, AllByRecursion}
use Rattle.std.proofs.lemmas.Grind.{flat_map-append}
use Rattle.std.proofs.lemmas.List.{append-nil, length-append, length-map, take_all, take_more}
use Rattle.ix_base.specs.Limits.{names_rise}
use Rattle.ix_base.specs.Steps.{Named}
use Rattle.live_docs.specs.Marks.{fresh, numbered_from, numbered_rows, RowsNamesRise}
use Rattle.live_docs.proofs.NumberedLaws.{numbered_within}
use Rattle.live_docs.specs.declared.live_docs.Mark.{Mark}
use Rattle.live_files.specs.LiveSpelling.{SetValue, value_bytes, row_values, values_from, values_of}
use Rattle.live_files.specs.LiveFits.{ValueFits}
use Rattle.live_files.proofs.ValuesWrite.{names, all_append, all_same}

-- the numbers of a row
abbrev pub numbers_at : List Mark → ℕ → List Named
numbers_at marks row = (get_or marks row fresh).values

-- the numbers of these rows, where each row has these
abbrev pub values_in : (ℕ → List Named) → List ℕ → List SetValue
values_in f [] = []
values_in f (row ∷ rows) = row_values row (f row) ++ values_in f rows

-- the names of each of these rows' numbers rise
abbrev pub NamesRiseIn : (ℕ → List Named) → List ℕ → Type 0
NamesRiseIn f rows = AllByRecursion (λ (row : ℕ). names_rise (names (f row)) ≡ true) rows

-- ---- all rows

-- rows of which this is the first have these numbers
abbrev Agree : (ℕ → List Named) → ℕ → List Mark → Type 0
Agree f row [] = ⊤
Agree f row (m ∷ marks) = (f row ≡ m.values) × Agree f (row + 1) marks

agree_by : (f : ℕ → List Named) (row : ℕ) (marks : List Mark) → ((i : ℕ) → i < length marks → f (row + i) ≡ numbers_at marks i) → Agree f row marks
agree_by f row [] each = tt
agree_by f row (m ∷ marks) each =
    let here : row + 0 ≡ row = omega arith in (
      subst (λ (k : ℕ). f k ≡ m.values) here (each 0 (omega arith)),
      agree_by f (row + 1) marks (λ i lt. let at : row + suc i ≡ row + 1 + i = omega arith in subst (λ (k : ℕ). f k ≡ numbers_at marks i) at (each (suc i) (omega (arith, lt)))),
    )

agree : (marks : List Mark) → Agree (numbers_at marks) 0 marks
agree marks = agree_by (numbers_at marks) 0 marks (λ i lt. let at : 0 + i ≡ i = omega arith in ap (numbers_at marks) at)

values_back : (f : ℕ → List Named) (row : ℕ) (marks : List Mark) → Agree f row marks → values_in f (numbered_from row marks) ≡ values_from row marks
values_back f row [] same = refl
values_back f row (m ∷ marks) same = by m.values same.0 (values_back f (row + 1) marks same.1)
  where
    by : (ns : List Named) → f row ≡ ns → values_in f (numbered_from (row + 1) marks) ≡ values_from (row + 1) marks
        → values_in f (numbered_from row (record { live = m.live; values = ns } ∷ marks)) ≡ row_values row ns ++ values_from (row + 1) marks
    by [] here more = more
    by (n ∷ ns) here more =
        ap (λ (own : List Named). row_values row own ++ values_in f (numbered_from (row + 1) marks)) here
        ∙ ap (λ (rest : List SetValue). row_values row (n ∷ ns) ++ rest) more

rise_back : (f : ℕ → List Named) (row : ℕ) (marks : List Mark) → Agree f row marks → NamesRiseIn f (numbered_from row marks) → RowsNamesRise marks
rise_back f row [] same rise = tt
rise_back f row (m ∷ marks) same rise = by m.values same.0 rise (rise_back f (row + 1) marks same.1)
  where
    by : (ns : List Named) → f row ≡ ns → NamesRiseIn f (numbered_from row (record { live = m.live; values = ns } ∷ marks))
        → (NamesRiseIn f (numbered_from (row + 1) marks) → RowsNamesRise marks) → RowsNamesRise (record { live = m.live; values = ns } ∷ marks)
    by [] here rise more = (refl, more rise)
    by (n ∷ ns) here rise more = (subst (λ (own : List Named). names_rise (names own) ≡ true) here rise.0, more rise.1)

-- what is so of the numbers of all rows seen is so of all numbers
seen_all : (marks : List Mark) (rows : List ℕ) (i : ℕ) → rows ≡ numbered_rows marks → length rows ≤ i → take i rows ≡ numbered_rows marks
seen_all marks rows i is le = take_all i rows le ∙ is

pub all_values : (marks : List Mark) (rows : List ℕ) (i : ℕ) → rows ≡ numbered_rows marks → length rows ≤ i → values_in (numbers_at marks) (take i rows) ≡ values_of marks
all_values marks rows i is le =
    ap (values_in (numbers_at marks)) (seen_all marks rows i is le) ∙ values_back (numbers_at marks) 0 marks (agree marks)

pub all_rise : (marks : List Mark) (rows : List ℕ) (i : ℕ) → rows ≡ numbered_rows marks → length rows ≤ i → NamesRiseIn (numbers_at marks) (take i rows) → RowsNamesRise marks
all_rise marks rows i is le rise =
    rise_back (numbers_at marks) 0 marks (agree marks) (subst (NamesRiseIn (numbers_at marks)) (seen_all marks rows i is le) rise)

pub all_fit : (n : ℕ) (marks : List Mark) (rows : List ℕ) (i : ℕ) → rows ≡ numbered_rows marks → length rows ≤ i → AllByRecursion (ValueFits n) (values_in (numbers_at marks) (take i rows)) → AllByRecursion (ValueFits n) (values_of marks)
all_fit n marks rows i is le all = subst (AllByRecursion (ValueFits n)) (all_values marks rows i is le) all

-- ---- one row more

-- what holds of all holds of one
one_of : (P : ℕ → Type 0) (rows : List ℕ) (i : ℕ) → i < length rows → AllByRecursion P rows → P (get_or rows i 0)
one_of P [] i lt all = absurd (omega (arith, lt))
one_of P (r ∷ rows) zero lt all = all.0
one_of P (r ∷ rows) (suc i) lt all = one_of P rows i (omega (arith, lt)) all.1

-- a row with numbers is there
pub row_there : (marks : List Mark) (rows : List ℕ) (i : ℕ) → rows ≡ numbered_rows marks → i < length rows → get_or rows i 0 < length marks
row_there marks rows i are lt =
    one_of (λ (r : ℕ). r < length marks) rows i lt (subst (AllByRecursion (λ (r : ℕ). r < length marks)) (sym are) (numbered_within marks))

values_behind : (f : ℕ → List Named) (rows : List ℕ) (row : ℕ) → values_in f (rows ++ row ∷ []) ≡ values_in f rows ++ row_values row (f row)
values_behind f [] row = append-nil (row_values row (f row))
values_behind f (r ∷ rows) row =
    ap (λ (rest : List SetValue). row_values r (f r) ++ rest) (values_behind f rows row) ∙ sym (append_assoc (row_values r (f r)) (values_in f rows) (row_values row (f row)))

values_more : (f : ℕ → List Named) (rows : List ℕ) (i : ℕ) (numbers : List Named) → i < length rows → numbers ≡ f (get_or rows i 0)
    → values_in f (take (i + 1) rows) ≡ values_in f (take i rows) ++ row_values (get_or rows i 0) numbers
values_more f rows i numbers lt own =
    ap (values_in f) (take_more rows i 0 lt)
    ∙ values_behind f (take i rows) (get_or rows i 0)
    ∙ ap (λ (ns : List Named). values_in f (take i rows) ++ row_values (get_or rows i 0) ns) (sym own)

pub row_bytes : (f : ℕ → List Named) (rows : List ℕ) (i : ℕ) (numbers : List Named) (old before now : List ℕ) → i < length rows → numbers ≡ f (get_or rows i 0)
    → before ≡ old ++ flat_map value_bytes (values_in f (take i rows)) → now ≡ before ++ flat_map value_bytes (row_values (get_or rows i 0) numbers)
    → now ≡ old ++ flat_map value_bytes (values_in f (take (i + 1) rows))
row_bytes f rows i numbers old before now lt own was writes =
    let front = values_in f (take i rows) in
    let more = row_values (get_or rows i 0) numbers in
    writes
    ∙ ap (λ (l : List ℕ). l ++ flat_map value_bytes more) was
    ∙ append_assoc old (flat_map value_bytes front) (flat_map value_bytes more)
    ∙ ap (λ (l : List ℕ). old ++ l) (sym (flat_map-append value_bytes front more))
    ∙ ap (λ (l : List SetValue). old ++ flat_map value_bytes l) (sym (values_more f rows i numbers lt own))

pub row_fits : (n : ℕ) (f : ℕ → List Named) (rows : List ℕ) (i : ℕ) (numbers : List Named) → i < length rows → numbers ≡ f (get_or rows i 0)
    → AllByRecursion (ValueFits n) (values_in f (take i rows)) → AllByRecursion (ValueFits n) (row_values (get_or rows i 0) numbers) → AllByRecursion (ValueFits n) (values_in f (take (i + 1) rows))
row_fits n f rows i numbers lt own all more =
    all_same (ValueFits n) (values_in f (take i rows) ++ row_values (get_or rows i 0) numbers) (values_in f (take (i + 1) rows)) (values_more f rows i numbers lt own)
    (all_append (ValueFits n) (values_in f (take i rows)) (row_values (get_or rows i 0) numbers) all more)

rise_behind : (f : ℕ → List Named) (rows : List ℕ) (row : ℕ) → NamesRiseIn f rows → names_rise (names (f row)) ≡ true → NamesRiseIn f (rows ++ row ∷ [])
rise_behind f [] row all one = (one, tt)
rise_behind f (r ∷ rows) row all one = (all.0, rise_behind f rows row all.1 one)

pub row_rises : (f : ℕ → List Named) (rows : List ℕ) (i : ℕ) (numbers : List Named) → i < length rows → numbers ≡ f (get_or rows i 0) → names_rise (names numbers) ≡ true
    → NamesRiseIn f (take i rows) → NamesRiseIn f (take (i + 1) rows)
row_rises f rows i numbers lt own one all =
    subst (NamesRiseIn f) (sym (take_more rows i 0 lt)) (rise_behind f (take i rows) (get_or rows i 0) all (subst (λ (ns : List Named). names_rise (names ns) ≡ true) own one))

-- ---- how many numbers there are

-- so many numbers these are, if they are few
abbrev pub Counted : List SetValue → ℕ → Type 0
Counted values count = length values < 2 ^ 64 → count ≡ length values

pub count_more : (f : ℕ → List Named) (rows : List ℕ) (i count now : ℕ) (numbers : List Named) → i < length rows → numbers ≡ f (get_or rows i 0) → now ≡ min (count + length numbers) (2 ^ 64 - 1)
    → Counted (values_in f (take i rows)) count → Counted (values_in f (take (i + 1) rows)) now
count_more f rows i count now numbers lt own sum was small =
    let front = values_in f (take i rows) in
    let row = get_or rows i 0 in
    let whole : length (values_in f (take (i + 1) rows)) ≡ length front + length numbers =
    ap length (values_more f rows i numbers lt own) ∙ length-append front (row_values row numbers) ∙ ap (λ (k : ℕ). length front + k) (length-map numbers (λ (number : Named). (row, number.0, number.1))) in
    let before : length front < 2 ^ 64 = omega (arith, whole, small) in
    omega (arith, whole, small, sum, was before)

pub count_all : (marks : List Mark) (rows : List ℕ) (i count : ℕ) → rows ≡ numbered_rows marks → length rows ≤ i → Counted (values_in (numbers_at marks) (take i rows)) count → Counted (values_of marks) count
count_all marks rows i count is le counted = subst (λ (values : List SetValue). Counted values count) (all_values marks rows i is le) counted
