-- Entries of a column in the order of their numbers: those in a range stand side by side.
use Rattle.std.proofs.Common.{◌≡◌, ◌∙◌, ℕ, ℤ, pos, negsuc, ◌+◌, ◌<◌, ◌≤◌, ◌^◌, List, [], ◌∷◌, ◌++◌, Bool, true, false, not, ◌&&◌, ◌||◌, ◌==◌, cond, Less, Greater, Equal, ltb, leb, int_lt, int_le, length, get_or, take, drop, map, filter, All, Option, Some, None, IsSortedByKey, refl, sym, ap, arith, if◌then◌else◌}
use Rattle.std.specs.List.{list_any}
use Rattle.std.specs.List.Sorted.{IsPartitionedBy}
use Rattle.std.specs.Ordering.{int_cmp, ordering_index}
use Rattle.std.proofs.lemmas.Bool.{le-ltb, le-leb, lt-leb, ltb-true, ltb-false}
use Rattle.std.proofs.lemmas.Cmp.{int_cmp_total}
use Rattle.std.proofs.lemmas.List.{take-append-drop, get_or-drop, get_or-take, length-take, length-drop, length-map, map-append, take_more, append-nil}
use Rattle.std.proofs.lemmas.List.Elements.{All-head, All-tail}
use Rattle.std.proofs.lemmas.List.Sorted.{searchable_from_sorted, IsPartitionedBy-ltb, IsPartitionedBy-leb, IsNonDecreasingBy-drop, list_any-IsPermutation}
use Rattle.ix_base.specs.Matches.{is_within, value_of}
use Rattle.ix_base.specs.Inversion.{has_number}
use Rattle.ix_base.specs.declared.document.Row.{Row}
use Rattle.segment_core.specs.Columns.{numbers_of, within_from, entries_from, IsColumnOf}
use Rattle.segment_core.specs.declared.column.Column.{Column}
use Rattle.segment_core.specs.declared.column.Entry.{Entry}

-- ---- the order of two numbers

nat_turned : (a b : ℕ) → leb a b ≡ not (ltb b a)
nat_turned a b = by (ltb b a) refl
  where
    by : (t : Bool) → ltb b a ≡ t → leb a b ≡ not t
    by true e = lt-leb a b (ltb-true b a e)
    by false e = le-leb a b (ltb-false b a e)

pub turned : (a b : ℤ) → int_le a b ≡ not (int_lt b a)
turned (pos a) (pos b) = nat_turned a b
turned (pos a) (negsuc b) = refl
turned (negsuc a) (pos b) = refl
turned (negsuc a) (negsuc b) = nat_turned b a

one_way : (a b : ℤ) → int_lt a b ≡ true → int_lt b a ≡ false
one_way (pos a) (pos b) e = let l = ltb-true a b e in le-ltb b a (omega arith)
one_way (pos a) (negsuc b) e = cc
one_way (negsuc a) (pos b) e = refl
one_way (negsuc a) (negsuc b) e = let l = ltb-true b a e in le-ltb a b (omega arith)

-- below a bound, by the place of the answer of `cmp`
below : (v low : ℤ) → ltb (ordering_index (int_cmp v low)) 1 ≡ int_lt v low
below v low = by (int_lt v low) (int_lt low v)
  where
    by : (b c : Bool) → ltb (ordering_index (cond b Less (cond c Greater Equal))) 1 ≡ b
    by true c = refl
    by false true = refl
    by false false = refl

upto : (v high : ℤ) → leb (ordering_index (int_cmp v high)) 1 ≡ int_le v high
upto v high = by (int_lt v high) refl (int_lt high v) refl ∙ sym (turned v high)
  where
    by : (b : Bool) → int_lt v high ≡ b → (c : Bool) → int_lt high v ≡ c → leb (ordering_index (cond b Less (cond c Greater Equal))) 1 ≡ not c
    by true e true f = let no = sym f ∙ one_way v high e in cc
    by true e false f = refl
    by false e true f = refl
    by false e false f = refl

abbrev pub Rise : List Entry → Type 0
Rise entries = IsSortedByKey (λ (e : Entry). e.number) int_cmp entries

pub parted_below : (entries : List Entry) (low : ℤ) → Rise entries → IsPartitionedBy (λ (e : Entry). int_lt e.number low) entries
parted_below entries low up i j d le lt e =
    sym (below (get_or entries i d).number low)
    ∙ IsPartitionedBy-ltb (λ (y : Entry). ordering_index (int_cmp y.number low)) entries 1 (searchable_from_sorted int_cmp_total (λ (y : Entry). y.number) entries low up) i j d le lt (below (get_or entries j d).number low ∙ e)

pub parted_upto : (entries : List Entry) (start : ℕ) (high : ℤ) → Rise entries → IsPartitionedBy (λ (e : Entry). int_le e.number high) (drop start entries)
parted_upto entries start high up i j d le lt e =
    let rest = drop start entries in
    sym (upto (get_or rest i d).number high)
    ∙ IsPartitionedBy-leb (λ (y : Entry). ordering_index (int_cmp y.number high)) rest 1
    (IsNonDecreasingBy-drop (λ (y : Entry). ordering_index (int_cmp y.number high)) start entries (searchable_from_sorted int_cmp_total (λ (y : Entry). y.number) entries high up)) i j d le lt (upto (get_or rest j d).number high ∙ e)

-- ---- what a test keeps

module _ {X : Type 0} (p : X → Bool) where
  none_kept : (xs : List X) → All (λ x. p x ≡ false) xs → filter p xs ≡ []
  none_kept [] h = refl
  none_kept (x ∷ xs) h = ap (λ (b : Bool). cond b (x ∷ filter p xs) (filter p xs)) (All-head (λ x. p x ≡ false) x xs h) ∙ none_kept xs (All-tail (λ x. p x ≡ false) x xs h)

  all_kept : (xs : List X) → All (λ x. p x ≡ true) xs → filter p xs ≡ xs
  all_kept [] h = refl
  all_kept (x ∷ xs) h = ap (λ (b : Bool). cond b (x ∷ filter p xs) (filter p xs)) (All-head (λ x. p x ≡ true) x xs h) ∙ ap (λ (l : List X). x ∷ l) (all_kept xs (All-tail (λ x. p x ≡ true) x xs h))

  kept_both : (xs ys : List X) → filter p (xs ++ ys) ≡ filter p xs ++ filter p ys
  kept_both [] ys = refl
  kept_both (x ∷ xs) ys = by (p x) (kept_both xs ys)
    where
      by : (b : Bool) → filter p (xs ++ ys) ≡ filter p xs ++ filter p ys → cond b (x ∷ filter p (xs ++ ys)) (filter p (xs ++ ys)) ≡ cond b (x ∷ filter p xs) (filter p xs) ++ filter p ys
      by true e = ap (λ (l : List X). x ∷ l) e
      by false e = e

  kept_part : (xs : List X) (i : ℕ) → filter p xs ≡ filter p (take i xs) ++ filter p (drop i xs)
  kept_part xs i = ap (filter p) (sym (take-append-drop i xs)) ∙ kept_both (take i xs) (drop i xs)

-- those from one place to another are those in the range
pub picked : (low high : ℤ) (entries : List Entry) (start end : ℕ)
    → ((k : ℕ) (d : Entry) → k < start → k < length entries → int_lt (get_or entries k d).number low ≡ true)
    → ((k : ℕ) (d : Entry) → start ≤ k → k < length entries → int_lt (get_or entries k d).number low ≡ false)
    → ((k : ℕ) (d : Entry) → k < end → k < length (drop start entries) → int_le (get_or (drop start entries) k d).number high ≡ true)
    → ((k : ℕ) (d : Entry) → end ≤ k → k < length (drop start entries) → int_le (get_or (drop start entries) k d).number high ≡ false)
    → take end (drop start entries) ≡ filter (λ (e : Entry). is_within low high (Some e.number)) entries
picked low high entries start end lower higher inside past =
    let p : Entry → Bool = λ e. int_le low e.number && int_le e.number high in
    let rest = drop start entries in
    let first : filter p (take start entries) ≡ [] = none_kept p (take start entries) (λ k d lt.
    let in' : k < start = omega (arith, length-take start entries, lt) in
    ap (λ (e : Entry). p e) (get_or-take start entries k d in')
    ∙ ap (λ (b : Bool). b && int_le (get_or entries k d).number high) (turned low (get_or entries k d).number ∙ ap not (lower k d in' (omega (arith, length-take start entries, lt))))) in
    let middle : filter p (take end rest) ≡ take end rest = all_kept p (take end rest) (λ k d lt.
    let in' : k < end = omega (arith, length-take end rest, lt) in
    let on : k < length rest = omega (arith, length-take end rest, lt) in
    ap (λ (e : Entry). p e) (get_or-take end rest k d in')
    ∙ (λ n. not_low k d on n && inside k d in' on n)) in
    let last : filter p (drop end rest) ≡ [] = none_kept p (drop end rest) (λ k d lt.
    let on : end + k < length rest = omega (arith, length-drop end rest, lt) in
    ap (λ (e : Entry). p e) (get_or-drop end rest k d)
    ∙ no_more (int_le low (get_or rest (end + k) d).number) (past (end + k) d (omega arith) on)) in
    sym (kept_part p entries start
    ∙ (λ n. first n ++ filter p rest)
    ∙ kept_part p rest end
    ∙ (λ n. middle n ++ last n)
    ∙ append-nil (take end rest))
  where
    not_low : (k : ℕ) (d : Entry) → k < length (drop start entries) → int_le low (get_or (drop start entries) k d).number ≡ true
    not_low k d on =
        turned low (get_or (drop start entries) k d).number
        ∙ ap not (ap (λ (e : Entry). int_lt e.number low) (get_or-drop start entries k d) ∙ higher (start + k) d (omega arith) (omega (arith, length-drop start entries, on)))

    no_more : (b : Bool) {c : Bool} → c ≡ false → (b && c) ≡ false
    no_more true e = e
    no_more false e = refl

-- ---- rows

abbrev pub kept_of : ℤ → ℤ → List Entry → List Entry
kept_of low high entries = filter (λ (e : Entry). is_within low high (Some e.number)) entries

abbrev tested : ℤ → ℤ → ℕ → Entry → Bool
tested low high row e = is_within low high (Some e.number) && (e.row == row)

-- a row is among those kept where one of all entries is kept and is of the row
rows_tested : (low high : ℤ) (row : ℕ) (entries : List Entry)
    → has_number (map (λ (e : Entry). e.row) (filter (λ (e : Entry). is_within low high (Some e.number)) entries)) row ≡ list_any (tested low high row) entries
rows_tested low high row [] = refl
rows_tested low high row (e ∷ entries) = by (is_within low high (Some e.number)) (rows_tested low high row entries)
  where
    rows_of : List Entry → List ℕ
    rows_of es = map (λ (e : Entry). e.row) es

    kept : List Entry
    kept = filter (λ (e : Entry). is_within low high (Some e.number)) entries

    by : (b : Bool) → has_number (rows_of kept) row ≡ list_any (tested low high row) entries → has_number (rows_of (cond b (e ∷ kept) kept)) row ≡ ((b && (e.row == row)) || list_any (tested low high row) entries)
    by true h = ap (λ (c : Bool). (e.row == row) || c) h
    by false h = h

rows_from : (low high : ℤ) (row k : ℕ) (numbers : List (Option ℤ)) → list_any (tested low high row) (entries_from k numbers) ≡ has_number (within_from k low high numbers) row
rows_from low high row k [] = refl
rows_from low high row k (None ∷ numbers) = rows_from low high row (k + 1) numbers
rows_from low high row k (Some number ∷ numbers) = by (is_within low high (Some number)) (rows_from low high row (k + 1) numbers)
  where
    by : (b : Bool) → list_any (tested low high row) (entries_from (k + 1) numbers) ≡ has_number (within_from (k + 1) low high numbers) row
        → ((b && (k == row)) || list_any (tested low high row) (entries_from (k + 1) numbers)) ≡ has_number (if b then k ∷ within_from (k + 1) low high numbers else within_from (k + 1) low high numbers) row
    by true h = ap (λ (c : Bool). (k == row) || c) h
    by false h = h

-- the rows of a column's entries in the range are those that were stored with a number in it
pub column_rows : (low high : ℤ) (rows : List Row) (column : Column) → IsColumnOf rows column → length rows < 2 ^ 32 → (row : ℕ)
    → has_number (map (λ (e : Entry). e.row) (filter (λ (e : Entry). is_within low high (Some e.number)) column.entries)) row ≡ has_number (within_from 0 low high (numbers_of column.name rows)) row
column_rows low high rows column is few row =
    rows_tested low high row column.entries
    ∙ sym (list_any-IsPermutation (tested low high row) (entries_from 0 (numbers_of column.name rows)) column.entries (is.whole few))
    ∙ rows_from low high row 0 (numbers_of column.name rows)

-- ---- one more row

abbrev pub entry_of : ℕ → Option ℤ → List Entry
entry_of row None = []
entry_of row (Some number) = record { number = number; row = row } ∷ []

entries_more : (k : ℕ) (numbers : List (Option ℤ)) (o : Option ℤ) (row : ℕ) → k + length numbers ≡ row → entries_from k (numbers ++ o ∷ []) ≡ entries_from k numbers ++ entry_of row o
entries_more k [] None row at = refl
entries_more k [] (Some number) row at = ap (λ (r : ℕ). record { number = number; row = r } ∷ []) (let same : k ≡ row = omega (arith, at) in same)
entries_more k (None ∷ numbers) o row at = entries_more (k + 1) numbers o row (omega (arith, at))
entries_more k (Some number ∷ numbers) o row at = ap (λ (l : List Entry). record { number = number; row = k } ∷ l) (entries_more (k + 1) numbers o row (omega (arith, at)))

pub next_entry : (name : List ℕ) (rows : List Row) (row : ℕ) (stored : Row) → row < length rows → get_or rows row stored ≡ stored
    → entries_from 0 (numbers_of name (take (row + 1) rows)) ≡ entries_from 0 (numbers_of name (take row rows)) ++ entry_of row (value_of name stored.doc.num)
next_entry name rows row stored lt is =
    let number_of_row : Row → Option ℤ = λ r. value_of name r.doc.num in
    ap (λ (rs : List Row). entries_from 0 (numbers_of name rs)) (take_more rows row stored lt ∙ ap (λ (r : Row). take row rows ++ r ∷ []) is)
    ∙ ap (entries_from 0) (map-append number_of_row (take row rows) (stored ∷ []))
    ∙ entries_more 0 (numbers_of name (take row rows)) (value_of name stored.doc.num) row (omega (arith, length-map (take row rows) number_of_row, length-take row rows))
