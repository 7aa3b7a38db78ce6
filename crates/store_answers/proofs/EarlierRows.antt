-- How many rows were added up to a number, and which rows stand behind them.
use Rattle.std.proofs.Common.{◌≡◌, ◌∙◌, ℕ, zero, suc, ◌+◌, ◌-◌, ◌^◌, ◌<◌, ◌≤◌, Bool, true, false, cond, leb, List, [], ◌∷◌, ◌++◌, length, map, take, drop, get_or, Some, None, refl, sym, ap, arith}
use Rattle.std.specs.Prelude.{IsPermutation, min}
use Rattle.std.specs.List.{filter, cons_option}
use Rattle.std.proofs.lemmas.Bool.{leb-true, leb-false, le-leb, lt-leb, lt-ltb, le-ltb}
use Rattle.std.proofs.lemmas.List.{drop-map, flat_map_more, length-append, length-map, take_more}
use Rattle.std.proofs.lemmas.List.Elements.{filter-append}
use Rattle.std.proofs.lemmas.List.Sorted.{sum_by-IsPermutation}
use Rattle.std.proofs.lemmas.List.Sums.{count_by-le-length, length-filter}
use Rattle.ix_base.specs.Births.{first_birth, last_birth}
use Rattle.ix_base.specs.Hits.{hit_of, hits, matching}
use Rattle.ix_base.specs.declared.document.Hit.{Hit}
use Rattle.ix_base.specs.declared.document.Row.{Row}
use Rattle.ix_base.specs.declared.query.Query.TheVariants.{All}
use Rattle.live_docs.specs.Marks.{fresh}
use Rattle.live_docs.specs.declared.live_docs.Mark.{Mark}
use Rattle.row_fates.specs.Fate.{renumbered}
use Rattle.segment_files.specs.Fits.{BirthsRise}
use Rattle.segment_core.specs.Births.{by_bool}
use Rattle.segment_core.specs.LiveRows.{Lived, all_live, live, live_rows, marked, with_numbers}
use Rattle.report_text.specs.Born.{born_after}
use Rattle.searcher.specs.Searching.{Searches}
use Rattle.store_answers.specs.Own.{born_up_to}

-- ---- in a segment

-- 1 for a live row that an operation numbered up to this one added, else 0
abbrev pub counted : ℕ → Row → Mark → ℕ
counted base row mark = cond (leb row.birth (last_birth base)) (cond mark.live 1 0) 0

next_counted : (base : ℕ) (row : Row) (mark : Mark) (rows : List Row)
    → born_up_to base (cons_option (marked row mark) rows) ≡ counted base row mark + born_up_to base rows
next_counted base row mark rows = by mark.live
  where
    born : (b : Bool) (r : Row) → length (cond b (r ∷ filter (λ (x : Row). leb x.birth (last_birth base)) rows) (filter (λ (x : Row). leb x.birth (last_birth base)) rows))
        ≡ cond b 1 0 + length (filter (λ (x : Row). leb x.birth (last_birth base)) rows)
    born true r = omega arith
    born false r = omega arith

    dead : (b : Bool) → born_up_to base rows ≡ cond b 0 0 + born_up_to base rows
    dead true = omega arith
    dead false = omega arith

    by : (l : Bool) → born_up_to base (cons_option (cond l (Some (renumbered (with_numbers mark.values row.doc.num) row)) None) rows)
        ≡ cond (leb row.birth (last_birth base)) (cond l 1 0) 0 + born_up_to base rows
    by true = born (leb row.birth (last_birth base)) (renumbered (with_numbers mark.values row.doc.num) row)
    by false = dead (leb row.birth (last_birth base))

row_counted : (base : ℕ) (rows : List Row) (marks : List Mark) (i : ℕ) (row : Row) → i < length rows → length marks ≡ length rows
    → born_up_to base (live_rows (take (suc i) rows) (take (suc i) marks))
    ≡ born_up_to base (live_rows (take i rows) (take i marks)) + counted base (get_or rows i row) (get_or marks i fresh)
row_counted base [] marks i row lt long = absurd (omega (arith, lt))
row_counted base (r ∷ rs) [] i row lt long = absurd (omega (arith, long))
row_counted base (r ∷ rs) (m ∷ ms) zero row lt long = omega (arith, next_counted base r m [])
row_counted base (r ∷ rs) (m ∷ ms) (suc i) row lt long =
    omega (
      arith,
      next_counted base r m (live_rows (take (suc i) rs) (take (suc i) ms)),
      next_counted base r m (live_rows (take i rs) (take i ms)),
      row_counted base rs ms i row (omega (arith, lt)) (omega (arith, long)),
    )

-- one more row of a segment
pub one_more : (base : ℕ) (rows : List Row) (marks : List Mark) (i : ℕ) (row : Row) → i < length rows → length marks ≡ length rows
    → born_up_to base (live_rows (take (i + 1) rows) (take (i + 1) marks))
    ≡ born_up_to base (live_rows (take i rows) (take i marks)) + counted base (get_or rows i row) (get_or marks i fresh)
one_more base rows marks i row lt long =
    let next : i + 1 ≡ suc i = omega arith in
    ap (λ (n : ℕ). born_up_to base (live_rows (take n rows) (take n marks))) next ∙ row_counted base rows marks i row lt long

-- what a loop has counted with one more row
pub row_more : (base before now : ℕ) (rows : List Row) (marks : List Mark) (i : ℕ) (row : Row) → i < length rows → length marks ≡ length rows → row ≡ get_or rows i row
    → before ≡ born_up_to base (live_rows (take i rows) (take i marks)) → now ≡ before + counted base row (get_or marks i fresh)
    → now ≡ born_up_to base (live_rows (take (i + 1) rows) (take (i + 1) marks))
row_more base before now rows marks i row lt long is so adds =
    let one : counted base row (get_or marks i fresh) ≡ counted base (get_or rows i row) (get_or marks i fresh) =
    ap (λ (r : Row). counted base r (get_or marks i fresh)) is in
    omega (arith, so, adds, one, one_more base rows marks i row lt long)

pub counted_one : (base : ℕ) (row : Row) (mark : Mark) → row.birth ≤ last_birth base → mark.live ≡ true → counted base row mark ≡ 1
counted_one base row mark le lives =
    ap (λ (b : Bool). cond b (cond mark.live 1 0) 0) (le-leb row.birth (last_birth base) le) ∙ ap (λ (b : Bool). cond b 1 0) lives

pub counted_later : (base : ℕ) (row : Row) (mark : Mark) → last_birth base < row.birth → counted base row mark ≡ 0
counted_later base row mark lt = ap (λ (b : Bool). cond b (cond mark.live 1 0) 0) (lt-leb row.birth (last_birth base) lt)

pub counted_dead : (base : ℕ) (row : Row) (mark : Mark) → row.birth ≤ last_birth base → mark.live ≡ false → counted base row mark ≡ 0
counted_dead base row mark le dead =
    ap (λ (b : Bool). cond b (cond mark.live 1 0) 0) (le-leb row.birth (last_birth base) le) ∙ ap (λ (b : Bool). cond b 1 0) dead

-- ---- in segments

born_append : (base : ℕ) (xs ys : List Row) → born_up_to base (xs ++ ys) ≡ born_up_to base xs + born_up_to base ys
born_append base xs ys =
    ap length (filter-append (λ (r : Row). leb r.birth (last_birth base)) xs ys)
    ∙ length-append (filter (λ (r : Row). leb r.birth (last_birth base)) xs) (filter (λ (r : Row). leb r.birth (last_birth base)) ys)

-- one more segment
pub segment_more : (base : ℕ) (segments : List Lived) (i : ℕ) (segment : Lived) → i < length segments
    → born_up_to base (all_live (take (i + 1) segments))
    ≡ born_up_to base (all_live (take i segments)) + born_up_to base (live (get_or segments i segment))
segment_more base segments i segment lt =
    ap (λ (gs : List Lived). born_up_to base (all_live gs)) (take_more segments i segment lt)
    ∙ sym (ap (born_up_to base) (flat_map_more live [] (take i segments) (get_or segments i segment)))
    ∙ born_append base (all_live (take i segments)) (live (get_or segments i segment))

-- ---- in a commit

same_count : (base : ℕ) (xs ys : List Row) → IsPermutation xs ys → born_up_to base ys ≡ born_up_to base xs
same_count base xs ys moved =
    length-filter (λ (r : Row). leb r.birth (last_birth base)) ys
    ∙ sum_by-IsPermutation (λ (r : Row). cond (leb r.birth (last_birth base)) 1 0) xs ys moved
    ∙ sym (length-filter (λ (r : Row). leb r.birth (last_birth base)) xs)

at_most_all : (base : ℕ) (rows : List Row) → born_up_to base rows ≤ length rows
at_most_all base rows =
    omega (arith, length-filter (λ (r : Row). leb r.birth (last_birth base)) rows, count_by-le-length (λ (r : Row). leb r.birth (last_birth base)) rows)

none_up_to : (base low s : ℕ) (rows : List Row) → BirthsRise low s rows → last_birth base < low → born_up_to base rows ≡ 0
none_up_to base low s [] rise lt = refl
none_up_to base low s (r ∷ rs) rise lt =
    ap (λ (b : Bool). length (cond b (r ∷ filter (λ (x : Row). leb x.birth (last_birth base)) rs) (filter (λ (x : Row). leb x.birth (last_birth base)) rs)))
    (lt-leb r.birth (last_birth base) (omega (arith, lt, rise.0)))
    ∙ none_up_to base (r.birth + 1) s rs rise.2 (omega (arith, lt, rise.0))

all_after : (base low s : ℕ) (rows : List Row) → BirthsRise low s rows → last_birth base < low → born_after base rows ≡ rows
all_after base low s [] rise lt = refl
all_after base low s (r ∷ rs) rise lt =
    ap (λ (b : Bool). cond b (r ∷ born_after base rs) (born_after base rs)) (lt-ltb (last_birth base) r.birth (omega (arith, lt, rise.0)))
    ∙ ap (λ (xs : List Row). r ∷ xs) (all_after base (r.birth + 1) s rs rise.2 (omega (arith, lt, rise.0)))

-- where births rise, the rows that were born later stand behind all others
born_behind : (base low s : ℕ) (rows : List Row) → BirthsRise low s rows → drop (born_up_to base rows) rows ≡ born_after base rows
born_behind base low s [] rise = refl
born_behind base low s (r ∷ rs) rise =
    by_bool (leb r.birth (last_birth base))
    (λ e.
    ap (λ (b : Bool). drop (length (cond b (r ∷ filter (λ (x : Row). leb x.birth (last_birth base)) rs) (filter (λ (x : Row). leb x.birth (last_birth base)) rs))) (r ∷ rs)) e
    ∙ born_behind base (r.birth + 1) s rs rise.2
    ∙ sym (ap (λ (b : Bool). cond b (r ∷ born_after base rs) (born_after base rs)) (le-ltb (last_birth base) r.birth (leb-true r.birth (last_birth base) e))))
    (λ e.
    let from_here : BirthsRise r.birth s (r ∷ rs) = (omega arith, rise.1, rise.2) in
    ap (λ (n : ℕ). drop n (r ∷ rs)) (none_up_to base r.birth s (r ∷ rs) from_here (leb-false r.birth (last_birth base) e))
    ∙ sym (all_after base r.birth s (r ∷ rs) from_here (leb-false r.birth (last_birth base) e)))

-- ---- their hits

all_match : (rows : List Row) → matching All rows ≡ rows
all_match [] = refl
all_match (r ∷ rs) = ap (λ (xs : List Row). r ∷ xs) (all_match rs)

-- of the hits of all rows those behind the earlier ones
pub later_left : (base counted : ℕ) (segments : List Lived) (rows : List Row) (found left : List Hit) → Searches segments rows
    → found ≡ hits All rows → length found < 2 ^ 64 → counted ≡ min (born_up_to base (all_live segments)) (2 ^ 64 - 1)
    → left ≡ drop counted found → left ≡ map hit_of (born_after base rows)
later_left base counted segments rows found left searches all few count behind =
    let are = searches.rows_are in
    let found_all : found ≡ map hit_of rows = all ∙ ap (map hit_of) (all_match rows) in
    let long : length found ≡ length rows = ap length found_all ∙ length-map rows hit_of in
    let same : born_up_to base rows ≡ born_up_to base (all_live segments) = same_count base (all_live segments) rows are.merged in
    let exact : counted ≡ born_up_to base rows = omega (arith, few, count, long, same, at_most_all base rows) in
    behind
    ∙ ap (λ (n : ℕ). drop n found) exact
    ∙ ap (drop (born_up_to base rows)) found_all
    ∙ drop-map hit_of (born_up_to base rows) rows
    ∙ ap (map hit_of) (born_behind base (first_birth 1) (last_birth searches.number) rows are.births)
