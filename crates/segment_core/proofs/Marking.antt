-- What operations make of marks, and of the rows that are live by these.
use Rattle.std.proofs.Common.{◌≡◌, ◌∙◌, ℕ, List, [], ◌∷◌, ◌++◌, Bool, true, false, cond, length, replicate, Option, Some, None, nat_lt, refl, sym, ap, if◌then◌else◌}
use Rattle.std.specs.List.{filter_map, cons_option, AllByRecursion}
use Rattle.std.specs.Option.{option_and_then}
use Rattle.ix_base.specs.Births.{first_birth}
use Rattle.ix_base.specs.Matches.{matches, holds_term}
use Rattle.ix_base.specs.Query.{tree_of}
use Rattle.ix_base.specs.Steps.{Named, with_value}
use Rattle.ix_base.specs.declared.document.Row.{Row}
use Rattle.ix_base.specs.declared.document.Operation.{Operation}
use Rattle.ix_base.specs.declared.document.Operation.TheVariants.{Add, AddBlock, Update, UpdateBlock, DeleteTerm, DeleteQuery, SetNumber, Commit}
use Rattle.live_docs.specs.declared.live_docs.Mark.{Mark}
use Rattle.live_docs.specs.Marks.{fresh, killed}
use Rattle.row_fates.specs.Fate.{Numbered, effect, touched, fate, renumbered}
use Rattle.row_fates.proofs.Fates.{chosen_twice, same_is}
use Rattle.segment_core.specs.LiveRows.{with_numbers, marked, live_rows, above}
use Rattle.segment_core.specs.Marking.{valued_live, now, mark_effect, mark_touched, marks_touched, marks_after}
use Rattle.segment_core.proofs.SetOver.{set_last}

-- ---- one row and its mark

abbrev alive : List Named → Mark
alive vs = record { live = true; values = vs }

abbrev dead : List Named → Mark
dead vs = record { live = false; values = vs }

-- the row with these values set
abbrev shown : List Named → Row → Row
shown vs row = renumbered (with_numbers vs row.doc.num) row

-- a row that a removal hits is gone, and another one stays as it is
killed_or_shown : (h : Bool) (row : Row) (vs : List Named) → marked row (if h then killed (alive vs) else alive vs) ≡ cond h None (Some (shown vs row))
killed_or_shown true row vs = refl
killed_or_shown false row vs = refl

effect_follows : (op : Operation) (row : Row) (vs : List Named) → marked row (mark_effect op row.doc (alive vs)) ≡ effect op (shown vs row)
effect_follows (Add doc) row vs = refl
effect_follows (AddBlock docs) row vs = refl
effect_follows (Update t doc) row vs = killed_or_shown (holds_term t.field t.bytes row.doc) row vs
effect_follows (UpdateBlock t docs) row vs = killed_or_shown (holds_term t.field t.bytes row.doc) row vs
effect_follows (DeleteTerm t) row vs = killed_or_shown (holds_term t.field t.bytes row.doc) row vs
effect_follows (DeleteQuery q) row vs = killed_or_shown (matches (tree_of q) (now row.doc (alive vs))) row vs
effect_follows (SetNumber t name value) row vs = by (holds_term t.field t.bytes row.doc)
  where
    by : (h : Bool) → marked row (if h then valued_live name value (alive vs) else alive vs) ≡ Some (if h then with_value name value (shown vs row) else shown vs row)
    by true = ap (λ ns. Some (renumbered ns row)) (set_last name value vs row.doc.num)
    by false = refl
effect_follows (Commit pairs) row vs = refl

killed_or_dead : (h : Bool) (row : Row) (vs : List Named) → marked row (if h then killed (dead vs) else dead vs) ≡ None
killed_or_dead true row vs = refl
killed_or_dead false row vs = refl

dead_stays : (op : Operation) (row : Row) (vs : List Named) → marked row (mark_effect op row.doc (dead vs)) ≡ None
dead_stays (Add doc) row vs = refl
dead_stays (AddBlock docs) row vs = refl
dead_stays (Update t doc) row vs = killed_or_dead (holds_term t.field t.bytes row.doc) row vs
dead_stays (UpdateBlock t docs) row vs = killed_or_dead (holds_term t.field t.bytes row.doc) row vs
dead_stays (DeleteTerm t) row vs = killed_or_dead (holds_term t.field t.bytes row.doc) row vs
dead_stays (DeleteQuery q) row vs = killed_or_dead (matches (tree_of q) (now row.doc (dead vs))) row vs
dead_stays (SetNumber t name value) row vs = by (holds_term t.field t.bytes row.doc)
  where
    by : (h : Bool) → marked row (if h then valued_live name value (dead vs) else dead vs) ≡ None
    by true = refl
    by false = refl
dead_stays (Commit pairs) row vs = refl

follows : (n : ℕ) (op : Operation) (row : Row) (l : Bool) (vs : List Named)
    → marked row (mark_touched (n, op) row (record { live = l; values = vs })) ≡ option_and_then (touched (n, op)) (marked row (record { live = l; values = vs }))
follows n op row true vs = by (nat_lt row.birth (first_birth n))
  where
    by : (b : Bool) → marked row (if b then mark_effect op row.doc (alive vs) else alive vs) ≡ (if b then effect op (shown vs row) else Some (shown vs row))
    by true = effect_follows op row vs
    by false = refl
follows n op row false vs = by (nat_lt row.birth (first_birth n))
  where
    by : (b : Bool) → marked row (if b then mark_effect op row.doc (dead vs) else dead vs) ≡ None
    by true = dead_stays op row vs
    by false = refl

pub mark_follows : (o : Numbered) (row : Row) (m : Mark) → marked row (mark_touched o row m) ≡ option_and_then (touched o) (marked row m)
mark_follows o row m = follows o.0 o.1 row m.live m.values

-- ---- the live rows

live_touched : (o : Numbered) (rows : List Row) (marks : List Mark) → live_rows rows (marks_touched o rows marks) ≡ filter_map (touched o) (live_rows rows marks)
live_touched o [] marks = refl
live_touched o (row ∷ rows) [] = refl
live_touched o (row ∷ rows) (m ∷ marks) =
    ap (λ (x : Option Row). cons_option x (live_rows rows (marks_touched o rows marks))) (mark_follows o row m) ∙ by (marked row m) (live_touched o rows marks)
  where
    by : (x : Option Row) → live_rows rows (marks_touched o rows marks) ≡ filter_map (touched o) (live_rows rows marks)
        → cons_option (option_and_then (touched o) x) (live_rows rows (marks_touched o rows marks)) ≡ filter_map (touched o) (cons_option x (live_rows rows marks))
    by None more = more
    by (Some r) more = ap (cons_option (touched o r)) more

-- what operations make of marks lets live the fates of the rows that lived
pub live_after : (ops : List Numbered) (rows : List Row) (marks : List Mark) → live_rows rows (marks_after ops rows marks) ≡ filter_map (fate ops) (live_rows rows marks)
live_after [] rows marks = same_is (fate []) (live_rows rows marks) (every (live_rows rows marks))
  where
    every : (rs : List Row) → AllByRecursion (λ (row : Row). fate [] row ≡ Some row) rs
    every [] = tt
    every (r ∷ rs) = (refl, every rs)
live_after (o ∷ ops) rows marks =
    live_after ops rows (marks_touched o rows marks) ∙ (ap (filter_map (fate ops)) (live_touched o rows marks) ∙ chosen_twice (fate ops) (touched o) (live_rows rows marks))

-- fresh marks let all rows live as they are
pub all_live : (rows : List Row) → live_rows rows (replicate (length rows) fresh) ≡ rows
all_live [] = refl
all_live (row ∷ rows) = ap (λ (rs : List Row). row ∷ rs) (all_live rows)

-- ---- updates in parts

pub above_join : (low : ℕ) (xs ys : List Numbered) → above low (xs ++ ys) ≡ above low xs ++ above low ys
above_join low [] ys = refl
above_join low (x ∷ xs) ys = by (nat_lt low x.0) (above_join low xs ys)
  where
    by : (b : Bool) → above low (xs ++ ys) ≡ above low xs ++ above low ys → cond b (x ∷ above low (xs ++ ys)) (above low (xs ++ ys)) ≡ cond b (x ∷ above low xs) (above low xs) ++ above low ys
    by true more = ap (λ (zs : List Numbered). x ∷ zs) more
    by false more = more

pub marks_after_join : (xs ys : List Numbered) (rows : List Row) (marks : List Mark) → marks_after (xs ++ ys) rows marks ≡ marks_after ys rows (marks_after xs rows marks)
marks_after_join [] ys rows marks = refl
marks_after_join (x ∷ xs) ys rows marks = marks_after_join xs ys rows (marks_touched x rows marks)

pub in_parts : (low : ℕ) (xs ys zs : List Numbered) (rows : List Row) (marks : List Mark)
    → marks_after (above low zs) rows (marks_after (above low ys) rows (marks_after (above low xs) rows marks)) ≡ marks_after (above low (xs ++ (ys ++ zs))) rows marks
in_parts low xs ys zs rows marks =
    sym (ap (λ ops. marks_after ops rows marks) (above_join low xs (ys ++ zs) ∙ ap (λ ops. above low xs ++ ops) (above_join low ys zs))
    ∙ (marks_after_join (above low xs) (above low ys ++ above low zs) rows marks
    ∙ marks_after_join (above low ys) (above low zs) rows (marks_after (above low xs) rows marks)))

-- marks after the deletes by term, by query, and the settings are those after all updates
pub in_three : (low : ℕ) (rows : List Row) (D Q S : List Numbered) (m₀ m₁ m₂ m₃ : List Mark)
    → m₁ ≡ marks_after (above low D) rows m₀ → m₂ ≡ marks_after (above low Q) rows m₁ → m₃ ≡ marks_after (above low S) rows m₂
    → m₃ ≡ marks_after (above low (D ++ (Q ++ S))) rows m₀
in_three low rows D Q S m₀ m₁ m₂ m₃ d q s =
    s ∙ (ap (marks_after (above low S) rows) q
    ∙ (ap (λ (ms : List Mark). marks_after (above low S) rows (marks_after (above low Q) rows ms)) d
    ∙ in_parts low D Q S rows m₀))
