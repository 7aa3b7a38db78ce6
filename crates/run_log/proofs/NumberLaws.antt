-- The numbers, commits and rows of a log that grows at its end.
use Rattle.std.proofs.Common.{◌≡◌, ◌≢◌, ◌∙◌, ℕ, suc, ◌+◌, ◌-◌, ◌<◌, ◌≤◌, Bool, true, false, cond, ne_eqb, List, [], ◌∷◌, ◌++◌}
use Rattle.std.proofs.Common.{length, refl, sym, ap, subst, inl, inr, arith, take_all}
use Rattle.std.proofs.lemmas.Bool.Decides.{eqb_tells}
use Rattle.std.proofs.lemmas.List.{append_assoc, take-append-le}
use Rattle.std.proofs.lemmas.List.Elements.{filter-append, filter_map-append}
use Rattle.std.specs.List.{AllByRecursion}
use Rattle.ix_base.specs.declared.document.Operation.{Operation}
use Rattle.ix_base.specs.declared.document.Row.{Row}
use Rattle.ix_base.specs.Steps.{step, after}
use Rattle.op_script.specs.Shape.{LinesRise}
use Rattle.op_script.specs.declared.script.Line.{Line}
use Rattle.run_log.proofs.Lists.{Decided, each_says, each_pair, each_behind, each_in_second}
use Rattle.ix_base.specs.declared.document.Operation.TheVariants.{Commit}
use Rattle.commit_point.specs.Holds.{Pairs}
use Rattle.run_log.specs.Headline.{act_operation, commit_numbers, is_commit, is_numbered, last_pairs, number_of, numbered, operations, pairs_at, rows_at}
use Rattle.run_log.proofs.PlaceLaws.{places_differ}
use Rattle.round_order.specs.Order.{Working}
use Rattle.run_log.specs.Telling.{Tell, of_caller, IsPartOf, AreTells, PlacesDiffer, IsOrder}
use Rattle.run_log.proofs.TellingLaws.{HasNumber, told_all}
use Rattle.run_log.specs.Numbering.{HasLine}

-- ---- the number of a line

pub has_own_lines : (log : List Line) → AllByRecursion (λ (l : Line). HasLine log l.line) log
has_own_lines [] = tt
has_own_lines (l ∷ log) = (
  inl refl,
  each_says (λ (y : Line). HasLine log y.line) (λ (y : Line). HasLine (l ∷ log) y.line) log
      (λ y has. inr has) (has_own_lines log),
)

pub has_line_in_front : (log more : List Line) (place : ℕ) → HasLine log place → HasLine (log ++ more) place
has_line_in_front [] more place h = absurd h
has_line_in_front (l ∷ log) more place (inl e) = inl e
has_line_in_front (l ∷ log) more place (inr h) = inr (has_line_in_front log more place h)

pub has_line_behind : (log more : List Line) (place : ℕ) → HasLine more place → HasLine (log ++ more) place
has_line_behind [] more place h = h
has_line_behind (l ∷ log) more place h = inr (has_line_behind log more place h)

-- a line that the log has keeps its number when the log grows
pub number_in_front : (base : ℕ) (log more : List Line) (line : ℕ) → HasLine log line
    → number_of base (log ++ more) line ≡ number_of base log line
number_in_front base [] more line has = absurd has
number_in_front base (l ∷ log) more line has =
    by (eqb_tells l.line line) has (number_in_front (base + 1) log more line)
  where
    by : Decided l.line line → HasLine (l ∷ log) line
        → (HasLine log line → number_of (base + 1) (log ++ more) line ≡ number_of (base + 1) log line)
        → number_of base (l ∷ log ++ more) line ≡ number_of base (l ∷ log) line
    by (inl k) has rest = rw k.0 refl
    by (inr k) (inl e) rest = absurd (k.1 e)
    by (inr k) (inr h) rest = rw k.0 (rest h)

-- the lines behind a log are numbered on
pub number_past : (base : ℕ) (log more : List Line) (line : ℕ) → AllByRecursion (λ (l : Line). l.line ≢ line) log
    → number_of base (log ++ more) line ≡ number_of (base + length log) more line
number_past base [] more line none =
    let at : base ≡ base + 0 = omega arith in ap (λ (n : ℕ). number_of n more line) at
number_past base (l ∷ log) more line none =
    let at : base + 1 + length log ≡ base + suc (length log) = omega arith in
    rw (ne_eqb l.line line none.0)
    (number_past (base + 1) log more line none.1 ∙ ap (λ (n : ℕ). number_of n more line) at)

-- what is true of each line's place is true of a place that some line has
has_line_says : (P : ℕ → Type 0) (ls : List Line) (place : ℕ) → AllByRecursion (λ (l : Line). P l.line) ls
    → HasLine ls place → P place
has_line_says P [] place h has = absurd has
has_line_says P (l ∷ ls) place h (inl e) = subst P e h.0
has_line_says P (l ∷ ls) place h (inr has) = has_line_says P ls place h.1 has

-- where places differ no line in front stands at the place of a line behind
pub differs_from_front : (log more : List Line) (place : ℕ) → PlacesDiffer (log ++ more) → HasLine more place
    → AllByRecursion (λ (l : Line). l.line ≢ place) log
differs_from_front [] more place apart has = tt
differs_from_front (l ∷ log) more place apart has =
    let behind : AllByRecursion (λ (y : Line). y.line ≢ l.line) more =
    each_in_second (λ (y : Line). y.line ≢ l.line) log more apart.0 in (
      (λ same. has_line_says (λ (p : ℕ). p ≢ l.line) more place behind has (sym same)),
      differs_from_front log more place apart.1 has,
    )

-- ---- the numbers that were told

-- the order has each tell's line
pub lines_told : (n base : ℕ) (script : List Line) (told : ℕ → List Tell) (ts : List Working) (more : List Line)
    → AreTells n script told → IsOrder n base told ts more
    → (worker : ℕ) → AllByRecursion (λ (t : Tell). HasLine more t.line.line) (told worker)
lines_told n base script told ts more tells o worker =
    each_behind (λ (t : Tell). t.line) (λ (l : Line). HasLine more l.line) (told worker)
    (told_all n base script told ts more tells o (λ (l : Line). HasLine more l.line) (has_own_lines more) worker)

-- numbers that were told stay the lines' numbers when the log grows
pub numbers_stay : (base : ℕ) (tells : List Tell) (log rest : List Line)
    → AllByRecursion (λ (t : Tell). HasLine log t.line.line) tells
    → AllByRecursion (HasNumber base log) tells → AllByRecursion (HasNumber base (log ++ rest)) tells
numbers_stay base tells log rest has are =
    each_pair (λ (t : Tell). HasLine log t.line.line) (HasNumber base log) (HasNumber base (log ++ rest)) tells
    (λ t here is. number_in_front base log rest t.line.line here ∙ is) has are

-- the numbers that were told in a round are the lines' numbers in the log, which has the round's lines at its end
pub numbers_behind : (n base low : ℕ) (script : List Line) (told : ℕ → List Tell) (ts : List Working)
    (log more : List Line) → LinesRise low script → AreTells n script told
    → ((caller : ℕ) → IsPartOf (of_caller caller (log ++ more)) (of_caller caller script))
    → IsOrder n (base + length log) told ts more
    → (worker : ℕ) → AllByRecursion (HasNumber base (log ++ more)) (told worker)
numbers_behind n base low script told ts log more rise tells part o worker =
    each_pair (λ (t : Tell). HasLine more t.line.line) (HasNumber (base + length log) more)
    (HasNumber base (log ++ more)) (told worker)
    (λ t has is. number_past base log more t.line.line (differs_from_front log more t.line.line apart has) ∙ is)
    (lines_told n (base + length log) script told ts more tells o worker) (o.numbers worker)
  where
    apart : PlacesDiffer (log ++ more)
    apart = places_differ low script (log ++ more) rise part

-- ---- lines that are read one after another

pub numbered_append : (done more : List Line) → numbered (done ++ more) ≡ numbered done ++ numbered more
numbered_append done more = filter-append (λ (l : Line). is_numbered l.act) done more

-- ---- commits

pub commits_append : (base : ℕ) (log more : List Line)
    → commit_numbers base (log ++ more) ≡ commit_numbers base log ++ commit_numbers (base + length log) more
commits_append base [] more =
    let at : base ≡ base + 0 = omega arith in ap (λ (n : ℕ). commit_numbers n more) at
commits_append base (l ∷ log) more =
    let at : base + 1 + length log ≡ base + suc (length log) = omega arith in
    by_test (is_commit l.act) (commits_append (base + 1) log more ∙ ap (λ (n : ℕ). first ++ commit_numbers n more) at)
  where
    first : List ℕ
    first = commit_numbers (base + 1) log

    all : List ℕ
    all = commit_numbers (base + 1) (log ++ more)

    rest : List ℕ
    rest = commit_numbers (base + suc (length log)) more

    by_test : (b : Bool) → all ≡ first ++ rest
        → cond b ((base + 1) ∷ all) all ≡ cond b ((base + 1) ∷ first) first ++ rest
    by_test true h = ap (λ (ns : List ℕ). (base + 1) ∷ ns) h
    by_test false h = h

-- the commits of a log have numbers of the log
pub commits_within : (base : ℕ) (log : List Line)
    → AllByRecursion (λ (s : ℕ). (base < s) × (s ≤ base + length log)) (commit_numbers base log)
commits_within base [] = tt
commits_within base (l ∷ log) = by_test (is_commit l.act) (wider (commits_within (base + 1) log))
  where
    IsHere : ℕ → Type 0
    IsHere s = (base < s) × (s ≤ base + suc (length log))

    wider : AllByRecursion (λ (s : ℕ). (base + 1 < s) × (s ≤ base + 1 + length log)) (commit_numbers (base + 1) log)
        → AllByRecursion IsHere (commit_numbers (base + 1) log)
    wider h =
        each_says (λ (s : ℕ). (base + 1 < s) × (s ≤ base + 1 + length log)) IsHere (commit_numbers (base + 1) log)
        (λ s k. (omega (arith, k.0), omega (arith, k.1))) h

    by_test : (b : Bool) → AllByRecursion IsHere (commit_numbers (base + 1) log)
        → AllByRecursion IsHere (cond b ((base + 1) ∷ commit_numbers (base + 1) log) (commit_numbers (base + 1) log))
    by_test true h = ((omega arith, omega arith), h)
    by_test false h = h

-- ---- rows

pub operations_append : (log more : List Line) → operations (log ++ more) ≡ operations log ++ operations more
operations_append log more = filter_map-append (λ (l : Line). act_operation l.act) log more

pub after_append : (rows : List Row) (base : ℕ) (xs ys : List Operation)
    → after rows base (xs ++ ys) ≡ after (after rows base xs) (base + length xs) ys
after_append rows base [] ys =
    let at : base ≡ base + 0 = omega arith in ap (λ (n : ℕ). after rows n ys) at
after_append rows base (x ∷ xs) ys =
    let at : base + 1 + length xs ≡ base + suc (length xs) = omega arith in
    after_append (step rows (base + 1) x) (base + 1) xs ys
    ∙ ap (λ (n : ℕ). after (after (step rows (base + 1) x) (base + 1) xs) n ys) at

-- the rows by the operations of a log that grows
pub rows_append : (rows : List Row) (base : ℕ) (log more : List Line) → length (operations log) ≡ length log
    → after rows base (operations (log ++ more))
    ≡ after (after rows base (operations log)) (base + length log) (operations more)
rows_append rows base log more all =
    ap (λ (ops : List Operation). after rows base ops) (operations_append log more)
    ∙ after_append rows base (operations log) (operations more)
    ∙ ap (λ (n : ℕ). after (after rows base (operations log)) (base + n) (operations more)) all

pub rows_at_front : (base : ℕ) (rows : List Row) (log more : List Line) (s : ℕ) → s ≤ base + length log
    → rows_at base rows (log ++ more) s ≡ rows_at base rows log s
rows_at_front base rows log more s le =
    ap (λ (ls : List Line). after rows base (operations ls)) (take-append-le (s - base) log more (omega (arith, le)))

pub rows_at_all : (base : ℕ) (rows : List Row) (log : List Line) (s : ℕ) → s ≡ base + length log
    → rows_at base rows log s ≡ after rows base (operations log)
rows_at_all base rows log s is =
    ap (λ (ls : List Line). after rows base (operations ls)) (take_all (s - base) log (omega (arith, is)))

-- ---- pairs

pub last_pairs_is : (before : List Operation) (pairs : Pairs) → last_pairs (before ++ Commit pairs ∷ []) ≡ pairs
last_pairs_is [] pairs = refl
last_pairs_is (op ∷ []) pairs = refl
last_pairs_is (op ∷ next ∷ ops) pairs = last_pairs_is (next ∷ ops) pairs

pub pairs_at_front : (base : ℕ) (log more : List Line) (s : ℕ) → s ≤ base + length log
    → pairs_at base (log ++ more) s ≡ pairs_at base log s
pairs_at_front base log more s le =
    ap (λ (ls : List Line). last_pairs (operations ls)) (take-append-le (s - base) log more (omega (arith, le)))

-- the pairs of the commit that is the log's last operation
pub pairs_at_last : (base : ℕ) (log more : List Line) (before : List Operation) (pairs : Pairs) (s : ℕ)
    → s ≡ base + length (log ++ more) → operations more ≡ before ++ Commit pairs ∷ []
    → pairs_at base (log ++ more) s ≡ pairs
pairs_at_last base log more before pairs s is ends =
    ap (λ (ls : List Line). last_pairs (operations ls)) (take_all (s - base) (log ++ more) (omega (arith, is)))
    ∙ ap last_pairs (operations_append log more ∙ ap (λ (ops : List Operation). operations log ++ ops) ends)
    ∙ ap last_pairs (sym (append_assoc (operations log) before (Commit pairs ∷ [])))
    ∙ last_pairs_is (operations log ++ before) pairs
