-- The numbers of a log's commits, and the rows by a log's operations.
use Rattle.std.proofs.Common.{◌≡◌, ◌≢◌, ◌⊎◌, inl, inr, ℕ, ◌+◌, ◌-◌, ◌≤◌}
use Rattle.std.proofs.Common.{List, [], ◌∷◌, ◌++◌, length, take, if◌then◌else◌, sym, ap, ◌∙◌, arith}
use Rattle.std.proofs.lemmas.Bool.{cases_lt}
use Rattle.std.proofs.lemmas.List.{take-append-le}
use Rattle.std.proofs.lemmas.List.Elements.{filter_map-append}
use Rattle.std.proofs.Math.Seq.{take-length}
use Rattle.ix_base.specs.declared.document.Operation.{Operation}
use Rattle.ix_base.specs.declared.document.Operation.TheVariants.{Add, AddBlock, Update, UpdateBlock, DeleteTerm, DeleteQuery, SetNumber}
use Rattle.ix_base.specs.declared.document.Operation.TheVariants.{Commit}
use Rattle.ix_base.specs.declared.document.Row.{Row}
use Rattle.ix_base.specs.Steps.{after, numbered_from, step}
use Rattle.op_script.specs.declared.script.Line.{Line}
use Rattle.row_fates.specs.Fate.{adding, adds}
use Rattle.run_log.specs.Headline.{act_operation, commit_numbers, operations, rows_at}

-- ---- numbers

pub nat_or : (s t : ℕ) → (s ≡ t) ⊎ (s ≢ t)
nat_or s t = elim (cases_lt s t) [
  | inl lt ↦ inr (λ e. absurd (omega (arith, e)))
  | inr le ↦ elim (cases_lt t s) [ inl gt ↦ inr (λ e. absurd (omega (arith, e))) | inr ge ↦ inl (omega arith) ]
]

-- ---- a log that grows

pub numbers_front : (base count : ℕ) (log more : List Line) → count ≤ length log
    → commit_numbers base (take count (log ++ more)) ≡ commit_numbers base (take count log)
numbers_front base count log more le =
    ap (λ (ls : List Line). commit_numbers base ls) (take-append-le count log more le)

pub numbers_whole : (base : ℕ) (log : List Line) → commit_numbers base (take (length log) log) ≡ commit_numbers base log
numbers_whole base log = ap (λ (ls : List Line). commit_numbers base ls) (take-length log)

pub rows_front : (base : ℕ) (rows : List Row) (log more : List Line) (s : ℕ) → s ≤ base + length log
    → rows_at base rows (log ++ more) s ≡ rows_at base rows log s
rows_front base rows log more s le =
    ap (λ (ls : List Line). after rows base (operations ls)) (take-append-le (s - base) log more (omega (arith, le)))

pub rows_whole : (base : ℕ) (rows : List Row) (log : List Line) (s : ℕ) → s ≡ base + length log
    → after rows base (operations log) ≡ rows_at base rows log s
rows_whole base rows log s is =
    let count : length log ≡ s - base = omega (arith, is) in
    sym (ap (λ (ls : List Line). after rows base (operations ls)) (take-length log))
    ∙ ap (λ (n : ℕ). after rows base (operations (take n log))) count

pub operations_append : (log more : List Line) → operations (log ++ more) ≡ operations log ++ operations more
operations_append log more = filter_map-append (λ (x : Line). act_operation x.act) log more

pub after_append : (rows : List Row) (last : ℕ) (xs ys : List Operation)
    → after rows last (xs ++ ys) ≡ after (after rows last xs) (last + length xs) ys
after_append rows last [] ys = ap (λ (n : ℕ). after rows n ys) (omega arith)
after_append rows last (x ∷ xs) ys =
    let n : last + 1 + length xs ≡ last + length (x ∷ xs) = omega arith in
    after_append (step rows (last + 1) x) (last + 1) xs ys
    ∙ ap (λ (k : ℕ). after (after (step rows (last + 1) x) (last + 1) xs) k ys) n

-- ---- operations that add

one_adds : (op : Operation) → (if adds op then 1 else 0) ≤ 1
one_adds (Add doc) = omega arith
one_adds (AddBlock docs) = omega arith
one_adds (Update term doc) = omega arith
one_adds (UpdateBlock term docs) = omega arith
one_adds (DeleteTerm term) = omega arith
one_adds (DeleteQuery query) = omega arith
one_adds (SetNumber term name value) = omega arith
one_adds (Commit pairs) = omega arith

pub few_added : (last : ℕ) (ops : List Operation) → adding (numbered_from last ops) ≤ length ops
few_added last [] = omega arith
few_added last (op ∷ ops) = omega (arith, one_adds op, few_added (last + 1) ops)
