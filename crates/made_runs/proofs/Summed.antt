-- What a log leaves comes to what the lines leave in the order of the script.
use Rattle.std.proofs.Common.{◌≡◌, ◌≢◌, ◌∙◌, ℕ, ℤ, pos, negsuc, suc, ◌+◌, ◌-◌, ◌≤◌, Bool, true, false, cond, List, [], ◌∷◌, ◌++◌, length, map, take_all, refl, sym, ap, subst, arith}
use Rattle.std.specs.Prelude.{◌*◌, ◌+ℤ◌, ◌≤ℤ◌, fold, count_by}
use Rattle.std.proofs.lemmas.Int.{ints}
use Rattle.std.proofs.lemmas.List.{length-map}
use Rattle.std.proofs.lemmas.List.Elements.{All-from_recursion}
use Rattle.std.proofs.lemmas.List.Sorted.{length_permutation, sum_by-IsPermutation}
use Rattle.std.proofs.lemmas.List.Sums.{length-filter}
use Rattle.std.specs.List.{filter, range_with_len, AllByRecursion}
use Rattle.ix_base.specs.Documents.{Document}
use Rattle.ix_base.specs.Hits.{hit_of}
use Rattle.ix_base.specs.Steps.{after}
use Rattle.ix_base.specs.declared.document.Hit.{Hit}
use Rattle.ix_base.specs.declared.document.Row.{Row}
use Rattle.op_script.specs.declared.script.Line.{Line}
use Rattle.report_text.specs.Sums.{n_of, sum_of}
use Rattle.report_text.specs.Summaries.{summary_of}
use Rattle.row_fates.specs.Fate.{BornBy}
use Rattle.run_log.specs.Headline.{Interleaves, commit_numbers, is_commit, operations, rows_at}
use Rattle.script_maker.specs.Made.{made_line, made_script, last_commit}
use Rattle.report_text.specs.Born.{born_after}
use Rattle.made_runs.specs.Born.{documents}
use Rattle.made_runs.specs.Apart.{SameCallers, WorkApart}
use Rattle.made_runs.specs.Ends.{CallersCommit}
use Rattle.made_runs.specs.Own.{IsOwn}
use Rattle.made_runs.specs.Sums.{HasMadeNumber}
use Rattle.made_runs.specs.Summary.{left_rows, run_rows, ComesTo, MadeRuns, MadeNumbers}
use Rattle.made_runs.proofs.Apart.{documents_apart}
use Rattle.run_log.proofs.ByKeys.{Reordered, done, next, each_reordered, reordered_map, permuted, reordered_by_keys}
use Rattle.made_runs.proofs.Ends.{last_is_commit, no_last}
use Rattle.made_runs.proofs.Folded.{folded, documents_after}
use Rattle.made_runs.proofs.Later.{born_later}
use Rattle.made_runs.proofs.MadeLines.{made_apart, made_numbered, made_commits, made_counts, made_length, own_lines}
use Rattle.made_runs.proofs.Numbers.{IsCounted, folded_counted, folded_few, hit_counted, operations_few}
use Rattle.made_runs.proofs.Tagged.{of_caller}

-- ---- sums and counts don't depend on the order

exchanged : (a b c : ℤ) → a +ℤ (b +ℤ c) ≡ b +ℤ (a +ℤ c)
exchanged a b c = omega (arith, ints)

abbrev total : List Hit → ℤ
total [] = pos 0
total (hit ∷ hits) = n_of hit.num +ℤ total hits

grouped : (a b c : ℤ) → (a +ℤ b) +ℤ c ≡ a +ℤ (b +ℤ c)
grouped a b c = omega (arith, ints)

nothing_more : (a : ℤ) → a ≡ a +ℤ pos 0
nothing_more a = omega (arith, ints)

sum_is : (a : ℤ) (hits : List Hit) → fold (λ sum hit. sum +ℤ n_of hit.num) a hits ≡ a +ℤ total hits
sum_is a [] = nothing_more a
sum_is a (hit ∷ hits) = sum_is (a +ℤ n_of hit.num) hits ∙ grouped a (n_of hit.num) (total hits)

total_middle : (front : List Hit) (hit : Hit) (back : List Hit) → total (front ++ hit ∷ back) ≡ n_of hit.num +ℤ total (front ++ back)
total_middle [] hit back = refl
total_middle (h ∷ front) hit back =
    ap (λ (z : ℤ). n_of h.num +ℤ z) (total_middle front hit back)
    ∙ exchanged (n_of h.num) (n_of hit.num) (total (front ++ back))

same_total : (xs ys : List Hit) → Reordered xs ys → total xs ≡ total ys
same_total _ _ done = refl
same_total _ _ (next x xs front back rest) =
    ap (λ (z : ℤ). n_of x.num +ℤ z) (same_total xs (front ++ back) rest) ∙ sym (total_middle front x back)

same_sum : (xs ys : List Hit) → Reordered xs ys → sum_of xs ≡ sum_of ys
same_sum xs ys moved =
    sum_is (pos 0) xs ∙ ap (λ (z : ℤ). pos 0 +ℤ z) (same_total xs ys moved) ∙ sym (sum_is (pos 0) ys)

-- the hits of rows are those of their documents
abbrev found_hit : Document → Hit
found_hit doc = record { key = doc.key; num = doc.num }

hits_are : (rows : List Row) → map hit_of rows ≡ map found_hit (documents rows)
hits_are [] = refl
hits_are (row ∷ rows) = ap (λ (hits : List Hit). hit_of row ∷ hits) (hits_are rows)

same_hits : (xs ys : List Row) → Reordered (documents xs) (documents ys) → sum_of (map hit_of xs) ≡ sum_of (map hit_of ys)
same_hits xs ys moved =
    ap sum_of (hits_are xs)
    ∙ same_sum (map found_hit (documents xs)) (map found_hit (documents ys)) (reordered_map found_hit (documents xs) (documents ys) moved)
    ∙ ap sum_of (sym (hits_are ys))

as_many : (xs ys : List Row) → Reordered (documents xs) (documents ys) → length ys ≡ length xs
as_many xs ys moved =
    sym (length-map ys (λ (row : Row). row.doc))
    ∙ length_permutation (documents xs) (documents ys) (permuted (documents xs) (documents ys) moved)
    ∙ length-map xs (λ (row : Row). row.doc)

same_summary : (c1 c2 l1 l2 : ℕ) (xs ys : List Hit) → c1 ≡ c2 → l1 ≡ l2 → length xs ≡ length ys → sum_of xs ≡ sum_of ys
    → summary_of c1 l1 xs ≡ summary_of c2 l2 ys
same_summary c1 c2 l1 l2 xs ys commits lines docs sum = cc

-- ---- a sum of small numbers is a natural number, and small

record IsUpTo (most : ℕ) (z : ℤ) : Type 0 where
  number : ℕ
  small : number ≤ most
  is : z ≡ pos number

natural : (z : ℤ) → pos 0 ≤ℤ z → z ≤ℤ pos 4095 → IsUpTo 4095 z
natural (pos n) low high = record { number = n; small = omega (arith, ints, high); is = refl }
natural (negsuc n) low high = absurd (omega (arith, ints, low))

added_up : (a b : ℕ) (x y : ℤ) → IsUpTo a x → IsUpTo b y → IsUpTo (a + b) (x +ℤ y)
added_up a b x y p q = record {
  number = p.number + q.number;
  small = omega (arith, p.small, q.small);
  is = omega (arith, ints, p.is, q.is);
}

total_small : (hits : List Hit) → AllByRecursion HasMadeNumber hits → IsUpTo (4095 * length hits) (total hits)
total_small [] small = record { number = 0; small = omega arith; is = refl }
total_small (hit ∷ hits) small =
    let sum =
    added_up 4095 (4095 * length hits) (n_of hit.num) (total hits) (natural (n_of hit.num) small.0.0 small.0.1)
    (total_small hits small.1) in
    record { number = sum.number; small = omega (arith, sum.small); is = sum.is }

sum_small : (hits : List Hit) (most : ℕ) → length hits ≤ most → AllByRecursion HasMadeNumber hits
    → (n : ℕ) × (n ≤ 4095 * most) × (sum_of hits ≡ pos n)
sum_small hits most few small =
    let sum = total_small hits small in
    (sum.number, omega (arith, sum.small, few), sum_is (pos 0) hits ∙ omega (arith, ints, sum.is))

-- ---- commits

numbers_counted : (base : ℕ) (log : List Line) → length (commit_numbers base log) ≡ length (filter (λ (l : Line). is_commit l.act) log)
numbers_counted base [] = refl
numbers_counted base (l ∷ log) = by (is_commit l.act) (numbers_counted (base + 1) log)
  where
    by : (b : Bool) → length (commit_numbers (base + 1) log) ≡ length (filter (λ (x : Line). is_commit x.act) log)
        → length (cond b ((base + 1) ∷ commit_numbers (base + 1) log) (commit_numbers (base + 1) log))
        ≡ length (cond b (l ∷ filter (λ (x : Line). is_commit x.act) log) (filter (λ (x : Line). is_commit x.act) log))
    by true e = ap suc e
    by false e = e

commits_counted : (base : ℕ) (lines log : List Line) → Reordered lines log → length (commit_numbers base log) ≡ count_by (λ (l : Line). is_commit l.act) lines
commits_counted base lines log moved =
    numbers_counted base log
    ∙ length-filter (λ (l : Line). is_commit l.act) log
    ∙ sum_by-IsPermutation (λ (l : Line). cond (is_commit l.act) 1 0) lines log (permuted lines log moved)

-- ---- a log of lines whose callers work apart

rows_of_all : (base : ℕ) (rows : List Row) (log : List Line) → rows_at base rows log (base + length log) ≡ after rows base (operations log)
rows_of_all base rows log =
    ap (λ (ls : List Line). after rows base (operations ls)) (take_all (base + length log - base) log (omega arith))

born_in_run : (base : ℕ) (rows : List Row) (log : List Line) → BornBy base rows
    → run_rows base rows log ≡ after [] base (operations log)
born_in_run base rows log born =
    ap (λ (rs : List Row). born_after base rs) (rows_of_all base rows log) ∙ born_later rows base (operations log) born

run_apart : (Owns : ℕ → Document → Type 0) (lines log : List Line) (base : ℕ) (rows : List Row) → WorkApart Owns lines
    → SameCallers lines log → BornBy base rows → Reordered (documents (left_rows lines)) (documents (run_rows base rows log))
run_apart Owns lines log base rows apart same born =
    subst (λ (rs : List Row). Reordered (documents (left_rows lines)) (documents rs)) (sym (born_in_run base rows log born))
    (documents_apart Owns lines log 0 base apart same)

pub comes_to : (Owns : ℕ → Document → Type 0) (lines log : List Line) (base : ℕ) (rows : List Row) → WorkApart Owns lines
    → CallersCommit lines → SameCallers lines log → log ≢ [] → BornBy base rows → ComesTo lines log base rows
comes_to Owns lines log base rows apart commits same some born =
    let moved = run_apart Owns lines log base rows apart same born in
    let ordered : Reordered lines log = reordered_by_keys (λ (l : Line). l.caller) lines log same in
    let all : length log ≡ length lines = length_permutation lines log (permuted lines log ordered) in
    let made : length (commit_numbers base log) ≡ count_by (λ (l : Line). is_commit l.act) lines = commits_counted base lines log ordered in
    let docs : length (run_rows base rows log) ≡ length (left_rows lines) = as_many (left_rows lines) (run_rows base rows log) moved in
    let sum : sum_of (map hit_of (run_rows base rows log)) ≡ sum_of (map hit_of (left_rows lines)) =
    sym (same_hits (left_rows lines) (run_rows base rows log) moved) in
    record {
      all = all;
      commits = made;
      last = last_is_commit lines log base commits same some;
      same = permuted (documents (left_rows lines)) (documents (run_rows base rows log)) moved;
      docs = docs;
      sum = sum;
      summary =
          same_summary (length (commit_numbers base log)) (count_by (λ (l : Line). is_commit l.act) lines) (length log) (length lines)
          (map hit_of (run_rows base rows log)) (map hit_of (left_rows lines)) made all
          (length-map (run_rows base rows log) hit_of ∙ docs ∙ sym (length-map (left_rows lines) hit_of)) sum;
    }

-- ---- a made script

made_callers : (seed lines callers : ℕ) (log : List Line) → 1 ≤ callers → callers ≤ 256
    → Interleaves (made_script seed lines callers) log → SameCallers (made_script seed lines callers) log
made_callers seed lines callers log some few numbering c =
    sym (numbering c ∙ ap (of_caller c) (made_numbered seed lines callers some few))

pub made_runs : MadeRuns
made_runs seed lines callers base rows log some few born numbering =
    comes_to IsOwn (made_script seed lines callers) log base rows (made_apart seed lines callers some few)
    (made_commits seed lines callers some few) (made_callers seed lines callers log some few numbering) not_empty born
  where
    not_empty : log ≢ []
    not_empty e =
        absurd (no_last (of_caller 0 (map (made_line seed callers) (range_with_len 1 lines))) (last_commit lines 0)
        (sym (own_lines seed lines callers 0 (omega (arith, some)))
        ∙ made_callers seed lines callers log some few numbering 0
        ∙ ap (of_caller 0) e))

-- ---- how many rows there are, and their numbers

hits_counted : (rows : List Row) → AllByRecursion IsCounted (documents rows) → AllByRecursion HasMadeNumber (map hit_of rows)
hits_counted [] counted = tt
hits_counted (row ∷ rows) counted = (hit_counted row.doc (hit_of row) refl counted.0, hits_counted rows counted.1)

pub made_numbers : MadeNumbers
made_numbers seed lines callers base rows log some few born numbering =
    let script = made_script seed lines callers in
    let moved : Reordered (documents (left_rows script)) (documents (run_rows base rows log)) =
    run_apart IsOwn script log base rows (made_apart seed lines callers some few)
    (made_callers seed lines callers log some few numbering) born in
    let left : documents (left_rows script) ≡ folded [] (operations script) = documents_after [] 0 (operations script) in
    let counted : AllByRecursion IsCounted (documents (left_rows script)) =
    subst (AllByRecursion IsCounted) (sym left) (folded_counted [] (operations script) tt (made_counts seed lines callers some few)) in
    let at_most : length (run_rows base rows log) ≤ lines + callers =
    omega (
      arith,
      as_many (left_rows script) (run_rows base rows log) moved,
      length-map (left_rows script) (λ (row : Row). row.doc),
      ap (λ (docs : List Document). length docs) left,
      folded_few [] (operations script) (made_counts seed lines callers some few),
      operations_few script,
      made_length seed lines callers,
    ) in
    let small : AllByRecursion HasMadeNumber (map hit_of (run_rows base rows log)) =
    hits_counted (run_rows base rows log)
    (each_reordered IsCounted (documents (left_rows script)) (documents (run_rows base rows log)) moved counted) in
    record {
      few = at_most;
      numbers = All-from_recursion HasMadeNumber (map hit_of (run_rows base rows log)) small;
      sum =
          sum_small (map hit_of (run_rows base rows log)) (lines + callers)
          (omega (arith, length-map (run_rows base rows log) hit_of, at_most)) small;
    }
