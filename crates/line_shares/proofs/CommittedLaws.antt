-- The commit of a round, among what its workers were told.
use Rattle.std.proofs.Common.{◌≡◌, ◌⊎◌, ◌∙◌, inl, inr, ℕ, zero, suc, ◌+◌, ◌<◌, ◌≤◌, List, [], ◌∷◌, ◌++◌, length, map, drop, slice_index_or}
use Rattle.std.proofs.Common.{Option, Some, None, eqb, true, refl, sym, ap, arith, eq-eqb, ne_eqb}
use Rattle.std.proofs.lemmas.Bool.Decides.{eqb_tells}
use Rattle.std.specs.List.{AllByRecursion, AllZip}
use Rattle.ix_base.specs.declared.document.Operation.{Operation}
use Rattle.ix_base.specs.declared.document.Operation.TheVariants.{Commit}
use Rattle.commit_point.specs.Holds.{Pairs}
use Rattle.row_fates.specs.Fate.{Numbered as NumberedOperation}
use Rattle.round_order.specs.Order.{Working, seconds, told_of}
use Rattle.run_log.proofs.Lists.{Decided}
use Rattle.worker_tasks.specs.declared.share.Share.{Share}
use Rattle.worker_tasks.specs.declared.task.Reply.{Reply}
use Rattle.worker_tasks.specs.declared.task.Reply.TheVariants.{Numbered, Refused}
use Rattle.worker_tasks.specs.declared.task.Task.{Task}
use Rattle.worker_tasks.specs.Replies.{told_in}
use Rattle.line_shares.specs.Committed.{commit_among, commit_in, commit_of, told_count, told_past}
use Rattle.line_shares.specs.Shares.{GoesOn}
use Rattle.line_shares.specs.Tells.{pairs_since}

-- ---- the last operation of an order

-- the pairs of the last of these operations, where that is a commit
abbrev last_of : List Operation → Option Pairs
last_of [] = None
last_of (op ∷ []) = commit_of op
last_of (op ∷ next ∷ ops) = last_of (next ∷ ops)

last_is : (before : List Operation) (pairs : Pairs) → last_of (before ++ Commit pairs ∷ []) ≡ Some pairs
last_is [] pairs = refl
last_is (op ∷ []) pairs = refl
last_is (op ∷ next ∷ ops) pairs = last_is (next ∷ ops) pairs

-- Has it the last number: then it is found among what its worker was told,
abbrev IsFound : ℕ → ℕ → ℕ → List Working → Type 0
IsFound s i base ts = commit_in s (told_of i base ts) ≡ last_of (seconds ts)

-- and otherwise nothing is.
abbrev MayBeFound : ℕ → ℕ → ℕ → List Working → Type 0
MayBeFound s i base ts = (commit_in s (told_of i base ts) ≡ None) ⊎ IsFound s i base ts

found_last : (s i base : ℕ) (t : Working) → s ≡ base + 1 → eqb t.0 i ≡ true → IsFound s i base (t ∷ [])
found_last s i base t is own = rw own (rw (eq-eqb (base + 1) s (sym is)) refl)

-- an operation before the last has another number
found_behind : (s i base : ℕ) (t u : Working) (ts : List Working) → s ≡ base + 1 + length (u ∷ ts)
    → IsFound s i (base + 1) (u ∷ ts) → IsFound s i base (t ∷ u ∷ ts)
found_behind s i base t u ts is rest = by (eqb_tells t.0 i)
  where
    by : Decided t.0 i → IsFound s i base (t ∷ u ∷ ts)
    by (inl k) = rw k.0 (rw (ne_eqb (base + 1) s (λ e. absurd (omega (arith, e, is)))) rest)
    by (inr k) = rw k.0 rest

none_behind : (s i base : ℕ) (t u : Working) (ts : List Working) → s ≡ base + 1 + length (u ∷ ts)
    → commit_in s (told_of i (base + 1) (u ∷ ts)) ≡ None → commit_in s (told_of i base (t ∷ u ∷ ts)) ≡ None
none_behind s i base t u ts is rest = by (eqb_tells t.0 i)
  where
    by : Decided t.0 i → commit_in s (told_of i base (t ∷ u ∷ ts)) ≡ None
    by (inl k) = rw k.0 (rw (ne_eqb (base + 1) s (λ e. absurd (omega (arith, e, is)))) rest)
    by (inr k) = rw k.0 rest

may_be_found : (s i base : ℕ) (ts : List Working) → s ≡ base + length ts → MayBeFound s i base ts
may_be_found s i base [] is = inl refl
may_be_found s i base (t ∷ []) is = by (eqb_tells t.0 i)
  where
    by : Decided t.0 i → MayBeFound s i base (t ∷ [])
    by (inl k) = inr (found_last s i base t is k.0)
    by (inr k) = inl (rw k.0 refl)
may_be_found s i base (t ∷ u ∷ ts) is =
    let at : s ≡ base + 1 + length (u ∷ ts) = omega (arith, is) in
    elim (may_be_found s i (base + 1) (u ∷ ts) at) [
      | inl none ↦ inl (none_behind s i base t u ts at none)
      | inr found ↦ inr (found_behind s i base t u ts at found)
    ]

-- some worker was told it
one_found : (s base : ℕ) (t : Working) (ts : List Working) → s ≡ base + length (t ∷ ts)
    → (i : ℕ) × IsFound s i base (t ∷ ts)
one_found s base t [] is = (t.0, found_last s t.0 base t is (eq-eqb t.0 t.0 refl))
one_found s base t (u ∷ ts) is =
    let at : s ≡ base + 1 + length (u ∷ ts) = omega (arith, is) in
    let rest = one_found s (base + 1) u ts at in
    (rest.0, found_behind s rest.0 base t u ts at rest.1)

-- ---- among what all workers were told

among_all : (s : ℕ) (pairs : Pairs) (tss : List (List NumberedOperation))
    → ((j : ℕ) → (commit_in s (slice_index_or tss j []) ≡ None) ⊎ (commit_in s (slice_index_or tss j []) ≡ Some pairs))
    → (i : ℕ) → commit_in s (slice_index_or tss i []) ≡ Some pairs → commit_among s tss ≡ Some pairs
among_all s pairs [] all i is = absurd (let none : None ≡ Some pairs = is in cc)
among_all s pairs (ts ∷ tss) all i is = by (all 0) i is (λ k. among_all s pairs tss (λ j. all (suc j)) k)
  where
    by : (commit_in s ts ≡ None) ⊎ (commit_in s ts ≡ Some pairs) → (k : ℕ)
        → commit_in s (slice_index_or (ts ∷ tss) k []) ≡ Some pairs
        → ((m : ℕ) → commit_in s (slice_index_or tss m []) ≡ Some pairs → commit_among s tss ≡ Some pairs)
        → commit_among s (ts ∷ tss) ≡ Some pairs
    by (inr here) k is rest = rw here refl
    by (inl none) zero is rest = absurd (let other : None ≡ Some pairs = sym none ∙ is in cc)
    by (inl none) (suc k) is rest = rw none (rest k is)

-- Where the operations of workers are one order that ends with a commit, its pairs are found by the
-- last number.
pub commit_found : (base : ℕ) (ts : List Working) (before : List Operation) (pairs : Pairs) (s : ℕ)
    → s ≡ base + length ts → seconds ts ≡ before ++ Commit pairs ∷ [] → (tss : List (List NumberedOperation))
    → ((i : ℕ) → told_of i base ts ≡ slice_index_or tss i []) → commit_among s tss ≡ Some pairs
commit_found base ts before pairs s is ends tss told = by ts is ends told
  where
    by : (us : List Working) → s ≡ base + length us → seconds us ≡ before ++ Commit pairs ∷ []
        → ((i : ℕ) → told_of i base us ≡ slice_index_or tss i []) → commit_among s tss ≡ Some pairs
    by [] at e same = absurd (none before e)
      where
        none : (ops : List Operation) → [] ≡ ops ++ Commit pairs ∷ [] → ⊥
        none [] e = cc
        none (op ∷ ops) e = cc
    by (u ∷ us) at e same =
        let last : last_of (seconds (u ∷ us)) ≡ Some pairs = ap last_of e ∙ last_is before pairs in
        let one = one_found s base u us at in
        among_all s pairs tss
        (λ j. elim (may_be_found s j base (u ∷ us) at) [
          | inl none ↦ inl (sym (ap (commit_in s) (same j)) ∙ none)
          | inr found ↦ inr (sym (ap (commit_in s) (same j)) ∙ found ∙ last)
        ])
        one.0 (sym (ap (commit_in s) (same one.0)) ∙ one.1 ∙ last)

-- ---- what the workers were told since some were

pub told_past_is : (olds news : List Share) → AllZip GoesOn olds news
    → told_past (map told_count olds) news ≡ pairs_since olds news
told_past_is [] news go = refl
told_past_is (old ∷ olds) [] go = refl
told_past_is (old ∷ olds) (new ∷ news) go =
    ap (λ (ts : List Task). told_in (drop (told_count old) ts) (drop (told_count old) new.replies) ∷ told_past (map told_count olds) news) go.0.tasks
    ∙ ap (λ (tss : List (List NumberedOperation)). told_in (drop (told_count old) old.tasks) (drop (told_count old) new.replies) ∷ tss) (told_past_is olds news go.1)

-- as many counts as shares, and no more replies than tasks
pub counts_fit : (olds news : List Share) → AllZip GoesOn olds news → length (map told_count olds) ≡ length news
counts_fit [] [] go = refl
counts_fit [] (new ∷ news) go = absurd go
counts_fit (old ∷ olds) [] go = absurd go
counts_fit (old ∷ olds) (new ∷ news) go = ap suc (counts_fit olds news go.1)

pub few_each : (olds news : List Share) → AllZip GoesOn olds news
    → AllByRecursion (λ (s : Share). length s.replies ≤ length s.tasks) news
few_each [] [] go = tt
few_each [] (new ∷ news) go = absurd go
few_each (old ∷ olds) [] go = absurd go
few_each (old ∷ olds) (new ∷ news) go = (go.0.few, few_each olds news go.1)

-- ---- one share

-- a task that was told something else than this number is passed over
pub passed : (s at : ℕ) (tasks : List Task) (replies : List Reply) (other : Reply)
    → at < length replies → length replies ≤ length tasks → (slice_index_or replies at other ≡ Numbered s → ⊥)
    → commit_in s (told_in (drop (suc at) tasks) (drop (suc at) replies))
    ≡ commit_in s (told_in (drop at tasks) (drop at replies))
passed s at tasks [] other within few differs = absurd (omega (arith, within))
passed s at [] (r ∷ rs) other within few differs = absurd (omega (arith, few))
passed s zero (t ∷ ts) (Refused refused ∷ rs) other within few differs = refl
passed s zero (t ∷ ts) (Numbered n ∷ rs) other within few differs =
    rw (ne_eqb n s (λ same. differs (ap Numbered same))) refl
passed s (suc at) (t ∷ ts) (r ∷ rs) other within few differs =
    passed s at ts rs other (omega (arith, within)) (omega (arith, few)) differs
