-- What is left where old commits are given up more than once: the latest of all of them.
use Rattle.std.proofs.Common.{◌≡◌, inl, inr, ℕ, zero, suc, ◌+◌, ◌<◌, ◌≤◌, List, [], ◌∷◌, length, Some, None, refl, sym, subst, take, arith}
use Rattle.std.specs.Prelude.{Option, IsSome, AllPairs}
use Rattle.std.specs.List.{AllByRecursion}
use Rattle.std.proofs.Math.Seq.{take-length}
use Rattle.ix_base.specs.declared.file_name.FileName.TheVariants.{Commit}
use Rattle.ix_outside.specs.Files.{Files}
use Rattle.commit_pruning.specs.Pruning.{IsGivenUp, IsPruned, IsWholeAs, MayBePruned, Stays}
use Rattle.op_script.specs.declared.script.Line.{Line}
use Rattle.run_log.proofs.CommitLaws.{each_at}
use Rattle.run_log.proofs.NumberLaws.{commits_within}
use Rattle.run_log.proofs.OnlyLaws.{none_of}
use Rattle.run_log.specs.Headline.{Given, HasAll, IsIn, IsLast, commit_numbers}
use Rattle.index_run.specs.Keeping.{HasLatestOnly}
use Rattle.index_run.proofs.LeftCommits.{left_then}

-- ---- later commits

rise_tail : (x : ℕ) (xs : List ℕ) → AllPairs ◌<◌ (x ∷ xs) → AllPairs ◌<◌ xs
rise_tail x xs rise = λ i j d below within. rise (suc i) (suc j) d (omega arith) (omega arith)

rise_before : (s t : ℕ) (later : List ℕ) → s < t → AllPairs ◌<◌ (t ∷ later) → AllPairs ◌<◌ (s ∷ later)
rise_before s t later lt rise i zero d below within = absurd (omega arith)
rise_before s t later lt rise zero (suc j) d below within =
    let above = rise zero (suc j) d (omega arith) (omega arith) in omega (arith, above, lt)
rise_before s t later lt rise (suc i) (suc j) d below within = rise (suc i) (suc j) d below (omega arith)

later_above : (s : ℕ) (later : List ℕ) → AllPairs ◌<◌ (s ∷ later) → AllByRecursion (λ (t : ℕ). s < t) later
later_above s [] rise = tt
later_above s (t ∷ later) rise =
    let lt : s < t = rise 0 1 0 (omega arith) (omega arith) in
    (lt, later_above s later (rise_before s t later lt (rise_tail s (t ∷ later) rise)))

-- what is given up below a commit that is given up
given_before : (keep : ℕ) (f : Files) (s t : ℕ) → s < t → IsGivenUp keep f t → IsGivenUp keep f s
given_before keep f s t lt given = record {
  later = given.later;
  count = given.count;
  rise = rise_before s t given.later lt given.rise;
  there = given.there;
}

-- ---- a commit that is given up among all of them is so among those that are left

module _ (keep : ℕ) (was left : Files) (top : ℕ) (may : MayBePruned keep was left)
    (none : (s : ℕ) → top < s → was (Commit s) ≡ None) where
  -- none of the commits above s that are given up among all stays among those that are left
  abbrev GoneAbove : ℕ → Type 0
  GoneAbove s = (t : ℕ) → s < t → IsGivenUp keep was t → ¬ IsGivenUp keep left t → ⊥

  one_left : (s t : ℕ) → GoneAbove s → ¬ IsGivenUp keep left s → s < t → IsSome (was (Commit t)) → IsSome (left (Commit t))
  one_left s t gone_above stay lt there = by (left (Commit t)) refl
    where
      by : (o : Option (List ℕ)) → left (Commit t) ≡ o → IsSome o
      by (Some bytes) is = refl
      by None is =
          absurd
          (let stays : (IsGivenUp keep was t → ⊥) → ⊥ = λ not_given.
          let same : left (Commit t) ≡ was (Commit t) = may.stays t (record { there = there; not_given_up = not_given }) (Commit t) (inl refl) in cc in
          stays (λ given. gone_above t lt given (λ later. stay (given_before keep left s t lt later))))

  each_left : (s : ℕ) → GoneAbove s → ¬ IsGivenUp keep left s → (ts : List ℕ) → AllByRecursion (λ (t : ℕ). s < t) ts
      → AllByRecursion (λ (t : ℕ). IsSome (was (Commit t))) ts → AllByRecursion (λ (t : ℕ). IsSome (left (Commit t))) ts
  each_left s gone_above stay [] above there = tt
  each_left s gone_above stay (t ∷ ts) above there =
      (one_left s t gone_above stay above.0 there.0, each_left s gone_above stay ts above.1 there.1)

  gone_if : (s : ℕ) → GoneAbove s → IsGivenUp keep was s → ¬ IsGivenUp keep left s → ⊥
  gone_if s gone_above given stay =
      stay (record {
        later = given.later;
        count = given.count;
        rise = given.rise;
        there = each_left s gone_above stay given.later (later_above s given.later given.rise) given.there;
      })

  gone : (n s : ℕ) → top < s + n → IsGivenUp keep was s → ¬ IsGivenUp keep left s → ⊥
  gone zero s above given stay =
      gone_at given.later (later_above s given.later given.rise) given.there given.count
    where
      gone_at : (later : List ℕ) → AllByRecursion (λ (t : ℕ). s < t) later
          → AllByRecursion (λ (t : ℕ). IsSome (was (Commit t))) later → length later ≡ keep → ⊥
      gone_at [] below there count =
          stay (record { later = []; count = count; rise = λ i j d lt within. absurd (omega arith); there = tt })
      gone_at (t ∷ later) below there count =
          let nothing : was (Commit t) ≡ None = none t (let lt = below.0 in omega (arith, above, lt)) in
          let some : IsSome (was (Commit t)) = there.0 in cc
  gone (suc n) s above given stay = gone_if s (λ t lt. gone n t (omega (arith, above, lt))) given stay

  -- what stays among those that are left stays among all
  pub stays_all : (s : ℕ) → Stays keep left s → Stays keep was s
  stays_all s stays = record {
    there = may.only s stays.there;
    not_given_up = λ given. gone (top + 1) s (omega arith) given stays.not_given_up;
  }

-- what is left where the latest are kept of those that are left are the latest of all
pub latest_left : (keep count top : ℕ) (was mid now : Files) → ((s : ℕ) → top < s → was (Commit s) ≡ None)
    → MayBePruned keep was mid → MayBePruned keep mid now → IsPruned keep count mid now → HasLatestOnly keep was now
latest_left keep count top was mid now none before may pruned =
    let both = left_then keep was mid now before may in
    record {
      stays = both.stays;
      only = λ s there. stays_all keep was mid top before none s (pruned.only s there);
      clean = pruned.clean;
    }

-- above the numbers of a run no commit is there
pub none_higher : (g : Given) (log : List Line) (f : Files) → IsLast g.files g.base → HasAll g log f → (s : ℕ)
    → g.base + length log < s → f (Commit s) ≡ None
none_higher g log f last has s high =
    none_of (f (Commit s)) (λ there. elim (has.only s there) [
      | inl was ↦ let nothing : g.files (Commit s) ≡ None = last.none_above s (omega (arith, high)) in cc
      | inr among ↦
          let here : IsIn (commit_numbers g.base log) s =
          subst (λ (ls : List Line). IsIn (commit_numbers g.base ls) s) (take-length log) among in
          let within =
          each_at (λ (n : ℕ). (g.base < n) × (n ≤ g.base + length log)) (commit_numbers g.base log) s (commits_within g.base log) here in
          absurd (let le = within.1 in omega (arith, le, high))
    ])
