-- Commits that are given up, where each commit is kept.
use Rattle.std.specs.Prelude.{◌≡◌, ◌⊎◌, ℕ, zero, suc, List, [], ◌∷◌, ◌++◌, map, length, take, Option, None, IsSome, ⊤, refl}
use Rattle.std.proofs.Common.{inl, inr, subst, sym, ap, ◌∙◌}
use Rattle.std.proofs.lemmas.List.{append-nil}
use Rattle.ix_base.specs.declared.file_name.FileName.{FileName}
use Rattle.ix_base.specs.declared.file_name.FileName.TheVariants.{Commit}
use Rattle.ix_outside.specs.Files.{Files}
use Rattle.ix_outside.specs.declared.step.Step.{Step}
use Rattle.ix_outside.specs.declared.step.Step.TheVariants.{Deleted, Settled}
use Rattle.ix_outside.specs.Disk.{Disk, files, taken}
use Rattle.ix_outside.proofs.CrashLaws.{FollowsSteps}
use Rattle.ix_outside.proofs.DiskLaws.{taken_then}
use Rattle.commit_point.specs.Holds.{AreKept, IsAmong, IsFileOf, KeepsCommits}
use Rattle.commit_pruning.specs.Pruning.{IsGoneFrom, IsWholeAs}
use Rattle.commit_pruning.specs.Deleting.{Pauses, prune_steps}
use Rattle.commit_pruning.proofs.Deletes.{among_or_not, stays_none, are_none, others_stay}
use Rattle.commit_pruning.proofs.OwnFiles.{AreCommitNames, CanPrune, file_of_same, no_some, none_or_some, not_gone}
use Rattle.commit_pruning.proofs.Rounds.{Lasts, all_taken, at_end, in_first, in_second, regrouped}
use Rattle.commit_pruning.proofs.Alone.{IsNoneOrWhole, given_up_lasts, gone_lasts, none_lasts, whole_lasts}

-- all was deleted, and every other file is as it was
pub record Loses (gone rest : List FileName) (old new : Files) : Type 0 where
  pub first : (name : FileName) → IsAmong gone name → new name ≡ None
  pub second : (name : FileName) → IsAmong rest name → new name ≡ None
  pub others : (name : FileName) → ¬ IsAmong gone name → ¬ IsAmong rest name → new name ≡ old name

-- Each commit that reads give is kept. An image may have some of the commits of the list besides, each of them whole.
pub record AreKeptBeside (before : Files) (gone : List FileName) (files : Files) (images : Files → Type 0) : Type 0 where
  pub kept : (d : Files) → images d → KeepsCommits files d
  pub only : (d : Files) → images d → (s : ℕ) → IsSome (d (Commit s))
      → IsSome (files (Commit s)) ⊎ (IsAmong gone (Commit s) × IsWholeAs s before d)

-- ---- one commit after another

-- where each commit is kept, none that reads don't give is in an image
pub none_kept : (old : Files) (images : Files → Type 0) → AreKept old images → (s : ℕ) → old (Commit s) ≡ None → IsGoneFrom s images
none_kept old images kept s none d image = tell (none_or_some (d (Commit s)))
  where
    tell : (d (Commit s) ≡ None) ⊎ IsSome (d (Commit s)) → d (Commit s) ≡ None
    tell (inl is) = is
    tell (inr some) = absurd (no_some (old (Commit s)) none (kept.only d image s some))

-- what is there was there before
pub there_before : (old c : Files) (s : ℕ) → (old (Commit s) ≡ None → c (Commit s) ≡ None) → IsSome (c (Commit s)) → IsSome (old (Commit s))
there_before old c s none some = tell (none_or_some (old (Commit s)))
  where
    tell : (old (Commit s) ≡ None) ⊎ IsSome (old (Commit s)) → IsSome (old (Commit s))
    tell (inl is) = absurd (no_some (c (Commit s)) (none is) some)
    tell (inr is) = is

-- what is seen once the deletes of commit files are on the disk
record Second (gone : List FileName) (old d : Files) : Type 0 where
  own : (s : ℕ) → IsSome (old (Commit s)) → ¬ IsAmong gone (Commit s) → IsWholeAs s old d
  gone_is : (s : ℕ) → IsAmong gone (Commit s) → d (Commit s) ≡ None
  only : (s : ℕ) → IsSome (d (Commit s)) → IsSome (old (Commit s))

module _ (Sees : Disk → Files → Type 0) (follows : FollowsSteps Sees) (gone rest : List FileName) (old : Disk) (can : CanPrune (files old) gone rest) (kept : AreKept (files old) (Sees old)) where
  -- a disk of which all is seen that lasts through the second round
  abbrev SeesLasting : Disk → Type 1
  SeesLasting x = (P Q : Files → Type 0) → Lasts gone rest old P Q → ((c : Files) → Sees old c → P c) → (c : Files) → Sees x c → Q c

  seen : (x : Disk) → SeesLasting x → (c : Files) → Sees x c → Second gone (files old) c
  seen x lasting c sees = record {
    own = λ s there out. lasting (IsWholeAs s (files old)) (IsWholeAs s (files old)) (whole_lasts gone rest old can s there out) (λ d image. kept.kept d image s there) c sees;
    gone_is = λ s among. lasting (λ d. ⊤) (λ d. d (Commit s) ≡ None) (gone_lasts gone rest old s among) (λ d image. tt) c sees;
    only = λ s. there_before (files old) c s (λ none.
        lasting (λ d. d (Commit s) ≡ None) (λ d. d (Commit s) ≡ None) (none_lasts gone rest old s) (none_kept (files old) (Sees old) kept s none) c sees);
  }

  second_seen : (c : Files) → Sees (taken (map Deleted rest) (Settled ∷ taken (map Deleted gone) old)) c → Second gone (files old) c
  second_seen = seen (taken (map Deleted rest) (Settled ∷ taken (map Deleted gone) old)) (λ P Q. in_second Sees follows gone rest old P Q)

  end_seen : (c : Files) → Sees (Settled ∷ taken (map Deleted rest) (Settled ∷ taken (map Deleted gone) old)) c → Second gone (files old) c
  end_seen = seen (Settled ∷ taken (map Deleted rest) (Settled ∷ taken (map Deleted gone) old)) (λ P Q. at_end Sees follows gone rest old P Q)

-- ---- what reads give

among_front : (xs : List FileName) (count : ℕ) (name : FileName) → IsAmong (take count xs) name → IsAmong xs name
among_front [] zero name in' = in'
among_front [] (suc n) name in' = in'
among_front (x ∷ xs) zero name in' = absurd in'
among_front (x ∷ xs) (suc n) name (inl same) = inl same
among_front (x ∷ xs) (suc n) name (inr more) = inr (among_front xs n name more)

made : (gone rest : List FileName) (old : Disk) → Loses gone rest (files old) (files (taken (map Deleted rest) (Settled ∷ taken (map Deleted gone) old)))
made gone rest old = record {
  first = λ name among. stays_none rest (Settled ∷ taken (map Deleted gone) old) name (are_none gone old name among);
  second = λ name among. are_none rest (Settled ∷ taken (map Deleted gone) old) name among;
  others = λ name out apart. others_stay rest (Settled ∷ taken (map Deleted gone) old) name apart ∙ others_stay gone old name out;
}

pub prune_makes : (gone rest : List FileName) (old : Disk) → Loses gone rest (files old) (files (taken (prune_steps gone rest) old))
prune_makes gone rest old = subst (λ (x : Disk). Loses gone rest (files old) (files x)) (sym (all_taken gone rest old)) (made gone rest old)

-- ---- commits are kept

kept_then : (gone rest : List FileName) (old now : Files) (images : Files → Type 0) → CanPrune old gone rest → Loses gone rest old now
    → ((d : Files) → images d → Second gone old d) → AreKept now images
kept_then gone rest old now images can pruned seconds = record {
  kept = λ d image s there name file. kept d (seconds d image) s there name file (among_or_not gone (Commit s));
  only = λ d image s some. only d (seconds d image) s some (among_or_not gone (Commit s));
}
  where
    same : (s : ℕ) → ¬ IsAmong gone (Commit s) → now (Commit s) ≡ old (Commit s)
    same s out = pruned.others (Commit s) out (can.no_commits s)

    kept : (d : Files) → Second gone old d → (s : ℕ) → IsSome (now (Commit s)) → (name : FileName) → IsFileOf now s name → IsAmong gone (Commit s) ⊎ (¬ IsAmong gone (Commit s)) → d name ≡ now name
    kept d is s there name file (inl among) = absurd (no_some (now (Commit s)) (pruned.first (Commit s) among) there)
    kept d is s there name file (inr out) =
        let before : IsFileOf old s name = file_of_same old now s name (same s out) file in
        let was : IsSome (old (Commit s)) = subst (λ (o : Option (List ℕ)). IsSome o) (same s out) there in
        is.own s was out name before ∙ sym (pruned.others name (not_gone old gone can.commits s out name before) (can.unlisted s was out name before))

    only : (d : Files) → Second gone old d → (s : ℕ) → IsSome (d (Commit s)) → IsAmong gone (Commit s) ⊎ (¬ IsAmong gone (Commit s)) → IsSome (now (Commit s))
    only d is s some (inl among) = absurd (no_some (d (Commit s)) (is.gone_is s among) some)
    only d is s some (inr out) = subst (λ (o : Option (List ℕ)). IsSome o) (sym (same s out)) (is.only s some)

pub prune_keeps : (Sees : Disk → Files → Type 0) → FollowsSteps Sees → (gone rest : List FileName) (old : Disk) → CanPrune (files old) gone rest → AreKept (files old) (Sees old)
    → AreKept (files (taken (prune_steps gone rest) old)) (Sees (taken (prune_steps gone rest) old))
prune_keeps Sees follows gone rest old can kept =
    subst (λ (x : Disk). AreKept (files x) (Sees x)) (sym (all_taken gone rest old))
    (kept_then gone rest (files old) (files (taken (map Deleted rest) (Settled ∷ taken (map Deleted gone) old))) (Sees (Settled ∷ taken (map Deleted rest) (Settled ∷ taken (map Deleted gone) old))) can (made gone rest old) (end_seen Sees follows gone rest old can kept))

-- ---- pauses

still_can : (old : Files) (gone rest : List FileName) (count : ℕ) → CanPrune old gone rest → CanPrune old gone (take count rest)
still_can old gone rest count can = record {
  commits = can.commits;
  there = can.there;
  no_commits = λ s in'. can.no_commits s (among_front rest count (Commit s) in');
  unlisted = λ s there out name file in'. can.unlisted s there out name file (among_front rest count name in');
}

kept_in_second : (Sees : Disk → Files → Type 0) → FollowsSteps Sees → (gone rest : List FileName) (old : Disk) → CanPrune (files old) gone rest → AreKept (files old) (Sees old) → AreKept (files (taken (map Deleted rest) (Settled ∷ taken (map Deleted gone) old))) (Sees (taken (map Deleted rest) (Settled ∷ taken (map Deleted gone) old)))
kept_in_second Sees follows gone rest old can kept =
    kept_then gone rest (files old) (files (taken (map Deleted rest) (Settled ∷ taken (map Deleted gone) old))) (Sees (taken (map Deleted rest) (Settled ∷ taken (map Deleted gone) old))) can (made gone rest old) (second_seen Sees follows gone rest old can kept)

kept_in_first : (Sees : Disk → Files → Type 0) → FollowsSteps Sees → (gone : List FileName) (old : Disk) (all : List FileName) → AreCommitNames gone → ((s : ℕ) → IsAmong gone (Commit s) → IsSome (files old (Commit s)))
    → ((name : FileName) → IsAmong gone name → IsAmong all name) → AreKept (files old) (Sees old)
    → AreKeptBeside (files old) all (files (taken (map Deleted gone) old)) (Sees (taken (map Deleted gone) old))
kept_in_first Sees follows gone old all commits there more before = record {
  kept = λ d image s some name file. kept d image s some name file (among_or_not gone (Commit s));
  only = λ d image s some. only d image s some (among_or_not gone (Commit s));
}
  where
    can : CanPrune (files old) gone []
    can = record { commits = commits; there = there; no_commits = λ s none. none; unlisted = λ s is out name file none. none }

    same : (s : ℕ) → ¬ IsAmong gone (Commit s) → files (taken (map Deleted gone) old) (Commit s) ≡ files old (Commit s)
    same s out = others_stay gone old (Commit s) out

    kept : (d : Files) → Sees (taken (map Deleted gone) old) d → (s : ℕ) → IsSome (files (taken (map Deleted gone) old) (Commit s)) → (name : FileName) → IsFileOf (files (taken (map Deleted gone) old)) s name
        → IsAmong gone (Commit s) ⊎ (¬ IsAmong gone (Commit s)) → d name ≡ files (taken (map Deleted gone) old) name
    kept d image s some name file (inl among) = absurd (no_some (files (taken (map Deleted gone) old) (Commit s)) (are_none gone old (Commit s) among) some)
    kept d image s some name file (inr out) =
        let was : IsFileOf (files old) s name = file_of_same (files old) (files (taken (map Deleted gone) old)) s name (same s out) file in
        let is : IsSome (files old (Commit s)) = subst (λ (o : Option (List ℕ)). IsSome o) (same s out) some in
        in_first Sees follows gone [] old (IsWholeAs s (files old)) (IsWholeAs s (files old)) (whole_lasts gone [] old can s is out) (λ c sees. before.kept c sees s is) d image name was
        ∙ sym (others_stay gone old name (not_gone (files old) gone commits s out name was))

    only : (d : Files) → Sees (taken (map Deleted gone) old) d → (s : ℕ) → IsSome (d (Commit s)) → IsAmong gone (Commit s) ⊎ (¬ IsAmong gone (Commit s))
        → IsSome (files (taken (map Deleted gone) old) (Commit s)) ⊎ (IsAmong all (Commit s) × IsWholeAs s (files old) d)
    only d image s some (inr out) =
        inl (subst (λ (o : Option (List ℕ)). IsSome o) (sym (same s out)) (there_before (files old) d s (λ none.
        in_first Sees follows gone [] old (λ c. c (Commit s) ≡ None) (λ c. c (Commit s) ≡ None) (none_lasts gone [] old s) (none_kept (files old) (Sees old) before s none) d image) some))
    only d image s some (inl among) =
        tell (in_first Sees follows gone [] old (IsNoneOrWhole s (files old)) (λ c. c (Commit s) ≡ None) (given_up_lasts gone [] old commits s among) (λ c sees. inr (before.kept c sees s (there s among))) d image)
      where
        tell : IsNoneOrWhole s (files old) d → IsSome (files (taken (map Deleted gone) old) (Commit s)) ⊎ (IsAmong all (Commit s) × IsWholeAs s (files old) d)
        tell (inl none) = absurd (no_some (d (Commit s)) none some)
        tell (inr whole) = inr (more (Commit s) among, whole)

take_front : (xs ys : List Step) → take (length xs) (xs ++ ys) ≡ xs
take_front [] ys = refl
take_front (x ∷ xs) ys = ap (λ (l : List Step). x ∷ l) (take_front xs ys)

take-nil : (j : ℕ) → take {A = Step} j [] ≡ []
take-nil zero = refl
take-nil (suc j) = refl

-- the first few of some deletes and further steps: a few of the deletes, or all of them and a few of the others
front : (names : List FileName) (more : List Step) (count : ℕ)
    → ((k : ℕ) × (take count (map Deleted names ++ more) ≡ map Deleted (take k names))) ⊎ ((k : ℕ) × (take count (map Deleted names ++ more) ≡ map Deleted names ++ take k more))
front [] more count = inr (count, refl)
front (n ∷ ns) more zero = inl (0, refl)
front (n ∷ ns) more (suc count) = tell (front ns more count)
  where
    tell : ((k : ℕ) × (take count (map Deleted ns ++ more) ≡ map Deleted (take k ns))) ⊎ ((k : ℕ) × (take count (map Deleted ns ++ more) ≡ map Deleted ns ++ take k more))
        → ((k : ℕ) × (Deleted n ∷ take count (map Deleted ns ++ more) ≡ map Deleted (take k (n ∷ ns)))) ⊎ ((k : ℕ) × (Deleted n ∷ take count (map Deleted ns ++ more) ≡ Deleted n ∷ (map Deleted ns ++ take k more)))
    tell (inl found) = inl (suc found.0, ap (λ (x : List Step). Deleted n ∷ x) found.1)
    tell (inr found) = inr (found.0, ap (λ (x : List Step). Deleted n ∷ x) found.1)

but_none : (before : Files) (gone : List FileName) (now : Files) (images : Files → Type 0) → AreKept now images → AreKeptBeside before gone now images
but_none before gone now images are = record { kept = are.kept; only = λ d image s some. inl (are.only d image s some) }

pub pauses_keep : (Sees : Disk → Files → Type 0) → FollowsSteps Sees → (gone rest : List FileName) (old new : Disk) → CanPrune (files old) gone rest → AreKept (files old) (Sees old)
    → Pauses (prune_steps gone rest) old new → AreKeptBeside (files old) gone (files new) (Sees new)
pauses_keep Sees follows gone rest old new can before pauses =
    let count : ℕ = length pauses.front in
    subst (λ (x : Disk). AreKeptBeside (files old) gone (files x) (Sees x))
    (sym (pauses.is ∙ (ap (λ (steps : List Step). taken steps old) (sym (take_front pauses.front pauses.behind) ∙ ap (take count) (sym pauses.are)) ∙ ap (λ (steps : List Step). taken (take count steps) old) (regrouped gone rest))))
    (first count (front gone (Settled ∷ (map Deleted rest ++ Settled ∷ [])) count))
  where
    G : Disk → Type 0
    G x = AreKeptBeside (files old) gone (files x) (Sees x)

    at_first : (k : ℕ) → AreKeptBeside (files old) gone (files (taken (map Deleted (take k gone)) old)) (Sees (taken (map Deleted (take k gone)) old))
    at_first k =
        kept_in_first Sees follows (take k gone) old gone (λ name in'. can.commits name (among_front gone k name in')) (λ s in'. can.there s (among_front gone k (Commit s) in')) (λ name in'. among_front gone k name in') before

    all_first : AreKeptBeside (files old) gone (files (taken (map Deleted gone) old)) (Sees (taken (map Deleted gone) old))
    all_first = kept_in_first Sees follows gone old gone can.commits can.there (λ name in'. in') before

    second : (k : ℕ) → ((j : ℕ) × (take k (map Deleted rest ++ Settled ∷ []) ≡ map Deleted (take j rest))) ⊎ ((j : ℕ) × (take k (map Deleted rest ++ Settled ∷ []) ≡ map Deleted rest ++ take j (Settled ∷ [])))
        → AreKeptBeside (files old) gone (files (taken (take k (map Deleted rest ++ Settled ∷ [])) (Settled ∷ taken (map Deleted gone) old))) (Sees (taken (take k (map Deleted rest ++ Settled ∷ [])) (Settled ∷ taken (map Deleted gone) old)))
    second k (inl (j, e)) =
        subst (λ (steps : List Step). AreKeptBeside (files old) gone (files (taken steps (Settled ∷ taken (map Deleted gone) old))) (Sees (taken steps (Settled ∷ taken (map Deleted gone) old)))) (sym e)
        (but_none (files old) gone _ _ (kept_in_second Sees follows gone (take j rest) old (still_can (files old) gone rest j can) before))
    second k (inr (zero, e)) =
        subst (λ (steps : List Step). AreKeptBeside (files old) gone (files (taken steps (Settled ∷ taken (map Deleted gone) old))) (Sees (taken steps (Settled ∷ taken (map Deleted gone) old)))) (sym (e ∙ append-nil (map Deleted rest)))
        (but_none (files old) gone _ _ (kept_in_second Sees follows gone rest old can before))
    second k (inr (suc j, e)) =
        subst (λ (steps : List Step). AreKeptBeside (files old) gone (files (taken steps (Settled ∷ taken (map Deleted gone) old))) (Sees (taken steps (Settled ∷ taken (map Deleted gone) old)))) (sym (e ∙ ap (λ (x : List Step). map Deleted rest ++ Settled ∷ x) (take-nil j)))
        (subst (λ (x : Disk). AreKeptBeside (files old) gone (files x) (Sees x)) (sym (taken_then (map Deleted rest) (Settled ∷ []) (Settled ∷ taken (map Deleted gone) old)))
        (but_none (files old) gone _ _ (kept_then gone rest (files old) (files (taken (map Deleted rest) (Settled ∷ taken (map Deleted gone) old))) (Sees (Settled ∷ taken (map Deleted rest) (Settled ∷ taken (map Deleted gone) old))) can (made gone rest old) (end_seen Sees follows gone rest old can before))))

    first : (count : ℕ) → ((k : ℕ) × (take count (map Deleted gone ++ Settled ∷ (map Deleted rest ++ Settled ∷ [])) ≡ map Deleted (take k gone))) ⊎ ((k : ℕ) × (take count (map Deleted gone ++ Settled ∷ (map Deleted rest ++ Settled ∷ [])) ≡ map Deleted gone ++ take k (Settled ∷ (map Deleted rest ++ Settled ∷ []))))
        → AreKeptBeside (files old) gone (files (taken (take count (map Deleted gone ++ Settled ∷ (map Deleted rest ++ Settled ∷ []))) old)) (Sees (taken (take count (map Deleted gone ++ Settled ∷ (map Deleted rest ++ Settled ∷ []))) old))
    first count (inl (k, e)) =
        subst (λ (steps : List Step). AreKeptBeside (files old) gone (files (taken steps old)) (Sees (taken steps old))) (sym e) (at_first k)
    first count (inr (zero, e)) =
        subst (λ (steps : List Step). AreKeptBeside (files old) gone (files (taken steps old)) (Sees (taken steps old))) (sym (e ∙ append-nil (map Deleted gone))) all_first
    first count (inr (suc k, e)) =
        subst (λ (steps : List Step). AreKeptBeside (files old) gone (files (taken steps old)) (Sees (taken steps old))) (sym e)
        (subst (λ (x : Disk). AreKeptBeside (files old) gone (files x) (Sees x)) (sym (taken_then (map Deleted gone) (Settled ∷ take k (map Deleted rest ++ Settled ∷ [])) old)) (second k (front rest (Settled ∷ []) k)))
