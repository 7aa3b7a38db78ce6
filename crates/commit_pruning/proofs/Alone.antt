-- What becomes of one commit, whatever became of the others.
use Rattle.std.specs.Prelude.{◌≡◌, ◌≢◌, ◌⊎◌, ℕ, List, map, None, IsSome, false, ⊤}
use Rattle.std.proofs.Common.{inl, inr, sym, subst, ap, ◌∙◌}
use Rattle.ix_base.specs.declared.file_name.FileName.{FileName}
use Rattle.ix_base.specs.declared.file_name.FileName.TheVariants.{Commit}
use Rattle.ix_outside.specs.Crash.{Settles}
use Rattle.ix_outside.specs.Files.{Files}
use Rattle.ix_outside.specs.Images.{MayHaveRemoved}
use Rattle.ix_outside.specs.declared.step.Step.TheVariants.{Deleted}
use Rattle.ix_outside.specs.Disk.{Disk, files, is_unsynced, taken, Stops}
use Rattle.ix_outside.proofs.CrashLaws.{FollowsSteps}
use Rattle.commit_point.specs.Holds.{IsAmong, IsFileOf}
use Rattle.commit_pruning.specs.Deleting.{prune_steps}
use Rattle.commit_pruning.specs.Pruning.{IsGoneFrom, IsKeptIn, IsWholeAs}
use Rattle.commit_pruning.proofs.Deletes.{among_or_not, are_none, are_synced, same_or_apart}
use Rattle.commit_pruning.proofs.OwnFiles.{AreCommitNames, CanPrune, no_commit_among, not_gone}
use Rattle.commit_pruning.proofs.Rounds.{Lasts, in_end, in_stop}

either_one : {A : Type 0} → A ⊎ A → A
either_one (inl x) = x
either_one (inr x) = x

-- ---- one file may have been removed

removed_none : (name n : FileName) (d c : Files) → d name ≡ None → MayHaveRemoved n d c → c name ≡ None
removed_none name n d c none (inr same) = ap (λ (f : Files). f name) same ∙ none
removed_none name n d c none (inl removes) = tell (same_or_apart name n)
  where
    tell : (name ≡ n) ⊎ (name ≢ n) → c name ≡ None
    tell (inl same) = ap c same ∙ removes.gone
    tell (inr apart) = removes.others name apart ∙ none

removed_whole : (old : Files) (s : ℕ) (n : FileName) → ¬ IsFileOf old s n → (d c : Files) → IsWholeAs s old d → MayHaveRemoved n d c → IsWholeAs s old c
removed_whole old s n out d c whole (inr same) name of = ap (λ (f : Files). f name) same ∙ whole name of
removed_whole old s n out d c whole (inl removes) name of = removes.others name (λ same. out (subst (IsFileOf old s) same of)) ∙ whole name of

-- ---- what lasts

-- the commit has no commit file, or all its files
abbrev pub IsNoneOrWhole : ℕ → Files → Files → Type 0
IsNoneOrWhole s old d = (d (Commit s) ≡ None) ⊎ IsWholeAs s old d

commit_removed : (old : Files) (s t : ℕ) (d c : Files) → IsNoneOrWhole s old d → MayHaveRemoved (Commit t) d c → IsNoneOrWhole s old c
commit_removed old s t d c (inl none) may = inl (removed_none (Commit s) (Commit t) d c none may)
commit_removed old s t d c (inr whole) may = tell (same_or_apart (Commit t) (Commit s)) may
  where
    other : Commit t ≢ Commit s → ¬ IsFileOf old s (Commit t)
    other apart (inl same) = apart same
    other apart (inr (e, lists, among)) = no_commit_among e t among

    tell : (Commit t ≡ Commit s) ⊎ (Commit t ≢ Commit s) → MayHaveRemoved (Commit t) d c → IsNoneOrWhole s old c
    tell (inr apart) may = inr (removed_whole old s (Commit t) (other apart) d c whole may)
    tell (inl same) (inl removes) = inl (ap c (sym same) ∙ removes.gone)
    tell (inl same) (inr still) = inr (subst (IsWholeAs s old) (sym still) whole)

module _ (gone rest : List FileName) (old : Disk) where
  pub none_lasts : (s : ℕ) → Lasts gone rest old (λ d. d (Commit s) ≡ None) (λ d. d (Commit s) ≡ None)
  none_lasts s = record {
    first = λ n among d c none may. removed_none (Commit s) n d c none may;
    between = λ d c none settles. ap (λ (f : Files). f (Commit s)) settles.same ∙ none;
    second = λ n among d c none may. removed_none (Commit s) n d c none may;
  }

  pub whole_lasts : CanPrune (files old) gone rest → (s : ℕ) → IsSome (files old (Commit s)) → ¬ IsAmong gone (Commit s) → Lasts gone rest old (IsWholeAs s (files old)) (IsWholeAs s (files old))
  whole_lasts can s there out = record {
    first = λ n among d c whole may. removed_whole (files old) s n (λ of. not_gone (files old) gone can.commits s out n of among) d c whole may;
    between = λ d c whole settles name of. ap (λ (f : Files). f name) settles.same ∙ whole name of;
    second = λ n among d c whole may. removed_whole (files old) s n (λ of. can.unlisted s there out n of among) d c whole may;
  }

  -- a deleted file isn't there once that is on the disk
  gone_settles : (s : ℕ) → IsAmong gone (Commit s) → (d c : Files) → Settles (taken (map Deleted gone) old) d c → c (Commit s) ≡ None
  gone_settles s among d c settles =
      settles.kept (Commit s) (λ unsynced. let no : is_unsynced (taken (map Deleted gone) old) (Commit s) ≡ false = are_synced gone old (Commit s) among in cc (unsynced, no))
      ∙ are_none gone old (Commit s) among

  pub gone_lasts : (s : ℕ) → IsAmong gone (Commit s) → Lasts gone rest old (λ d. ⊤) (λ d. d (Commit s) ≡ None)
  gone_lasts s among = record {
    first = λ n in' d c any may. tt;
    between = λ d c any settles. gone_settles s among d c settles;
    second = λ n in' d c none may. removed_none (Commit s) n d c none may;
  }

  pub given_up_lasts : AreCommitNames gone → (s : ℕ) → IsAmong gone (Commit s) → Lasts gone rest old (IsNoneOrWhole s (files old)) (λ d. d (Commit s) ≡ None)
  given_up_lasts commits s among = record {
    first = λ n in' d c is may. let t = commits n in' in commit_removed (files old) s t.0 d c is (subst (λ (m : FileName). MayHaveRemoved m d c) t.1 may);
    between = λ d c is settles. gone_settles s among d c settles;
    second = λ n in' d c none may. removed_none (Commit s) n d c none may;
  }

-- ---- one commit

-- The commit is as it was, or it is one of the list and has no commit file.
abbrev pub IsWholeOrLost : List FileName → ℕ → Files → Files → Type 0
IsWholeOrLost gone s old new = IsWholeAs s old new ⊎ (IsAmong gone (Commit s) × (new (Commit s) ≡ None))

module _ (Sees : Disk → Files → Type 0) (follows : FollowsSteps Sees) (gone rest : List FileName) (old : Disk) where
  -- wherever the steps stop
  pub stays_alone : CanPrune (files old) gone rest → (s : ℕ) → IsSome (files old (Commit s)) → IsKeptIn s (files old) (Sees old) → (at : Disk) → Stops (prune_steps gone rest) old at
      → (c : Files) → Sees at c → IsWholeOrLost gone s (files old) c
  stays_alone can s there kept at stops c sees = tell (among_or_not gone (Commit s))
    where
      lost : IsAmong gone (Commit s) → IsNoneOrWhole s (files old) c ⊎ (c (Commit s) ≡ None) → IsWholeOrLost gone s (files old) c
      lost among (inl (inl none)) = inr (among, none)
      lost among (inl (inr whole)) = inl whole
      lost among (inr none) = inr (among, none)

      tell : IsAmong gone (Commit s) ⊎ (¬ IsAmong gone (Commit s)) → IsWholeOrLost gone s (files old) c
      tell (inl among) =
          lost among (in_stop Sees follows gone rest old (IsNoneOrWhole s (files old)) (λ d. d (Commit s) ≡ None) (given_up_lasts gone rest old can.commits s among) (λ d image. inr (kept d image)) at stops c sees)
      tell (inr out) =
          inl (either_one (in_stop Sees follows gone rest old (IsWholeAs s (files old)) (IsWholeAs s (files old)) (whole_lasts gone rest old can s there out) kept at stops c sees))

  -- none comes back
  pub stays_gone : (s : ℕ) → IsGoneFrom s (Sees old) → (at : Disk) → Stops (prune_steps gone rest) old at → IsGoneFrom s (Sees at)
  stays_gone s none at stops c sees =
      either_one (in_stop Sees follows gone rest old (λ d. d (Commit s) ≡ None) (λ d. d (Commit s) ≡ None) (none_lasts gone rest old s) none at stops c sees)

  -- once all steps were taken
  pub goes_alone : (s : ℕ) → IsAmong gone (Commit s) → IsGoneFrom s (Sees (taken (prune_steps gone rest) old))
  goes_alone s among c sees = in_end Sees follows gone rest old (λ d. ⊤) (λ d. d (Commit s) ≡ None) (gone_lasts gone rest old s among) (λ d image. tt) c sees
