-- What becomes of the files, and of what a crash leaves, where a plan is carried out.
use Rattle.std.proofs.Common.{◌≡◌, ◌∙◌, ◌⊎◌, inl, inr, ℕ, List, length, Option, Some, None, Result, Ok, Err, refl, sym, ap, subst}
use Rattle.std.specs.Prelude.{IfErr, IfOk, IsSome, OnOk}
use Rattle.std.proofs.lemmas.List.{length-map}
use Rattle.ix_base.specs.declared.damaged.Damaged.{Damaged}
use Rattle.ix_base.specs.declared.file_name.FileName.{FileName}
use Rattle.ix_base.specs.declared.file_name.FileName.TheVariants.{Commit}
use Rattle.ix_outside.specs.Calls.{LeavesOnly}
use Rattle.ix_outside.specs.Crash.{IsImage, MayHold}
use Rattle.ix_outside.proofs.CallLaws.{leaves_reading, leaves_steps}
use Rattle.ix_outside.proofs.CrashLaws.{FollowsSteps, IsRead, images_follow, reads_follow}
use Rattle.ix_outside.specs.Disk.{Disk, Stops, Told, files, taken, told_files}
use Rattle.ix_outside.specs.Files.{Files}
use Rattle.commit_point.specs.Holds.{AreKept, IsAmong}
use Rattle.commit_pruning.specs.Choosing.{IsPlan, earlier}
use Rattle.commit_pruning.specs.Deleting.{Pauses, prune_steps}
use Rattle.commit_pruning.specs.Pruning.{AreKeptBut, IsGivenUp, IsGoneFrom, IsKeptIn, IsOutside, IsPruned, IsWholeAs, IsWholeOrGivenUp, MayBePruned}
use Rattle.commit_pruning.specs.declared.fault.PruningFault.{PruningFault}
use Rattle.commit_pruning.specs.declared.fault.PruningFault.TheVariants as pruning
use Rattle.commit_pruning.proofs.Alone.{IsWholeOrLost, goes_alone, stays_alone, stays_gone}
use Rattle.commit_pruning.proofs.Chosen.{can_prune, commits_are, earlier_gone, gone_is_earlier, is_pruned}
use Rattle.commit_pruning.proofs.Latest.{earlier_given_up, is_earlier}
use Rattle.commit_pruning.proofs.Pruned.{AreKeptBeside, Loses, none_kept, pauses_keep, prune_keeps, prune_makes, there_before}

-- ---- where nothing was done

still : (keep : ℕ) (fs : Files) (images : Files → Type 0) → AreKept fs images → (c : Files) → images c → MayBePruned keep fs c
still keep fs images kept c image = record {
  stays = λ s stays name of. kept.kept c image s stays.there name of;
  each = λ s there. inr (λ name of. kept.kept c image s there name of);
  only = kept.only c image;
}

but_none : (keep : ℕ) (before now : Files) (images : Files → Type 0) → AreKept now images → AreKeptBut keep before now images
but_none keep before now images are = record { kept = are.kept; only = λ d image s some. inl (are.only d image s some) }

-- ---- where a store tells

-- what holds of two disks holds of what reads give of them
by_both : (P : Files → Files → Type 0) (change : Disk → Disk → Type 0) (a b : Option Disk) → Told change a b
    → ((x y : Disk) → a ≡ Some x → b ≡ Some y → change x y → P (files x) (files y)) → (fs now : Files) → told_files a ≡ Some fs → told_files b ≡ Some now → P fs now
by_both P change None b told each fs now is end = absurd cc
by_both P change (Some x) None told each fs now is end = absurd told
by_both P change (Some x) (Some y) told each fs now is end =
    let first : files x ≡ fs = cc in
    let second : files y ≡ now = cc in
    subst (λ (f : Files). P f now) first (subst (P (files x)) second (each x y refl refl told))

-- the same, where the first one is that of a call before
abbrev pub Moved : (Disk → Disk → Type 0) → Option Disk → Option Disk → Option Disk → Type 0
Moved change a mid b = (mid ≡ a) × Told change mid b

moved : (change : Disk → Disk → Type 0) (a mid b : Option Disk) → Moved change a mid b → Told change a b
moved change a mid b m = subst (λ (o : Option Disk). Told change o b) m.0 m.1

pub left_same : (keep : ℕ) (a b : Option Disk) → b ≡ a → (fs now : Files) → told_files a ≡ Some fs → told_files b ≡ Some now → MayBePruned keep fs now
left_same keep a b same fs now is end =
    let equal : fs ≡ now = (let e : told_files b ≡ told_files a = ap told_files same in cc) in
    subst (MayBePruned keep fs) equal (record {
      stays = λ s stays name of. refl;
      each = λ s there. inr (λ name of. refl);
      only = λ s some. some;
    })

pub crash_same : (keep : ℕ) (a b : Option Disk) → b ≡ a → (fs : Files) → told_files a ≡ Some fs → AreKept fs (MayHold a) → LeavesOnly a b (MayBePruned keep fs)
crash_same keep a b same fs is kept = leaves_reading a b (MayBePruned keep fs) same (still keep fs (MayHold a) kept)

pub found_same : (keep : ℕ) (a b : Option Disk) → b ≡ a → (fs now : Files) (s : ℕ) → told_files a ≡ Some fs → told_files b ≡ Some now → IsSome (fs (Commit s)) → IsWholeOrGivenUp keep s fs now
found_same keep a b same fs now s is end there =
    let equal : fs ≡ now = (let e : told_files b ≡ told_files a = ap told_files same in cc) in
    inl (λ name of. ap (λ (f : Files). f name) (sym equal))

pub each_same : (keep : ℕ) (a b : Option Disk) → b ≡ a → (fs : Files) (s : ℕ) → told_files a ≡ Some fs → IsSome (fs (Commit s)) → IsKeptIn s fs (MayHold a) → LeavesOnly a b (IsWholeOrGivenUp keep s fs)
each_same keep a b same fs s is there kept = leaves_reading a b (IsWholeOrGivenUp keep s fs) same (λ c image. inl (kept c image))

pub none_same : (a b : Option Disk) → b ≡ a → (s : ℕ) → IsGoneFrom s (MayHold a) → LeavesOnly a b (λ d. d (Commit s) ≡ None)
none_same a b same s none = leaves_reading a b (λ d. d (Commit s) ≡ None) same none

pub paused_same : (keep : ℕ) (a b : Option Disk) → b ≡ a → (fs now : Files) → told_files a ≡ Some fs → told_files b ≡ Some now → AreKept fs (MayHold a) → AreKeptBut keep fs now (MayHold b)
paused_same keep a b same fs now is end kept =
    let equal : fs ≡ now = (let e : told_files b ≡ told_files a = ap told_files same in cc) in
    subst (λ (n : Files). AreKeptBut keep fs n (MayHold b)) equal
    (subst (λ (o : Option Disk). AreKeptBut keep fs fs (MayHold o)) (sym same) (but_none keep fs fs (MayHold a) kept))

-- ---- where a plan was carried out

-- what becomes of all commits is told by each one
one_by_one : (keep : ℕ) (old new : Files) → ((s : ℕ) → IsSome (old (Commit s)) → IsWholeOrGivenUp keep s old new) → ((s : ℕ) → old (Commit s) ≡ None → new (Commit s) ≡ None) → MayBePruned keep old new
one_by_one keep old new each none = record {
  stays = λ s stays. whole s stays.not_given_up (each s stays.there);
  each = λ s there. either s (each s there);
  only = λ s. there_before old new s (none s);
}
  where
    whole : (s : ℕ) → ¬ IsGivenUp keep old s → IsWholeOrGivenUp keep s old new → IsWholeAs s old new
    whole s stays (inl is) = is
    whole s stays (inr given) = absurd (stays given.0)

    either : (s : ℕ) → IsWholeOrGivenUp keep s old new → (new (Commit s) ≡ None) ⊎ IsWholeAs s old new
    either s (inl is) = inr is
    either s (inr given) = inl given.1

module _ (keep : ℕ) (gone rest : List FileName) where
  given_up : (fs : Files) → IsPlan keep fs gone rest → (s : ℕ) → IsAmong gone (Commit s) → IsGivenUp keep fs s
  given_up fs plan s among = earlier_given_up keep fs plan.numbers (commits_are keep fs gone rest plan) s (gone_is_earlier keep fs gone rest plan s among)

  -- wherever the steps stop
  stays : (Sees : Disk → Files → Type 0) → FollowsSteps Sees → (x : Disk) → IsPlan keep (files x) gone rest → (s : ℕ) → IsSome (files x (Commit s)) → IsKeptIn s (files x) (Sees x)
      → (at : Disk) → Stops (prune_steps gone rest) x at → (c : Files) → Sees at c → IsWholeOrGivenUp keep s (files x) c
  stays Sees follows x plan s there kept at stops c sees =
      given (stays_alone Sees follows gone rest x (can_prune keep (files x) gone rest plan) s there kept at stops c sees)
    where
      given : IsWholeOrLost gone s (files x) c → IsWholeOrGivenUp keep s (files x) c
      given (inl whole) = inl whole
      given (inr lost) = inr (given_up (files x) plan s lost.0, lost.1)

  stays_read : (x : Disk) → IsPlan keep (files x) gone rest → (s : ℕ) → IsSome (files x (Commit s)) → (y : Disk) → Stops (prune_steps gone rest) x y → IsWholeOrGivenUp keep s (files x) (files y)
  stays_read x plan s there y stops = stays IsRead reads_follow x plan s there (λ d is name of. ap (λ (f : Files). f name) is) y stops (files y) refl

  -- what was planned of the files that were told
  abbrev pub Planned : Option Disk → Type 0
  Planned a = (fs : Files) → told_files a ≡ Some fs → IsPlan keep fs gone rest

  pub found_by : (a mid b : Option Disk) → Planned a → Moved (Stops (prune_steps gone rest)) a mid b → (fs now : Files) (s : ℕ) → told_files a ≡ Some fs → told_files b ≡ Some now
      → IsSome (fs (Commit s)) → IsWholeOrGivenUp keep s fs now
  found_by a mid b planned m fs now s =
      by_both (λ f c. IsSome (f (Commit s)) → IsWholeOrGivenUp keep s f c) (Stops (prune_steps gone rest)) a b (moved (Stops (prune_steps gone rest)) a mid b m) (λ x y is end stops there.
      stays_read x (planned (files x) (ap told_files is)) s there y stops) fs now

  pub left_by : (a mid b : Option Disk) → Planned a → Moved (Stops (prune_steps gone rest)) a mid b → (fs now : Files) → told_files a ≡ Some fs → told_files b ≡ Some now → MayBePruned keep fs now
  left_by a mid b planned m =
      by_both (MayBePruned keep) (Stops (prune_steps gone rest)) a b (moved (Stops (prune_steps gone rest)) a mid b m) (λ x y is end stops.
      one_by_one keep (files x) (files y)
      (λ s there. stays_read x (planned (files x) (ap told_files is)) s there y stops)
      (λ s none. stays_gone IsRead reads_follow gone rest x s (λ d same. ap (λ (f : Files). f (Commit s)) same ∙ none) y stops (files y) refl))

  -- what holds wherever the steps stop holds of each image meanwhile
  meanwhile : (B : Files → (Files → Type 0) → Type 0) (P : Files → Files → Type 0)
      → ((x at : Disk) (c : Files) → IsPlan keep (files x) gone rest → B (files x) (IsImage x) → Stops (prune_steps gone rest) x at → IsImage at c → P (files x) c)
      → (a mid b : Option Disk) → Planned a → Moved (Stops (prune_steps gone rest)) a mid b → (fs : Files) → told_files a ≡ Some fs → B fs (MayHold a) → LeavesOnly a b (P fs)
  meanwhile B P holds a mid b planned m fs is before =
      leaves_steps (prune_steps gone rest) a b (P fs) (moved (Stops (prune_steps gone rest)) a mid b m) (λ x at c from stops image.
      let told : told_files a ≡ Some (files x) = ap told_files from in
      let same : files x ≡ fs = cc in
      subst (λ (f : Files). P f c) same
      (holds x at c (planned (files x) told) (subst (λ (o : Option Disk). B (files x) (MayHold o)) from (subst (λ (f : Files). B f (MayHold a)) (sym same) before)) stops image))

  pub each_by : (a mid b : Option Disk) → Planned a → Moved (Stops (prune_steps gone rest)) a mid b → (fs : Files) (s : ℕ) → told_files a ≡ Some fs → IsSome (fs (Commit s)) → IsKeptIn s fs (MayHold a)
      → LeavesOnly a b (IsWholeOrGivenUp keep s fs)
  each_by a mid b planned m fs s is there kept =
      meanwhile (λ f images. IsSome (f (Commit s)) × IsKeptIn s f images) (IsWholeOrGivenUp keep s)
      (λ x at c plan before stops image. stays IsImage images_follow x plan s before.0 before.1 at stops c image) a mid b planned m fs is (there, kept)

  pub crash_by : (a mid b : Option Disk) → Planned a → Moved (Stops (prune_steps gone rest)) a mid b → (fs : Files) → told_files a ≡ Some fs → AreKept fs (MayHold a) → LeavesOnly a b (MayBePruned keep fs)
  crash_by =
      meanwhile AreKept (MayBePruned keep) (λ x at c plan before stops image.
      one_by_one keep (files x) c
      (λ s there. stays IsImage images_follow x plan s there (λ d held. before.kept d held s there) at stops c image)
      (λ s none. stays_gone IsImage images_follow gone rest x s (none_kept (files x) (IsImage x) before s none) at stops c image))

  pub none_by : (a mid b : Option Disk) → Moved (Stops (prune_steps gone rest)) a mid b → (s : ℕ) → IsGoneFrom s (MayHold a) → LeavesOnly a b (λ d. d (Commit s) ≡ None)
  none_by a mid b m s none =
      leaves_steps (prune_steps gone rest) a b (λ d. d (Commit s) ≡ None) (moved (Stops (prune_steps gone rest)) a mid b m) (λ x at c from stops image.
      stays_gone IsImage images_follow gone rest x s (subst (λ (o : Option Disk). IsGoneFrom s (MayHold o)) from none) at stops c image)

  -- all steps were taken
  abbrev pub Done : Disk → Disk → Type 0
  Done x y = y ≡ taken (prune_steps gone rest) x

  pub gone_by : (a mid b : Option Disk) (r : Result ℕ PruningFault) → Planned a → mid ≡ a → OnOk r (Told Done mid b)
      → (fs : Files) (s : ℕ) → told_files a ≡ Some fs → IsSome (fs (Commit s)) → IsGivenUp keep fs s → OnOk r (IsGoneFrom s (MayHold b))
  gone_by a mid b (Err fault) planned same told fs s is there given = tt
  gone_by a mid b (Ok n) planned same told fs s is there given = at a b (moved Done a mid b (same, told))
    where
      plan : IsPlan keep fs gone rest
      plan = planned fs is

      among : IsAmong gone (Commit s)
      among = earlier_gone keep fs gone rest plan s (is_earlier keep fs plan.numbers (commits_are keep fs gone rest plan) s there given)

      at : (o p : Option Disk) → Told Done o p → IsGoneFrom s (MayHold p)
      at o None done d image = absurd image
      at None (Some y) done d image = absurd done
      at (Some x) (Some y) done d image = goes_alone IsImage images_follow gone rest x s among d (subst (λ (z : Disk). IsImage z d) done image)

  pub pruned_by : (a mid b : Option Disk) (r : Result ℕ PruningFault) → Planned a → mid ≡ a → IfOk r (λ count. count ≡ length gone) → OnOk r (Told Done mid b)
      → (fs now : Files) → told_files a ≡ Some fs → told_files b ≡ Some now → IfOk r (λ count. IsPruned keep count fs now)
  pruned_by a mid b (Err fault) planned same count told fs now is end = tt
  pruned_by a mid b (Ok n) planned same count told fs now is end =
      by_both (IsPruned keep n) Done a b (moved Done a mid b (same, told)) (λ x y from to done.
      let plan = planned (files x) (ap told_files from) in
      let loses : Loses gone rest (files x) (files y) = subst (λ (d : Disk). Loses gone rest (files x) (files d)) (sym done) (prune_makes gone rest x) in
      let many : length (earlier keep plan.numbers) ≡ n = sym (count ∙ (ap length plan.gone_are ∙ length-map (earlier keep plan.numbers) Commit)) in
      subst (λ (k : ℕ). IsPruned keep k (files x) (files y)) many (is_pruned keep (files x) gone rest plan (files y) loses)) fs now is end

  pub kept_by : (a mid b : Option Disk) (r : Result ℕ PruningFault) → Planned a → mid ≡ a → OnOk r (Told Done mid b)
      → (fs now : Files) → told_files a ≡ Some fs → told_files b ≡ Some now → AreKept fs (MayHold a) → OnOk r (AreKept now (MayHold b))
  kept_by a mid b (Err fault) planned same told fs now is end kept = tt
  kept_by a mid b (Ok n) planned same told fs now is end kept =
      by_both (λ f c. AreKept f (MayHold a) → AreKept c (MayHold b)) Done a b (moved Done a mid b (same, told)) (λ x y from to done before.
      let plan = planned (files x) (ap told_files from) in
      let image : AreKept (files x) (IsImage x) = subst (λ (o : Option Disk). AreKept (files x) (MayHold o)) from before in
      let after = prune_keeps IsImage images_follow gone rest x (can_prune keep (files x) gone rest plan) image in
      subst (λ (o : Option Disk). AreKept (files y) (MayHold o)) (sym to) (subst (λ (d : Disk). AreKept (files d) (IsImage d)) (sym done) after)) fs now is end kept

  pub paused_by : (a mid b : Option Disk) → Planned a → Moved (Pauses (prune_steps gone rest)) a mid b
      → (fs now : Files) → told_files a ≡ Some fs → told_files b ≡ Some now → AreKept fs (MayHold a) → AreKeptBut keep fs now (MayHold b)
  paused_by a mid b planned m fs now is end kept =
      by_both (λ f c. AreKept f (MayHold a) → AreKeptBut keep f c (MayHold b)) (Pauses (prune_steps gone rest)) a b (moved (Pauses (prune_steps gone rest)) a mid b m) (λ x y from to pauses before.
      let plan = planned (files x) (ap told_files from) in
      let image : AreKept (files x) (IsImage x) = subst (λ (o : Option Disk). AreKept (files x) (MayHold o)) from before in
      let after : AreKeptBeside (files x) gone (files y) (IsImage y) = pauses_keep IsImage images_follow gone rest x y (can_prune keep (files x) gone rest plan) image pauses in
      subst (λ (o : Option Disk). AreKeptBut keep (files x) (files y) (MayHold o)) (sym to) (record {
        kept = after.kept;
        only = λ d of s some. only (files x) (files y) plan s d (after.only d of s some);
      })) fs now is end kept
    where
      only : (f c : Files) → IsPlan keep f gone rest → (s : ℕ) (d : Files) → IsSome (c (Commit s)) ⊎ (IsAmong gone (Commit s) × IsWholeAs s f d) → IsSome (c (Commit s)) ⊎ (IsGivenUp keep f s × IsWholeAs s f d)
      only f c plan s d (inl there) = inl there
      only f c plan s d (inr beside) = inr (given_up f plan s beside.0, beside.1)

-- ---- refusals

pub never_damaged : {A T : Type 0} (r : Result T PruningFault) (d : Damaged) → IfErr r IsOutside → r ≡ Err (pruning.Damaged d) → A
never_damaged (Ok x) d outside is = absurd cc
never_damaged (Err fault) d (inl store) is = absurd cc
never_damaged (Err fault) d (inr memory) is = absurd cc
