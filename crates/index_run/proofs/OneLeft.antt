-- One commit that was there and was kept, whatever became of the others, in a run that gives old commits up.
use Rattle.std.proofs.Common.{◌≡◌, inl, inr, ℕ, ◌+◌, ◌*◌, ◌≤◌, List, [], ◌++◌, Some, None, refl, sym, subst, ◌∙◌, arith}
use Rattle.std.specs.Prelude.{Option, IsSome}
use Rattle.ix_base.specs.declared.file_name.FileName.{FileName}
use Rattle.ix_base.specs.declared.file_name.FileName.TheVariants.{Commit}
use Rattle.ix_outside.specs.Calls.{LeavesOnly}
use Rattle.ix_outside.proofs.CallLaws.{leaves_less, leaves_none, leaves_now, leaves_then, reads_may_hold}
use Rattle.ix_outside.specs.Crash.{MayHold}
use Rattle.ix_outside.specs.Disk.{Disk, told_files}
use Rattle.ix_outside.specs.Files.{Files}
use Rattle.ix_outside.specs.Images.{Reaches}
use Rattle.commit_point.proofs.KeptLaws.{lists_there}
use Rattle.commit_point.specs.Holds.{IsFileOf}
use Rattle.commit_pruning.specs.Pruning.{IsGivenUp, IsGoneFrom, IsKeptIn, IsWholeAs, IsWholeOrGivenUp, MayBePruned, Stays}
use Rattle.op_script.specs.declared.script.Line.{Line}
use Rattle.index_writer.specs.declared.state.State.{State}
use Rattle.index_writer.specs.Storing.{GoesOn, MayCommit}
use Rattle.index_run.specs.Doing.{CanBegin, IsWriterOn}
use Rattle.index_run.specs.Keeping.{LeftOf, StaysOrGone}
use Rattle.index_run.specs.KeptDisk.{IsOneLeft}
use Rattle.index_run.specs.Leaving.{CommitLaws, HasSomeFront, IsNextCommit, due_pairs, first_numbers}
use Rattle.index_run.proofs.DiskAfter.{comes_next, some_longer}
use Rattle.index_run.proofs.LeftCommits.{given_before, whole_then}
use Rattle.index_run.proofs.MadeCommits.{ComesNext, before_next, file_before, front_none, same_below}

-- ---- at the beginning, and of other files

pub one_start : (keep t : ℕ) (P : Files → Type 0) (old : Files) (start : Option Disk) → P old
    → IsKeptIn t old (MayHold start) → IsOneLeft keep t P old start start
one_start keep t P old start has kept = record {
  here = inl kept;
  crash = leaves_none start (LeftOf keep t P) (λ c image. (old, has, inl (kept c image)));
}

-- the same of files of which less is said
pub one_less : (keep t : ℕ) (P Q : Files → Type 0) (old : Files) (start now : Option Disk) → ((f : Files) → P f → Q f)
    → IsOneLeft keep t P old start now → IsOneLeft keep t Q old start now
one_less keep t P Q old start now onto one = record {
  here = by one.here;
  crash = leaves_less start now (LeftOf keep t P) (LeftOf keep t Q) one.crash
      (λ c left. (left.0, onto left.0 left.1, left.2));
}
  where
    by : StaysOrGone keep t P old now → StaysOrGone keep t Q old now
    by (inl kept) = inl kept
    by (inr gone) = inr ((gone.0.0, onto gone.0.0 gone.0.1, gone.0.2), gone.1)

-- what a crash left of it, of a log that goes on
pub one_crash : (keep t : ℕ) (first : State) (log more : List Line) (old : Files) (start now : Option Disk)
    → LeavesOnly start now (LeftOf keep t (HasSomeFront first log old))
    → LeavesOnly start now (LeftOf keep t (HasSomeFront first (log ++ more) old))
one_crash keep t first log more old start now crash =
    leaves_less start now (LeftOf keep t (HasSomeFront first log old))
    (LeftOf keep t (HasSomeFront first (log ++ more) old)) crash
    (λ c left. (left.0, some_longer first log more old left.0 left.1, left.2))

-- ---- calls that write none of its files

abbrev Spares : ℕ → Files → Files → Files → Type 0
Spares t old d c = (name : FileName) → IsFileOf old t name → c name ≡ d name

one_spared : (keep t : ℕ) (P : Files → Type 0) (old : Files) (start mid now : Option Disk) → P old
    → LeavesOnly mid now (Reaches (Spares t old) (MayHold mid)) → IsOneLeft keep t P old start mid
    → IsOneLeft keep t P old start now
one_spared keep t P old start mid now has spares one = record {
  here = still one.here;
  crash = leaves_then start mid now (LeftOf keep t P) (Reaches (Spares t old) (MayHold mid)) (LeftOf keep t P)
      one.crash spares (λ c left. left) (λ c left. after c left one.here);
}
  where
    after : (c : Files) → Reaches (Spares t old) (MayHold mid) c → StaysOrGone keep t P old mid → LeftOf keep t P c
    after c left (inl kept) = (old, has, inl (λ name of. left.2 name of ∙ kept left.0 left.1 name of))
    after c left (inr gone) = (gone.0.0, gone.0.1, inr (gone.0.2, left.2 (Commit t) (inl refl) ∙ gone.1 left.0 left.1))

    reached : (c : Files) → MayHold now c → Reaches (Spares t old) (MayHold mid) c
    reached c image = leaves_now mid now (Reaches (Spares t old) (MayHold mid)) spares c image

    still : StaysOrGone keep t P old mid → StaysOrGone keep t P old now
    still (inl kept) = inl (λ c image name of.
        let left = reached c image in left.2 name of ∙ kept left.0 left.1 name of)
    still (inr gone) = inr (
      gone.0,
      λ c image.
          let left = reached c image in left.2 (Commit t) (inl refl) ∙ gone.1 left.0 left.1,
    )

-- ---- a commit

-- the old files have the first of the log's commits: none of them
pub some_none : (first : State) (log : List Line) (old : Files) → HasSomeFront first log old old
some_none first log old =
    some_longer first [] log old old (0, omega arith, front_none first [] (first.published.next_id + 2 * 0) old)

pub one_commit : (keep t : ℕ) (first w : State) (log : List Line) (count : ℕ) (old : Files)
    (start mid now : Option Disk)
    → CommitLaws → CanBegin first → GoesOn old first → IsSome (old (Commit t)) → IsWriterOn first log w
    → first.published.next_id ≤ w.since → IsNextCommit first log count w.published.upto
    → LeavesOnly mid now (Reaches (MayCommit (due_pairs first log w) w) (MayHold mid))
    → IsOneLeft keep t (HasSomeFront first log old) old start mid
    → IsOneLeft keep t (HasSomeFront first log old) old start now
one_commit keep t first w log count old start mid now laws begun goes there on low numbers crash one =
    one_spared keep t (HasSomeFront first log old) old start mid now (some_none first log old)
    (leaves_less mid now (Reaches (MayCommit (due_pairs first log w) w) (MayHold mid))
    (Reaches (Spares t old) (MayHold mid)) crash
    (λ c left. (left.0, left.1, spared left.0 c left.2)))
    one
  where
    next : ComesNext first log (first_numbers first log count) w
    next = comes_next first w log count laws begun on low numbers

    spared : (d c : Files) → MayCommit (due_pairs first log w) w d c → Spares t old d c
    spared d c may name of =
        before_next first log (first_numbers first log count) w d d c next (same_below w on.ready d c may.elsewhere)
        (λ n is. refl) name (file_before first old t name goes there of)

-- ---- old commits are given up

-- What a call by which old commits are given up does to each of them by itself, at any moment.
pub record PrunesEach (keep : ℕ) (mid now : Option Disk) : Type 0 where
  pub each : (m : Files) (t : ℕ) → told_files mid ≡ Some m → IsSome (m (Commit t)) → IsKeptIn t m (MayHold mid)
      → LeavesOnly mid now (IsWholeOrGivenUp keep t m)
  pub none : (t : ℕ) → IsGoneFrom t (MayHold mid) → LeavesOnly mid now (λ d. d (Commit t) ≡ None)

-- The call was acknowledged.
pub record EndsPrune (keep : ℕ) (mid now : Option Disk) : Type 0 where
  pub found : (m n : Files) (t : ℕ) → told_files mid ≡ Some m → told_files now ≡ Some n → IsSome (m (Commit t))
      → IsWholeOrGivenUp keep t m n
  pub gone : (m : Files) (t : ℕ) → told_files mid ≡ Some m → IsSome (m (Commit t)) → IsGivenUp keep m t
      → IsGoneFrom t (MayHold now)
  pub only : (m n : Files) (t : ℕ) → told_files mid ≡ Some m → told_files now ≡ Some n → IsSome (n (Commit t))
      → Stays keep m t

-- a commit that is whole was there
there_as : (t : ℕ) (a b : Files) → IsWholeAs t a b → IsSome (a (Commit t)) → IsSome (b (Commit t))
there_as t a b whole there = subst (λ (o : Option (List ℕ)). IsSome o) (sym (whole (Commit t) (inl refl))) there

-- its files are those that it had
file_back : (t : ℕ) (a b : Files) (name : FileName) → IsWholeAs t a b → IsFileOf b t name → IsFileOf a t name
file_back t a b name whole (inl is) = inl is
file_back t a b name whole (inr h) = inr (h.0, lists_there b a t h.0 (sym (whole (Commit t) (inl refl))) h.1, h.2)

-- where each image has the bytes that it had, each has those that reads give
kept_as : (t : ℕ) (a b : Files) (images : Files → Type 0) → IsWholeAs t a b → IsKeptIn t a images → IsKeptIn t b images
kept_as t a b images whole kept d image name of =
    let before = file_back t a b name whole of in kept d image name before ∙ sym (whole name before)

-- A commit of the old files, where the store told what is left of such files, and then old commits were given up.
module _ (keep t : ℕ) (P : Files → Type 0) (old was m : Files) (start mid now : Option Disk) (has : P old)
    (there : IsSome (old (Commit t))) (told : told_files mid ≡ Some m) (stood : P was) (left : MayBePruned keep was m)
    (prunes : PrunesEach keep mid now) (one : IsOneLeft keep t P old start mid) where
  whole_in : IsKeptIn t old (MayHold mid) → IsWholeAs t old m
  whole_in kept = kept m (reads_may_hold mid m told)

  there_in : IsKeptIn t old (MayHold mid) → IsSome (m (Commit t))
  there_in kept = there_as t old m (whole_in kept) there

  -- of one that is given up in what was told, such files say so too
  given_in : IsGivenUp keep m t → IsGivenUp keep was t
  given_in given = given_before keep was m t left.only given

  leaves : IsKeptIn t old (MayHold mid) → LeavesOnly mid now (IsWholeOrGivenUp keep t m)
  leaves kept = prunes.each m t told (there_in kept) (kept_as t old m (MayHold mid) (whole_in kept) kept)

  left_by : IsKeptIn t old (MayHold mid) → (c : Files) → IsWholeOrGivenUp keep t m c → LeftOf keep t P c
  left_by kept c (inl whole) = (old, has, inl (whole_then old m c t (whole_in kept) whole))
  left_by kept c (inr given) = (was, stood, inr (given_in given.0, given.1))

  leaves_by : StaysOrGone keep t P old mid → LeavesOnly mid now (LeftOf keep t P)
  leaves_by (inl kept) =
      leaves_less mid now (IsWholeOrGivenUp keep t m) (LeftOf keep t P) (leaves kept) (λ c found. left_by kept c found)
  leaves_by (inr gone) =
      leaves_less mid now (λ d. d (Commit t) ≡ None) (LeftOf keep t P) (prunes.none t gone.1)
      (λ c none. (gone.0.0, gone.0.1, inr (gone.0.2, none)))

  -- at any moment, also where they were not all given up
  pub pruned_one_crash : LeavesOnly start now (LeftOf keep t P)
  pruned_one_crash =
      leaves_then start mid now (LeftOf keep t P) (LeftOf keep t P) (LeftOf keep t P) one.crash (leaves_by one.here)
      (λ c found. found) (λ c found. found)

  -- one that is there still wasn't given up
  stays_in : (kept : IsKeptIn t old (MayHold mid)) → Stays keep m t → (c : Files) → IsWholeOrGivenUp keep t m c
      → IsWholeAs t old c
  stays_in kept stays c (inl whole) = whole_then old m c t (whole_in kept) whole
  stays_in kept stays c (inr given) = absurd (stays.not_given_up given.0)

  ends_by : EndsPrune keep mid now → (n : Files) → told_files now ≡ Some n → StaysOrGone keep t P old mid
      → StaysOrGone keep t P old now
  ends_by ends n told_n (inl kept) = by (ends.found m n t told told_n (there_in kept))
    where
      by : IsWholeOrGivenUp keep t m n → StaysOrGone keep t P old now
      by (inl whole) =
          let stays : Stays keep m t = ends.only m n t told told_n (there_as t m n whole (there_in kept)) in
          inl (λ c image.
          stays_in kept stays c (leaves_now mid now (IsWholeOrGivenUp keep t m) (leaves kept) c image))
      by (inr given) = inr ((was, stood, given_in given.0), ends.gone m t told (there_in kept) given.0)
  ends_by ends n told_n (inr gone) =
      inr (gone.0, λ c image. leaves_now mid now (λ d. d (Commit t) ≡ None) (prunes.none t gone.1) c image)

  -- once the call is acknowledged
  pub pruned_one : EndsPrune keep mid now → (n : Files) → told_files now ≡ Some n → IsOneLeft keep t P old start now
  pruned_one ends n told_n = record { here = ends_by ends n told_n one.here; crash = pruned_one_crash }
