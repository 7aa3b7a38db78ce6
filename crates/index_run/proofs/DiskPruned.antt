-- The disk of a run whose old commits are given up, behind a commit of it.
use Rattle.std.proofs.Common.{◌≡◌, ℕ, ◌≤◌, List, ◌++◌, length, Some, refl, sym, ap, subst}
use Rattle.std.specs.Prelude.{Option, IsSome, IsSomeAnd}
use Rattle.ix_base.specs.declared.file_name.FileName.TheVariants.{Commit}
use Rattle.ix_outside.specs.Calls.{LeavesOnly}
use Rattle.ix_outside.proofs.CallLaws.{leaves_then}
use Rattle.ix_outside.specs.Crash.{MayHold}
use Rattle.ix_outside.specs.Disk.{Disk, Told, told_files}
use Rattle.ix_outside.specs.Files.{Files}
use Rattle.commit_point.specs.Holds.{AreKept}
use Rattle.commit_pruning.specs.Pruning.{IsKeptIn, MayBePruned, OnlyDeletes}
use Rattle.op_script.specs.declared.script.Line.{Line}
use Rattle.index_writer.specs.declared.state.State.{State}
use Rattle.index_writer.specs.Ready.{IsStored}
use Rattle.index_writer.specs.Standing.{StandsOnLast}
use Rattle.index_writer.specs.Storing.{GoesOn}
use Rattle.index_run.specs.Keeping.{AreSpelled, LeftOf}
use Rattle.index_run.specs.KeptDisk.{BeginsOnLast, IsDiskKeeping, IsDiskLeft, LeftSome, StandsLeft}
use Rattle.index_run.specs.Leaving.{HasSomeFront, first_numbers}
use Rattle.index_run.proofs.DiskAfter.{some_longer, the_files}
use Rattle.index_run.proofs.DiskBy.{left_spelled}
use Rattle.index_run.proofs.DiskLeft.{left_crash_longer, left_prune, some_standing}
use Rattle.index_run.proofs.LeftCommits.{left_then}
use Rattle.index_run.proofs.OneLeft.{EndsPrune, PrunesEach, one_crash, pruned_one_crash, some_none}
use Rattle.index_run.proofs.Pruning.{told_on}

-- What a call did by which a writer gave old commits up, or tried to.
pub record GivesUp (keep : ℕ) (w v : State) (mid now : Option Disk) : Type 0 where
  pub last : v.last ≡ w.last
  pub since : v.since ≡ w.since
  pub stored : (files : Files) → IsStored files w → IsStored files v
  pub left : (m n : Files) → told_files mid ≡ Some m → told_files now ≡ Some n → MayBePruned keep m n
  pub only : Told OnlyDeletes mid now
  pub crash : (m : Files) → told_files mid ≡ Some m → AreKept m (MayHold mid) → LeavesOnly mid now (MayBePruned keep m)
  pub each : PrunesEach keep mid now
  pub goes_on : (m n : Files) → told_files mid ≡ Some m → told_files now ≡ Some n → GoesOn m w → StandsOnLast m w
      → GoesOn n v × StandsOnLast n v

module _ (keep : ℕ) (first w v : State) (log : List Line) (count : ℕ) (start mid now : Option Disk) (gives : GivesUp keep w v mid now)
    (within : count ≤ length log) (disk : IsDiskKeeping keep first log count w start mid) (old : Files)
    (begins : BeginsOnLast first old start) where
  abbrev here : IsDiskLeft keep first log count w old start mid
  here = disk.left old begins

  pub found : (f : Files) × (told_files mid ≡ Some f) × StandsLeft keep first log (first_numbers first log count) w old f
  found = the_files (told_files mid) (StandsLeft keep first log (first_numbers first log count) w old) here.files

  abbrev m : Files
  m = found.0

  told : told_files mid ≡ Some m
  told = found.1

  stands : StandsLeft keep first log (first_numbers first log count) w old m
  stands = found.2

  pub after : (f : Files) × (told_files now ≡ Some f)
  after = told_on OnlyDeletes mid now m gives.only told

  abbrev n : Files
  n = after.0

  -- the call was acknowledged
  pub pruned_left : (AreKept m (MayHold mid) → AreKept n (MayHold now)) → EndsPrune keep mid now
      → IsDiskLeft keep first log count v old start now
  pruned_left kept ends =
      left_prune keep first log count w v old start mid now m n told after.1 (gives.left m n told after.1)
      (gives.goes_on m n told after.1 stands.goes_on stands.on_last) gives.since gives.stored gives.last kept
      (gives.crash m told) gives.each ends within disk.high here

  -- it wasn't, and the run stops
  pub pruned_files : (rest : List Line) → IsSomeAnd (told_files now) (LeftSome keep first (log ++ rest) old)
  pruned_files rest =
      subst (λ (o : Option Files). IsSomeAnd o (LeftSome keep first (log ++ rest) old)) (sym after.1) (
        stands.was,
        some_longer first log rest old stands.was (some_standing first log count w old stands.was within disk.high stands.stands),
        left_then keep stands.was m n stands.left (gives.left m n told after.1),
      )

  pub pruned_crash : (rest : List Line) → AreKept old (MayHold start) → LeavesOnly start now (LeftSome keep first (log ++ rest) old)
  pruned_crash rest are =
      left_crash_longer keep first log rest old start now
      (leaves_then start mid now (LeftSome keep first log old) (MayBePruned keep m) (LeftSome keep first log old) (here.crash are)
      (gives.crash m told (here.kept are m told)) (λ c left. left)
      (λ c left. (
        stands.was,
        some_standing first log count w old stands.was within disk.high stands.stands,
        left_then keep stands.was m c stands.left left,
      )))

  pub pruned_each : (rest : List Line) (t : ℕ) → IsSome (old (Commit t)) → IsKeptIn t old (MayHold start)
      → LeavesOnly start now (LeftOf keep t (HasSomeFront first (log ++ rest) old))
  pruned_each rest t there kept =
      one_crash keep t first log rest old start now
      (pruned_one_crash keep t (HasSomeFront first log old) old stands.was m start mid now (some_none first log old) there told
      (some_standing first log count w old stands.was within disk.high stands.stands) stands.left gives.each
      (here.each t there kept))

-- each commit file that is left is as it was at the beginning, or in the grammar
pub pruned_spelled : (keep : ℕ) (first w v : State) (log : List Line) (count : ℕ) (start mid now : Option Disk) → GivesUp keep w v mid now
    → IsDiskKeeping keep first log count w start mid → (old : Files) → told_files start ≡ Some old
    → IsSomeAnd (told_files now) (AreSpelled old)
pruned_spelled keep first w v log count start mid now gives disk old told =
    let found = the_files (told_files mid) (AreSpelled old) (disk.spelled old told) in
    let after = told_on OnlyDeletes mid now found.0 gives.only found.1 in
    subst (λ (o : Option Files). IsSomeAnd o (AreSpelled old)) (sym after.1)
    (left_spelled keep old found.0 after.0 (gives.left found.0 after.0 found.1 after.1) found.2)
