-- The disk of a run that keeps all commits, or so many of the latest, from round to round and over a commit.
use Rattle.std.proofs.Common.{◌≡◌, ◌⊎◌, inl, inr, ℕ, ◌+◌, ◌*◌, ◌==◌, ◌<◌, ◌≤◌, ◌^◌, Bool, true, false, List, [], ◌++◌, length, take, Some, None, refl, sym, ap, subst, ◌∙◌, arith}
use Rattle.std.specs.Prelude.{Option, IfSome, IsSome, IsSomeAnd}
use Rattle.std.proofs.lemmas.Bool.{eqb-true, eq-eqb}
use Rattle.std.proofs.lemmas.List.{length-append}
use Rattle.ix_base.specs.declared.file_name.FileName.TheVariants.{Commit}
use Rattle.ix_outside.specs.Calls.{LeavesOnly}
use Rattle.ix_outside.specs.Crash.{MayHold}
use Rattle.ix_outside.specs.Disk.{Disk, Told, told_files}
use Rattle.ix_outside.specs.Files.{Files, Changes}
use Rattle.ix_outside.specs.Images.{Follows, Reaches}
use Rattle.commit_point.proofs.StepLaws.{goes_then}
use Rattle.commit_point.specs.Holds.{HasHead, Pairs}
use Rattle.commit_point.specs.declared.heads.Head.{Head}
use Rattle.commit_point.specs.Steps.{KeepsMade, MakesCommits, OnlyCommits}
use Rattle.commit_pruning.specs.Pruning.{MayBePruned}
use Rattle.op_script.specs.declared.script.Line.{Line}
use Rattle.row_fates.specs.Fate.{Numbered}
use Rattle.index_writer.specs.declared.round.RoundEnd.{RoundEnd}
use Rattle.index_writer.specs.declared.state.State.{State}
use Rattle.index_writer.specs.Ready.{CanBePending, IsReady, IsStored}
use Rattle.index_writer.specs.Standing.{Settles}
use Rattle.index_writer.specs.Storing.{Commits, GoesOn, MayCommit, on_commit}
use Rattle.run_log.specs.Headline.{Given, commit_numbers}
use Rattle.index_run.specs.Doing.{CanBegin, IsWriterOn}
use Rattle.index_run.specs.Driving.{IsStoppedBy}
use Rattle.index_run.specs.Keeping.{AreSpelled}
use Rattle.index_run.specs.KeptDisk.{BeginsOnLast, IsDiskBy, IsDiskKeeping, IsDiskLeft, KeepLaws, StandsLeft}
use Rattle.index_run.specs.Leaving.{CommitLaws, IsDiskAfter, IsNextCommit, due_pairs, first_numbers}
use Rattle.index_run.specs.Merged.{EndsMerged}
use Rattle.index_run.proofs.DiskAfter.{changed, crash_commit, crash_longer, disk_commit, disk_count, disk_longer, disk_round, disk_same, disk_start, same_stored, some_longer, some_onto, standing_commit, the_files}
use Rattle.index_run.proofs.DiskLeft.{left_commit, left_crash_commit, left_crash_longer, left_longer, left_other, left_some_longer, left_start, left_stopped, some_standing}
use Rattle.index_run.proofs.OneLeft.{one_commit, one_crash}
use Rattle.index_run.proofs.RunEnds.{files_commit, stops_files}

-- the next id when the run began isn't above that since the last commit, which leaves room
pub by_low : (keep : Option ℕ) (first : State) (log : List Line) (count : ℕ) (w : State) (start now : Option Disk)
    → IsDiskBy keep first log count w start now → first.published.next_id ≤ w.since
by_low None first log count w start now disk = disk.low
by_low (Some k) first log count w start now disk = disk.low

-- a number that is pending is above the last commit's
pub pending_above : (w : State) (s : ℕ) → IsReady w → w.pending ≡ Some s → w.last < w.published.upto
pending_above w s ready pending =
    let can : CanBePending w s = subst (λ (o : Option ℕ). IfSome o (CanBePending w)) pending ready.pending in
    omega (arith, can.0, can.1)

-- ---- what commit files spell

-- a commit's own file is in the grammar, and every other one is as before
commit_spelled : (pairs : Pairs) (w v : State) (old m n : Files) → Commits pairs w v m n → AreSpelled old m → AreSpelled old n
commit_spelled pairs w v old m n c spelled t there = by (t == w.published.upto) refl
  where
    by : (b : Bool) → (t == w.published.upto) ≡ b → (n (Commit t) ≡ old (Commit t)) ⊎ ((head : Head) × HasHead n t head)
    by true is =
        let own : w.published.upto ≡ t = sym (eqb-true t w.published.upto is) in
        inr (subst (λ (s : ℕ). (head : Head) × HasHead n s head) own (c.made.has_pairs.0, c.made.has_pairs.1))
    by false is =
        let same : n (Commit t) ≡ m (Commit t) = c.made.elsewhere (Commit t) (λ e. let at = eq-eqb t w.published.upto e in cc) in
        let was : IsSome (m (Commit t)) = subst (λ (o : Option (List ℕ)). IsSome o) same there in
        elim (spelled t was) [
          | inl as_before ↦ inl (same ∙ as_before)
          | inr found ↦ inr (found.0, record { file = same ∙ found.1.file; number = found.1.number; fits = found.1.fits })
        ]

-- where commits may have been given up, each commit file that is left is as before
pub left_spelled : (keep : ℕ) (old m n : Files) → MayBePruned keep m n → AreSpelled old m → AreSpelled old n
left_spelled keep old m n left spelled t there =
    elim (left.each t (left.only t there)) [
      | inl none ↦ absurd cc
      | inr whole ↦
          let same : n (Commit t) ≡ m (Commit t) = whole (Commit t) (inl refl) in
          elim (spelled t (left.only t there)) [
            | inl as_before ↦ inl (same ∙ as_before)
            | inr found ↦ inr (found.0, record { file = same ∙ found.1.file; number = found.1.number; fits = found.1.fits })
          ]
    ]

-- ---- at the beginning, and in another state

pub by_start : KeepLaws → (keep : Option ℕ) → IfSome keep (λ k. 1 ≤ k) → (first : State) (start : Option Disk) → CanBegin first
    → IsDiskBy keep first [] 0 first start start
by_start laws None some first start can = disk_start first start can
by_start laws (Some k) some first start can = record {
  laws = laws;
  some = some;
  low = omega (arith, can.since);
  high = omega (arith, can.since);
  spelled = λ old told. subst (λ (o : Option Files). IsSomeAnd o (AreSpelled old)) (sym told) (λ s there. inl refl);
  left = λ old begins. left_start k first old start can begins;
}

keeping_other : (keep : ℕ) (first : State) (log : List Line) (count : ℕ) (w v : State) (start now : Option Disk)
    → ((files : Files) → IsStored files w → IsStored files v) → v.last ≡ w.last → v.since ≡ w.since
    → IsDiskKeeping keep first log count w start now → IsDiskKeeping keep first log count v start now
keeping_other keep first log count w v start now stored last since disk = record {
  laws = disk.laws;
  some = disk.some;
  low = omega (arith, disk.low, since);
  high = omega (arith, disk.high, since);
  spelled = disk.spelled;
  left = λ old begins. left_other disk.laws keep first log count w v old start now stored last since (disk.left old begins);
}

pub by_same : (keep : Option ℕ) (first : State) (log : List Line) (count : ℕ) (w v : State) (start now : Option Disk)
    → v.published ≡ w.published → v.written ≡ w.written → v.last ≡ w.last → v.since ≡ w.since
    → IsDiskBy keep first log count w start now → IsDiskBy keep first log count v start now
by_same None first log count w v start now published written last since disk =
    disk_same first log count w v start now published written last since disk
by_same (Some k) first log count w v start now published written last since disk =
    keeping_other k first log count w v start now (λ files h. same_stored files w v published written h) last since disk

-- ---- a round, and lines that have the same commits

pub by_round : (keep : Option ℕ) (first old new : State) (log more : List Line) (told : List (List Numbered)) (end : RoundEnd)
    (count : ℕ) (start now : Option Disk) → EndsMerged told end old new → count ≤ length log
    → IsDiskBy keep first log count old start now → IsDiskBy keep first (log ++ more) count new start now
by_round None first old new log more told end count start now e le disk =
    disk_round first old new log more told end count start now e le disk
by_round (Some k) first old new log more told end count start now e le disk =
    keeping_other k first (log ++ more) count old new start now e.stored e.last e.since (record {
      laws = disk.laws;
      some = disk.some;
      low = disk.low;
      high = omega (arith, disk.high, length-append log more);
      spelled = disk.spelled;
      left = λ files begins. left_longer k first log more count old files start now le (disk.left files begins);
    })

pub by_count : (keep : Option ℕ) (first : State) (log : List Line) (count more : ℕ) (w : State) (start now : Option Disk)
    → commit_numbers first.published.upto (take count log) ≡ commit_numbers first.published.upto (take more log)
    → IsDiskBy keep first log count w start now → IsDiskBy keep first log more w start now
by_count None first log count more w start now same disk = disk_count first log count more w start now same disk
by_count (Some k) first log count more w start now same disk = record {
  laws = disk.laws;
  some = disk.some;
  low = disk.low;
  high = disk.high;
  spelled = disk.spelled;
  left = λ old begins.
      let d = disk.left old begins in
      record {
        files = subst (λ (ns : List ℕ). IsSomeAnd (told_files now) (StandsLeft k first log ns w old)) same d.files;
        kept = d.kept;
        crash = d.crash;
        each = d.each;
      };
}

-- ---- a commit

pub by_commit : (keep : Option ℕ) (first w v : State) (log : List Line) (count : ℕ) (start mid now : Option Disk) → CommitLaws
    → CanBegin first → IsWriterOn first log w → w.last < w.published.upto → count ≤ length log
    → IsNextCommit first log count w.published.upto
    → v ≡ on_commit w → w.published.next_id ≤ 2 ^ 62
    → (w.published.next_id ≤ 2 ^ 62 → Changes (Commits (due_pairs first log w) w v) (told_files mid) (told_files now))
    → (w.published.next_id ≤ 2 ^ 62 → Follows (Commits (due_pairs first log w) w v) (MayHold mid) (MayHold now))
    → (w.published.next_id ≤ 2 ^ 62 → Settles w mid now)
    → (w.published.next_id ≤ 2 ^ 62 → LeavesOnly mid now (Reaches (MayCommit (due_pairs first log w) w) (MayHold mid)))
    → Told OnlyCommits mid now
    → ((files : Files) → told_files mid ≡ Some files → GoesOn files w → Told KeepsMade mid now)
    → IsDiskBy keep first log count w start mid → IsDiskBy keep first log (length log) v start now
by_commit None first w v log count start mid now laws begun on below le numbers is room made acknowledged settled crash only standing disk =
    disk_commit first w v log count start mid now laws begun on le numbers is room made acknowledged settled crash only standing disk
by_commit (Some k) first w v log count start mid now laws begun on below le numbers is room made acknowledged settled crash only standing disk =
    let since : v.since ≡ w.published.next_id = ap (λ (s : State). s.since) is in
    record {
      laws = disk.laws;
      some = disk.some;
      low = omega (arith, since, on.low);
      high = omega (arith, since, on.high);
      spelled = λ old told.
          let mid_is = the_files (told_files mid) (AreSpelled old) (disk.spelled old told) in
          some_onto (told_files now) (Commits (due_pairs first log w) w v mid_is.0) (AreSpelled old)
          (λ n c. commit_spelled (due_pairs first log w) w v old mid_is.0 n c mid_is.2)
          (changed (Commits (due_pairs first log w) w v) (told_files mid) (told_files now) mid_is.0 mid_is.1 (made room));
      left = λ old begins.
          left_commit disk.laws k first w v log count old start mid now disk.some laws begun begins on below le numbers is
          (made room) (settled room) (crash room) disk.low disk.high (disk.left old begins);
    }

-- ---- a run that stopped

pub stopped_done : (keep : Option ℕ) (first w : State) (log rest : List Line) (count : ℕ) (start now : Option Disk) → count ≤ length log
    → IsDiskBy keep first log count w start now → IsStoppedBy keep first (log ++ rest) start now
stopped_done None first w log rest count start now le disk = record {
  crash = crash_longer first log rest start now disk.crash;
  files = λ g told on. stops_files g first w log rest count start now on le told disk;
  only = disk.only;
  standing = disk.standing;
}
stopped_done (Some k) first w log rest count start now le disk = λ old begins.
    let d = disk.left old begins in
    record {
      files = some_onto (told_files now) (StandsLeft k first log (first_numbers first log count) w old) _
          (λ f h. (h.was, some_longer first log rest old h.was (some_standing first log count w old h.was le disk.high h.stands), h.left))
          d.files;
      crash = λ are. left_crash_longer k first log rest old start now (d.crash are);
      each = λ t there kept. one_crash k t first log rest old start now (d.each t there kept).crash;
    }

pub stopped_written : (keep : Option ℕ) (first w : State) (log rest : List Line) (count : ℕ) (start mid now : Option Disk) → CommitLaws
    → CanBegin first → IsWriterOn first log w → w.last < w.published.upto → count ≤ length log
    → IsNextCommit first log count w.published.upto
    → Changes (MayCommit (due_pairs first log w) w) (told_files mid) (told_files now)
    → LeavesOnly mid now (Reaches (MayCommit (due_pairs first log w) w) (MayHold mid)) → Told OnlyCommits mid now
    → ((files : Files) → told_files mid ≡ Some files → GoesOn files w → Told KeepsMade mid now)
    → IsDiskBy keep first log count w start mid → IsStoppedBy keep first (log ++ rest) start now
stopped_written None first w log rest count start mid now laws begun on below le numbers may crashed only standing disk = record {
  crash = crash_longer first log rest start now (crash_commit first w log count start mid now laws begun on le numbers crashed disk);
  files = λ g told given. files_commit g first w log rest count start mid now laws begun given on told le numbers may disk;
  only = goes_then (λ step older. MakesCommits step) start mid now disk.only only;
  standing = standing_commit first w log count start mid now standing disk;
}
stopped_written (Some k) first w log rest count start mid now laws begun on below le numbers may crashed only standing disk = λ old begins.
    let d = disk.left old begins in
    record {
      files = some_onto (told_files now) _ _ (λ f left. left_some_longer k first log rest old f left)
          (left_stopped k first w log count old start mid now disk.some laws begun begins on below le numbers may disk.low disk.high d);
      crash = λ are.
          left_crash_longer k first log rest old start now
          (left_crash_commit k first w log count old start mid now disk.laws disk.some laws begun begins on below le numbers crashed disk.low
          disk.high d are);
      each = λ t there kept.
          one_crash k t first log rest old start now
          (one_commit k t first w log count old start mid now laws begun begins.goes_on there on disk.low numbers crashed
          (d.each t there kept)).crash;
    }
