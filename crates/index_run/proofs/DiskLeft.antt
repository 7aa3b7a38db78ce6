-- What a run leaves on the disk that gives up old commits as it goes on.
use Rattle.std.proofs.Common.{◌≡◌, ◌⊎◌, inl, inr, ℕ, ◌+◌, ◌*◌, ◌<◌, ◌≤◌, ◌^◌, List, [], ◌∷◌, ◌++◌, length, take, Some, true, false}
use Rattle.std.proofs.Common.{None, refl, sym, ap, subst, ◌∙◌, arith}
use Rattle.std.specs.Prelude.{Option, IsSome, IsSomeAnd}
use Rattle.std.proofs.lemmas.List.{length-append}
use Rattle.ix_outside.specs.Calls.{LeavesOnly}
use Rattle.ix_outside.proofs.CallLaws.{leaves_less, leaves_none, leaves_then}
use Rattle.ix_outside.specs.Crash.{MayHold}
use Rattle.ix_outside.specs.Disk.{Disk, Told, told_files}
use Rattle.ix_outside.specs.Files.{Files, Changes}
use Rattle.ix_outside.specs.Images.{Reaches}
use Rattle.segment_core.specs.LiveRows.{Lived}
use Rattle.commit_point.specs.declared.written.Written.{Written}
use Rattle.ix_base.specs.declared.file_name.FileName.{FileName}
use Rattle.ix_base.specs.declared.file_name.FileName.TheVariants.{Commit, Rows}
use Rattle.commit_point.proofs.KeptLaws.{lists_there, there_by}
use Rattle.commit_point.specs.Holds.{AreKept, IsAmong, IsFileOf, Lists, Pairs, names_of}
use Rattle.commit_point.specs.declared.heads.HeadSegment.{HeadSegment}
use Rattle.commit_point.specs.Writing as commit
use Rattle.commit_point.specs.Writing.{AreWritten, ComesAfter, IsOldId, IsWritten, entry_of, is_alive}
use Rattle.commit_pruning.specs.Pruning.{MayBePruned}
use Rattle.op_script.specs.declared.script.Line.{Line}
use Rattle.index_writer.specs.declared.state.State.{State}
use Rattle.index_writer.specs.Ready.{IsReady, IsStored, NewIdsFrom}
use Rattle.index_writer.specs.Standing.{Settles, StandsOnLast}
use Rattle.index_writer.specs.Storing.{Commits, GoesOn, MayCommit, on_commit, renewed}
use Rattle.index_run.specs.Doing.{CanBegin, IsWriterOn}
use Rattle.index_run.specs.KeptDisk.{BeginsOnLast, IsDiskBy, IsDiskKeeping, IsDiskLeft, KeepLaws, LeftSome, StandsLeft}
use Rattle.index_run.specs.Leaving.{CommitLaws, HasSomeFront, IsNextCommit, Stands, due_pairs, first_numbers}
use Rattle.index_run.proofs.DiskAfter.{changed, comes_next, same_goes_on, some_crash, some_longer, some_onto, stands_longer, stands_none, stands_other, the_files, all_numbers}
use Rattle.index_run.proofs.LeftCommits.{AliveSame, CanFollowLeft, RowsStay, alive_over, latest_stays, left_commits, left_crash, left_none, left_then, over, segment_same}
use Rattle.index_run.proofs.LogNumbers.{numbers_front}
use Rattle.index_run.proofs.MadeCommits.{ComesNext, front_higher, old_ids, stands_commit}
use Rattle.index_run.proofs.OneLeft.{EndsPrune, PrunesEach, one_commit, one_less, one_start, pruned_one, some_none}

-- ---- what is left

-- where each commit is kept, an image is what may be left of the files
kept_left : (keep : ℕ) (files : Files) (disk : Option Disk) → AreKept files (MayHold disk) → (c : Files) → MayHold disk c → MayBePruned keep files c
kept_left keep files disk are c image = record {
  stays = λ t stays name of. are.kept c image t stays.there name of;
  each = λ t there. inr (λ name of. are.kept c image t there name of);
  only = are.only c image;
}

-- ---- at the beginning

pub left_start : (keep : ℕ) (first : State) (old : Files) (start : Option Disk) → CanBegin first → BeginsOnLast first old start
    → IsDiskLeft keep first [] 0 first old start start
left_start keep first old start can begins = record {
  files = subst (λ (o : Option Files). IsSomeAnd o (StandsLeft keep first [] [] first old)) (sym begins.told) (record {
    was = old;
    stands = stands_none first [] old;
    left = left_none keep old;
    goes_on = begins.goes_on;
    on_last = begins.on_last;
  });
  kept = λ are n told. let same : old ≡ n = (let both = sym begins.told ∙ told in cc) in subst (λ (f : Files). AreKept f (MayHold start)) same are;
  crash = λ are.
      leaves_none start (LeftSome keep first [] old)
      (λ c image. (old, some_none first [] old, kept_left keep old start are c image));
  each = λ t there kept. one_start keep t (HasSomeFront first [] old) old start (some_none first [] old) kept;
}

-- ---- another state

pub left_other : KeepLaws → (keep : ℕ) (first : State) (log : List Line) (count : ℕ) (w v : State) (old : Files) (start now : Option Disk)
    → ((files : Files) → IsStored files w → IsStored files v) → v.last ≡ w.last → v.since ≡ w.since
    → IsDiskLeft keep first log count w old start now → IsDiskLeft keep first log count v old start now
left_other laws keep first log count w v old start now stored last since disk =
    let numbers = first_numbers first log count in
    record {
      files = some_onto (told_files now) (StandsLeft keep first log numbers w old) (StandsLeft keep first log numbers v old)
          (λ f h. record {
            was = h.was;
            stands = stands_other first log numbers w v old h.was stored last since h.stands;
            left = h.left;
            goes_on = same_goes_on f w v (stored f) last since h.goes_on;
            on_last = laws.stay f w v last stored h.on_last;
          })
          disk.files;
      kept = disk.kept;
      crash = disk.crash;
      each = disk.each;
    }

-- ---- a longer log

pub left_some_longer : (keep : ℕ) (first : State) (log more : List Line) (old c : Files) → LeftSome keep first log old c
    → LeftSome keep first (log ++ more) old c
left_some_longer keep first log more old c left = (left.0, some_longer first log more old left.0 left.1, left.2)

pub left_longer : (keep : ℕ) (first : State) (log more : List Line) (count : ℕ) (w : State) (old : Files) (start now : Option Disk)
    → count ≤ length log → IsDiskLeft keep first log count w old start now → IsDiskLeft keep first (log ++ more) count w old start now
left_longer keep first log more count w old start now le disk =
    let numbers = first_numbers first log count in
    let longer = first_numbers first (log ++ more) count in
    let is : longer ≡ numbers = numbers_front first.published.upto count log more le in
    record {
      files = some_onto (told_files now) (StandsLeft keep first log numbers w old) (StandsLeft keep first (log ++ more) longer w old)
          (λ f h. record {
            was = h.was;
            stands = stands_longer first log more numbers longer w old h.was is h.stands;
            left = h.left;
            goes_on = h.goes_on;
            on_last = h.on_last;
          })
          disk.files;
      kept = disk.kept;
      crash = λ are.
          leaves_less start now (LeftSome keep first log old) (LeftSome keep first (log ++ more) old) (disk.crash are)
          (λ c left. left_some_longer keep first log more old c left);
      each = λ t there kept.
          one_less keep t (HasSomeFront first log old) (HasSomeFront first (log ++ more) old) old start now
          (λ f some. some_longer first log more old f some) (disk.each t there kept);
    }

-- the log's commits that stand are some of them
pub some_standing : (first : State) (log : List Line) (count : ℕ) (w : State) (old was : Files) → count ≤ length log
    → w.since ≤ first.published.next_id + 2 * length log → Stands first log (first_numbers first log count) w old was
    → HasSomeFront first log old was
some_standing first log count w old was le high stands = (
  count,
  le,
  front_higher first log (first_numbers first log count) w.since (first.published.next_id + 2 * length log) old was high stands.front,
)

-- ---- old commits are given up

pub left_prune : (keep : ℕ) (first : State) (log : List Line) (count : ℕ) (w v : State) (old : Files) (start mid now : Option Disk)
    → (m n : Files) → told_files mid ≡ Some m → told_files now ≡ Some n → MayBePruned keep m n
    → GoesOn n v × StandsOnLast n v → v.since ≡ w.since → ((files : Files) → IsStored files w → IsStored files v)
    → v.last ≡ w.last → (AreKept m (MayHold mid) → AreKept n (MayHold now))
    → (AreKept m (MayHold mid) → LeavesOnly mid now (MayBePruned keep m)) → PrunesEach keep mid now → EndsPrune keep mid now
    → count ≤ length log
    → w.since ≤ first.published.next_id + 2 * length log
    → IsDiskLeft keep first log count w old start mid → IsDiskLeft keep first log count v old start now
left_prune keep first log count w v old start mid now m n told_mid told_now pruned goes since stored last settled crash each ends le high disk = record {
  files = subst (λ (o : Option Files). IsSomeAnd o (StandsLeft keep first log numbers v old)) (sym told_now) (record {
    was = here.was;
    stands = stands_other first log numbers w v old here.was stored last since here.stands;
    left = left_then keep here.was m n here.left pruned;
    goes_on = goes.0;
    on_last = goes.1;
  });
  kept = λ are f told. let same : n ≡ f = (let both = sym told_now ∙ told in cc) in
      subst (λ (x : Files). AreKept x (MayHold now)) same (settled (disk.kept are m told_mid));
  crash = λ are.
      leaves_then start mid now (LeftSome keep first log old) (MayBePruned keep m) (LeftSome keep first log old) (disk.crash are)
      (crash (disk.kept are m told_mid)) (λ c left. left)
      (λ c left. (
        here.was,
        some_standing first log count w old here.was le high here.stands,
        left_then keep here.was m c here.left left,
      ));
  each = λ t there kept.
      pruned_one keep t (HasSomeFront first log old) old here.was m start mid now (some_none first log old) there told_mid
      (some_standing first log count w old here.was le high here.stands) here.left each (disk.each t there kept) ends n told_now;
}
  where
    numbers : List ℕ
    numbers = first_numbers first log count

    here : StandsLeft keep first log numbers w old m
    here = subst (λ (o : Option Files). IsSomeAnd o (StandsLeft keep first log numbers w old)) told_mid disk.files

-- ---- a commit

-- what is on the store of the segments is of the last commit, so their rows have the same bytes in what is left
last_same : (keep : ℕ) (w : State) (was now : Files) → 1 ≤ keep → GoesOn was w → (on : StandsOnLast now w) → MayBePruned keep was now
    → (name : FileName) → IsSome (on.own name) → (e : HeadSegment) → Lists now w.last e → IsAmong (names_of e) name → now name ≡ was name
last_same keep w was now some goes on left name there e lists among =
    let here = there_by now w.last _ lists.has_head.file in
    let whole = left.stays w.last (latest_stays keep w.last was some (left.only w.last here) goes.none_above) in
    whole name (inr (e, lists_there now was w.last e (sym (whole (Commit w.last) (inl refl))) lists, among))

rows_same : (keep : ℕ) (w : State) (was now : Files) → 1 ≤ keep → GoesOn was w → (on : StandsOnLast now w) → MayBePruned keep was now
    → (id : ℕ) → IsSome (on.own (Rows id)) → now (Rows id) ≡ was (Rows id)
rows_same keep w was now some goes on left id there = by (on.of_last (Rows id) there).0
  where
    by : IsFileOf now w.last (Rows id) → now (Rows id) ≡ was (Rows id)
    by (inl e) = absurd cc
    by (inr h) = last_same keep w was now some goes on left (Rows id) there h.0 h.1 h.2

rows_stay : (s : ℕ) (own was now : Files) → ((id : ℕ) → IsSome (own (Rows id)) → now (Rows id) ≡ was (Rows id)) → (gs : List Lived)
    (ws : List (Option Written)) → AreWritten own s gs ws → RowsStay was now gs ws
rows_stay s own was now same [] ws stands = tt
rows_stay s own was now same (g ∷ gs) [] stands = tt
rows_stay s own was now same (g ∷ gs) (None ∷ ws) stands = ((λ alive. tt), rows_stay s own was now same gs ws stands.1)
rows_stay s own was now same (g ∷ gs) (Some u ∷ ws) stands = (
  (λ alive.
      let has = (stands.0 alive).1.rows in
      same g.segment.id (subst (λ (o : Option (List ℕ)). IsSome o) (sym has.file) refl)),
  rows_stay s own was now same gs ws stands.1,
)

can_follow : (keep : ℕ) (w : State) (was now : Files) → 1 ≤ keep → IsReady w → w.last < w.published.upto → GoesOn was w → IsStored now w
    → StandsOnLast now w → MayBePruned keep was now
    → CanFollowLeft keep w.published.upto w.published.next_id w.published.segments w.written was now
can_follow keep w was now some ready below goes stored on left = record {
  rise = ready.published.ids;
  after = record {
    none_from = λ t le. goes.none_above t (omega (arith, below, le));
    new_ids = λ t e lists. old_ids w.since e.id w.published.segments w.written ready.new_ids (goes.ids t e lists);
  };
  stood = goes.stored;
  stands = stored;
  rows = rows_stay w.published.upto on.own was now (rows_same keep w was now some goes on left) w.published.segments w.written on.stored;
  left = left;
}

stored_same : (s : ℕ) (now files : Files) (gs : List Lived) (ws : List (Option Written)) → AliveSame s now files gs ws
    → AreWritten files s gs (renewed s gs ws) → AreWritten now s gs (renewed s gs ws)
stored_same s now files [] ws same stands = tt
stored_same s now files (g ∷ gs) [] same stands = tt
stored_same s now files (g ∷ gs) (w ∷ ws) same stands = (
  (λ alive.
      let is = stands.0 alive in
      (is.0, segment_same files now g.live.applied (entry_of s w g) (record { segment = g.segment; live = g.live }) (same.0 alive) is.1)),
  stored_same s now files gs ws same.1 stands.1,
)

-- what the commit may write, over the files
abbrev over_by : State → Files → Files → Files
over_by w was now = over w.published.upto w.published.segments w.written was now

commits_all : (keep : ℕ) (pairs : Pairs) (w v : State) (was m n : Files) → v ≡ on_commit w
    → CanFollowLeft keep w.published.upto w.published.next_id w.published.segments w.written was m → Commits pairs w v m n
    → Commits pairs w v was (over_by w was n) × MayBePruned keep (over_by w was n) n
commits_all keep pairs w v was m n is can made =
    let s = w.published.upto in
    let gs = w.published.segments in
    let both = left_commits keep s w.published.next_id pairs gs w.written was m n can made.made in (
      record {
        made = both.0;
        stands = λ stood.
            subst (IsStored (over_by w was n)) (sym is)
            (stored_same s (over_by w was n) n gs w.written
            (alive_over keep s w.published.next_id pairs gs w.written was m n can made.made)
            (subst (IsStored n) is (made.stands can.stands)));
      },
      both.1,
    )

pub left_commit : KeepLaws → (keep : ℕ) (first w v : State) (log : List Line) (count : ℕ) (old : Files) (start mid now : Option Disk) → 1 ≤ keep
    → CommitLaws → CanBegin first → BeginsOnLast first old start → IsWriterOn first log w → w.last < w.published.upto
    → count ≤ length log → IsNextCommit first log count w.published.upto → v ≡ on_commit w
    → Changes (Commits (due_pairs first log w) w v) (told_files mid) (told_files now) → Settles w mid now
    → LeavesOnly mid now (Reaches (MayCommit (due_pairs first log w) w) (MayHold mid))
    → first.published.next_id ≤ w.since → w.since ≤ first.published.next_id + 2 * length log
    → IsDiskLeft keep first log count w old start mid → IsDiskLeft keep first log (length log) v old start now
left_commit keeps keep first w v log count old start mid now some laws begun begins on below le numbers is made settles crash low high disk = record {
  files = some_onto (told_files now) (Commits pairs w v m) (StandsLeft keep first log (first_numbers first log (length log)) v old)
      (λ n c. after n c)
      (changed (Commits pairs w v) (told_files mid) (told_files now) m told made);
  kept = λ are n told_n. settles m n told told_n here.goes_on here.on_last (disk.kept are m told);
  crash = λ are.
      leaves_then start mid now (LeftSome keep first log old) (Reaches (MayCommit pairs w) (MayHold mid)) (LeftSome keep first log old)
      (disk.crash are) crash (λ c left. left)
      (λ c left.
      let d = left.0 in
      let on_d = image_goes are d left.1 in
      let can = can_follow keep w here.was d some on.ready below goes on_d.0.stored on_d.1
      (left_then keep here.was m d here.left (image_left are d left.1)) in
      let both =
      left_crash keep w.published.upto w.published.next_id pairs w.published.segments w.written here.was d c can left.2 in (
        over_by w here.was c,
        some_crash first w log count old here.was (over_by w here.was c) le high numbers next here.stands both.0,
        both.1,
      ));
  each = λ t there kept.
      one_commit keep t first w log count old start mid now laws begun begins.goes_on there on low numbers crash (disk.each t there kept);
}
  where
    pairs : Pairs
    pairs = due_pairs first log w

    found : (f : Files) × (told_files mid ≡ Some f) × StandsLeft keep first log (first_numbers first log count) w old f
    found = the_files (told_files mid) (StandsLeft keep first log (first_numbers first log count) w old) disk.files

    m : Files
    m = found.0

    told : told_files mid ≡ Some m
    told = found.1

    here : StandsLeft keep first log (first_numbers first log count) w old m
    here = found.2

    next : ComesNext first log (first_numbers first log count) w
    next = comes_next first w log count laws begun on low numbers

    goes : GoesOn here.was w
    goes = here.stands.goes_on begins.goes_on

    image_left : AreKept old (MayHold start) → (d : Files) → MayHold mid d → MayBePruned keep m d
    image_left are d image = kept_left keep m mid (disk.kept are m told) d image

    image_goes : AreKept old (MayHold start) → (d : Files) → MayHold mid d → GoesOn d w × StandsOnLast d w
    image_goes are d image = keeps.go_on keep w m d some (image_left are d image) here.goes_on here.on_last

    after : (n : Files) → Commits pairs w v m n → StandsLeft keep first log (first_numbers first log (length log)) v old n
    after n c =
        let both = commits_all keep pairs w v here.was m n is (can_follow keep w here.was m some on.ready below goes here.goes_on.stored here.on_last here.left) c in
        record {
          was = over_by w here.was n;
          stands = subst (λ (ns : List ℕ). Stands first log ns v old (over_by w here.was n)) (all_numbers first log count w.published.upto numbers)
              (stands_commit first log (first_numbers first log count) w v old here.was (over_by w here.was n) next is here.stands both.0);
          left = both.1;
          goes_on = laws.go_on pairs w v m n on.ready is c here.goes_on;
          on_last = keeps.stand pairs w v m n is c here.goes_on.stored;
        }

-- ---- a commit that failed half-way

pub left_stopped : (keep : ℕ) (first w : State) (log : List Line) (count : ℕ) (old : Files) (start mid now : Option Disk) → 1 ≤ keep → CommitLaws
    → CanBegin first → BeginsOnLast first old start → IsWriterOn first log w → w.last < w.published.upto
    → count ≤ length log → IsNextCommit first log count w.published.upto
    → Changes (MayCommit (due_pairs first log w) w) (told_files mid) (told_files now)
    → first.published.next_id ≤ w.since → w.since ≤ first.published.next_id + 2 * length log
    → IsDiskLeft keep first log count w old start mid → IsSomeAnd (told_files now) (LeftSome keep first log old)
left_stopped keep first w log count old start mid now some laws begun begins on below le numbers made low high disk =
    some_onto (told_files now) (MayCommit pairs w m) (LeftSome keep first log old)
    (λ n may.
    let both =
    left_crash keep w.published.upto w.published.next_id pairs w.published.segments w.written here.was m n
    (can_follow keep w here.was m some on.ready below (here.stands.goes_on begins.goes_on) here.goes_on.stored here.on_last here.left) may in (
      over_by w here.was n,
      some_crash first w log count old here.was (over_by w here.was n) le high numbers
          (comes_next first w log count laws begun on low numbers) here.stands both.0,
      both.1,
    ))
    (changed (MayCommit pairs w) (told_files mid) (told_files now) m told made)
  where
    pairs : Pairs
    pairs = due_pairs first log w

    found : (f : Files) × (told_files mid ≡ Some f) × StandsLeft keep first log (first_numbers first log count) w old f
    found = the_files (told_files mid) (StandsLeft keep first log (first_numbers first log count) w old) disk.files

    m : Files
    m = found.0

    told : told_files mid ≡ Some m
    told = found.1

    here : StandsLeft keep first log (first_numbers first log count) w old m
    here = found.2

-- ---- a crash that left the first commits, and a log that goes on

pub left_crash_longer : (keep : ℕ) (first : State) (log more : List Line) (old : Files) (start now : Option Disk)
    → LeavesOnly start now (LeftSome keep first log old) → LeavesOnly start now (LeftSome keep first (log ++ more) old)
left_crash_longer keep first log more old start now crash =
    leaves_less start now (LeftSome keep first log old) (LeftSome keep first (log ++ more) old) crash
    (λ c left. left_some_longer keep first log more old c left)

pub left_crash_commit : (keep : ℕ) (first w : State) (log : List Line) (count : ℕ) (old : Files) (start mid now : Option Disk) → KeepLaws → 1 ≤ keep
    → CommitLaws → CanBegin first → BeginsOnLast first old start → IsWriterOn first log w → w.last < w.published.upto
    → count ≤ length log → IsNextCommit first log count w.published.upto
    → LeavesOnly mid now (Reaches (MayCommit (due_pairs first log w) w) (MayHold mid))
    → first.published.next_id ≤ w.since → w.since ≤ first.published.next_id + 2 * length log
    → IsDiskLeft keep first log count w old start mid → AreKept old (MayHold start) → LeavesOnly start now (LeftSome keep first log old)
left_crash_commit keep first w log count old start mid now keeps some laws begun begins on below le numbers crash low high disk are =
    leaves_then start mid now (LeftSome keep first log old) (Reaches (MayCommit pairs w) (MayHold mid)) (LeftSome keep first log old)
    (disk.crash are) crash (λ c left. left)
    (λ c left.
    let d = left.0 in
    let d_left : MayBePruned keep m d = kept_left keep m mid (disk.kept are m told) d left.1 in
    let on_d = keeps.go_on keep w m d some d_left here.goes_on here.on_last in
    let can = can_follow keep w here.was d some on.ready below (here.stands.goes_on begins.goes_on) on_d.0.stored on_d.1
    (left_then keep here.was m d here.left d_left) in
    let both =
    left_crash keep w.published.upto w.published.next_id pairs w.published.segments w.written here.was d c can left.2 in (
      over_by w here.was c,
      some_crash first w log count old here.was (over_by w here.was c) le high numbers
          (comes_next first w log count laws begun on low numbers) here.stands both.0,
      both.1,
    ))
  where
    pairs : Pairs
    pairs = due_pairs first log w

    found : (f : Files) × (told_files mid ≡ Some f) × StandsLeft keep first log (first_numbers first log count) w old f
    found = the_files (told_files mid) (StandsLeft keep first log (first_numbers first log count) w old) disk.files

    m : Files
    m = found.0

    told : told_files mid ≡ Some m
    told = found.1

    here : StandsLeft keep first log (first_numbers first log count) w old m
    here = found.2
