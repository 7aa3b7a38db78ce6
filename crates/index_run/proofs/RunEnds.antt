-- What is promised of a run's files and images, at its end and where it stops.
use Rattle.std.proofs.Common.{◌≡◌, ◌⊎◌, inl, inr, ℕ, ◌+◌, ◌*◌, ◌<◌, ◌≤◌, ◌^◌, List, [], ◌∷◌, ◌++◌, length}
use Rattle.std.proofs.Common.{take, Some, None, sym, ap, subst, ◌∙◌, arith}
use Rattle.std.specs.Prelude.{Option, IsSome, IsSomeAnd}
use Rattle.std.specs.List.{AllByRecursion}
use Rattle.std.proofs.lemmas.List.{append-nil, length-append}
use Rattle.std.proofs.lemmas.Bool.{cases_lt}
use Rattle.ix_base.specs.declared.document.Row.{Row}
use Rattle.ix_base.specs.declared.file_name.FileName.TheVariants.{Commit}
use Rattle.ix_outside.specs.Calls.{LeavesOnly}
use Rattle.ix_outside.proofs.CallLaws.{leaves_less}
use Rattle.ix_outside.specs.Crash.{MayHold}
use Rattle.ix_outside.specs.Disk.{Disk, told_files}
use Rattle.ix_outside.specs.Files.{Files, Changes, then}
use Rattle.ix_outside.specs.Images.{Reaches}
use Rattle.commit_point.specs.Holds.{AreKept, HasPairs, Holds, HoldsInverted, KeepsCommits, Pairs, head_of}
use Rattle.op_script.specs.declared.script.Line.{Line}
use Rattle.index_writer.specs.declared.state.State.{State}
use Rattle.index_writer.specs.Ready.{IsStored}
use Rattle.index_writer.specs.Storing.{GoesOn, MayCommit}
use Rattle.run_log.proofs.CommitLaws.{each_at}
use Rattle.run_log.proofs.NumberLaws.{pairs_at_front}
use Rattle.run_log.specs.Headline.{CanRun, CanRunOn, Given, GivesBack, HasAll, HasFirst, HasOnly, HasOwnAll, HasOwnFirst, HasOwnSome, HasSome}
use Rattle.run_log.specs.Headline.{IsIn, IsKept, IsLast, IsLastSettled, IsNewCommit, IsOn, IsOwnCommit, IsSettled, KeepsCommit, commit_numbers, pairs_at, rows_at}
use Rattle.index_run.specs.Telling.{ReadsCommit}
use Rattle.commit_point.proofs.KeptLaws.{kept_through}
use Rattle.run_log.proofs.OnlyLaws.{only_image, only_itself}
use Rattle.run_log.proofs.AgainLaws.{again}
use Rattle.index_run.specs.Doing.{CanBegin, IsOnGiven, IsWriterOn}
use Rattle.index_run.specs.Keeping.{AreSpelled}
use Rattle.index_run.specs.Leaving.{AreMade, CommitLaws, HasFront, HasSomeFront, IsDiskAfter, IsNextCommit}
use Rattle.index_run.specs.Leaving.{IsMade, Stands, due_pairs, first_numbers}
use Rattle.index_run.proofs.LogNumbers.{numbers_front, numbers_whole}
use Rattle.index_run.proofs.LogNumbers.{rows_front}
use Rattle.index_run.proofs.KeptThere.{goes_on_there, segments_kept}
use Rattle.index_run.proofs.MadeCommits.{all_kept, one_kept}
use Rattle.index_run.proofs.DiskAfter.{changed, comes_next, some_crash, some_onto, the_files}
use Rattle.index_check.proofs.SomeRows.{some_rows}

-- ---- the first of a log's commits

own_commit : (g : Given) (first : State) (log rest : List Line) (limit : ℕ) (old new : Files) (s : ℕ)
    → IsOnGiven g first → limit ≤ first.published.next_id + 2 * length log
    → IsMade first log limit old new s → IsOwnCommit g (log ++ rest) new s
own_commit g first log rest limit old new s on le made =
    let here : rows_at first.published.upto g.rows log s ≡ rows_at g.base g.rows (log ++ rest) s =
    sym (rows_front first.published.upto g.rows log rest s made.inside)
    ∙ ap (λ (n : ℕ). rows_at n g.rows (log ++ rest) s) on.number in
    let mine : pairs_at first.published.upto log s ≡ pairs_at g.base (log ++ rest) s =
    sym (pairs_at_front first.published.upto log rest s made.inside)
    ∙ ap (λ (n : ℕ). pairs_at n (log ++ rest) s) on.number in
    record {
      id = made.id;
      from_next = omega (arith, made.from_next, on.next_id);
      to_limit = omega (arith, made.to_limit, le, on.next_id, length-append log rest);
      holds = subst (λ (rs : List Row). HoldsInverted new s made.id rs) here (made.rows g.rows on.rows);
      pairs = subst (HasPairs new s) mine made.pairs;
    }

each_own : (g : Given) (first : State) (log rest : List Line) (limit : ℕ) (old new : Files) (ns : List ℕ)
    → IsOnGiven g first → limit ≤ first.published.next_id + 2 * length log
    → AllByRecursion (IsMade first log limit old new) ns → AllByRecursion (IsOwnCommit g (log ++ rest) new) ns
each_own g first log rest limit old new [] on le each = tt
each_own g first log rest limit old new (n ∷ ns) on le each = (
  own_commit g first log rest limit old new n on le each.0,
  each_own g first log rest limit old new ns on le each.1,
)

each_new : (g : Given) (first : State) (log rest : List Line) (limit : ℕ) (old new : Files) (ns : List ℕ)
    → IsOnGiven g first → limit ≤ first.published.next_id + 2 * length log → GoesOn old first
    → AllByRecursion (IsMade first log limit old new) ns → AllByRecursion (IsNewCommit g (log ++ rest) new) ns
unfolding own_commit
each_new g first log rest limit old new [] on le goes each = tt
each_new g first log rest limit old new (n ∷ ns) on le goes each = (
  record { own = own_commit g first log rest limit old new n on le each.0; above = each.0.above goes },
  each_new g first log rest limit old new ns on le goes each.1,
)

-- the numbers of the first of a log's commits, by what is given
given_numbers : (g : Given) (first : State) (log rest : List Line) (count : ℕ) → IsOnGiven g first → count ≤ length log
    → first_numbers first log count ≡ commit_numbers g.base (take count (log ++ rest))
given_numbers g first log rest count on few =
    sym (numbers_front first.published.upto count log rest few)
    ∙ ap (λ (n : ℕ). commit_numbers n (take count (log ++ rest))) on.number

-- commits that were made over files with the given ones are the first of the log's
pub has_first : (g : Given) (first : State) (log rest : List Line) (count limit : ℕ) (old new : Files) → IsOnGiven g first
    → count ≤ length log → limit ≤ first.published.next_id + 2 * length log → HasOnly g.files old → GoesOn old first
    → HasFront first log (first_numbers first log count) limit old new → HasFirst g (log ++ rest) count new
has_first g first log rest count limit old new on few le has goes front =
    let made : AreMade first log (commit_numbers g.base (take count (log ++ rest))) limit old new =
    subst (λ (ns : List ℕ). AreMade first log ns limit old new) (given_numbers g first log rest count on few)
    (front.made goes.stored) in
    record {
      each = each_new g first log rest limit old new (commit_numbers g.base (take count (log ++ rest))) on le goes
          made.each;
      only = λ s there. elim (made.only s there) [ inl was ↦ inl (has.only s was) | inr among ↦ inr among ];
      kept = kept_through g.files old new has.kept (all_kept first old new goes front.before);
    }

-- The same of the log's commits alone, over files of which only the last commit is known.
has_own : (g : Given) (first : State) (log : List Line) (count limit : ℕ) (old new : Files) → IsOnGiven g first
    → count ≤ length log → limit ≤ first.published.next_id + 2 * length log → IsStored old first
    → ((s : ℕ) → g.base < s → old (Commit s) ≡ None)
    → HasFront first log (first_numbers first log count) limit old new → HasOwnFirst g log count new
has_own g first log count limit old new on few le stored none_above front =
    subst (λ (ls : List Line). HasOwnFirst g ls count new) (append-nil log) (record {
      each = each_own g first log [] limit old new (commit_numbers g.base (take count (log ++ []))) on le made.each;
      only = λ s above there. elim (made.only s there) [
        | inl was ↦ absurd (let gone = none_above s above in cc)
        | inr among ↦ among
      ];
    })
  where
    made : AreMade first log (commit_numbers g.base (take count (log ++ []))) limit old new
    made = subst (λ (ns : List ℕ). AreMade first log ns limit old new) (given_numbers g first log [] count on few)
        (front.made stored)

-- all of the log's
pub has_all : (g : Given) (first w : State) (log : List Line) (old new : Files) → IsOnGiven g first
    → w.since ≤ first.published.next_id + 2 * length log → HasOnly g.files old → GoesOn old first
    → Stands first log (first_numbers first log (length log)) w old new → HasAll g log new
has_all g first w log old new on high has goes stands =
    subst (λ (ls : List Line). HasFirst g ls (length log) new) (append-nil log)
    (has_first g first log [] (length log) w.since old new on (omega arith) high has goes stands.front)

-- an image of the store at the beginning
pub begins_image : (g : Given) (first : State) (start : Option Disk) → IsOnGiven g first → IsKept g start → (d : Files)
    → MayHold start d → GoesOn d first
begins_image g first start on are d image =
    let has = only_image g.files (MayHold start) are d image in
    goes_on_there g.files d first on.goes_on (on.of_last d (segments_kept g.files d g.base has.kept)) has

-- ---- the end

pub ends_files : (g : Given) (first w : State) (log : List Line) (start now : Option Disk) → IsOnGiven g first
    → told_files start ≡ Some g.files → IsDiskAfter first log (length log) w start now
    → IsSomeAnd (told_files now) (HasAll g log)
ends_files g first w log start now on told disk =
    let stands = Stands first log (first_numbers first log (length log)) w in
    some_onto (told_files now) (stands g.files) (HasAll g log)
    (λ f h. has_all g first w log g.files f on disk.high (only_itself g.files) on.goes_on h)
    (changed stands (told_files start) (told_files now) g.files told disk.files)

pub ends_images : (g : Given) (first w : State) (log : List Line) (start now : Option Disk) → IsOnGiven g first
    → IsKept g start → IsDiskAfter first log (length log) w start now → (c : Files) → MayHold now c → HasAll g log c
ends_images g first w log start now on are disk c image =
    let d = disk.images c image in
    has_all g first w log d.0 c on disk.high (only_image g.files (MayHold start) are d.0 d.1)
    (begins_image g first start on are d.0 d.1) d.2

-- ---- the store is again such as a run asks for

pub ends_again : (g : Given) (first w : State) (log : List Line) (start now : Option Disk) → IsOnGiven g first
    → CanRun g → told_files start ≡ Some g.files → IsKept g start
    → g.next + 2 * length log ≤ 2 ^ 61 → IsDiskAfter first log (length log) w start now → GivesBack now
ends_again g first w log start now on can told are room disk =
    (next.0, found.1 ∙ ap Some (sym next.1), next.2, subst (λ (f : Files). AreKept f (MayHold now)) (sym next.1) kept)
  where
    These : Files → Files → Type 0
    These = Stands first log (first_numbers first log (length log)) w

    found : (f : Files) × (told_files now ≡ Some f) × These g.files f
    found = the_files (told_files now) (These g.files)
        (changed These (told_files start) (told_files now) g.files told disk.files)

    kept : AreKept found.0 (MayHold now)
    kept = disk.settled g.files found.0 told found.1 on.goes_on on.on_last are

    next : CanRunOn found.0
    next =
        again g log found.0 can room
        (length log, has_all g first w log g.files found.0 on disk.high (only_itself g.files) on.goes_on found.2)

-- ---- where the last commit's segments are settled

-- what is on the store of the first writer's segments stands in each image
settled_image : (g : Given) (first : State) (start : Option Disk) → IsOnGiven g first → IsLastSettled g start
    → (d : Files) → MayHold start d → IsStored d first
settled_image g first start on last d image = on.of_last d (last.segments d image)

-- each image of the end has all of the log's commits
pub ends_own : (g : Given) (first w : State) (log : List Line) (start now : Option Disk) → IsOnGiven g first
    → IsLastSettled g start → IsDiskAfter first log (length log) w start now
    → (c : Files) → MayHold now c → HasOwnAll g log c
ends_own g first w log start now on last disk c image =
    let d = disk.images c image in
    has_own g first log (length log) w.since d.0 c on (omega arith) disk.high
    (settled_image g first start on last d.0 d.1) (last.none_above d.0 d.1) d.2.front

-- a crash leaves the first of them
pub own_some : (g : Given) (first : State) (log : List Line) (start now : Option Disk) → IsOnGiven g first
    → LeavesOnly start now (Reaches (HasSomeFront first log) (MayHold start)) → IsLastSettled g start
    → LeavesOnly start now (HasOwnSome g log)
own_some g first log start now on crash last =
    leaves_less start now (Reaches (HasSomeFront first log) (MayHold start)) (HasOwnSome g log) crash
    (λ c left. (
      left.2.0,
      has_own g first log left.2.0 (first.published.next_id + 2 * length log) left.0 c on left.2.1 (omega arith)
          (settled_image g first start on last left.0 left.1) (last.none_above left.0 left.1) left.2.2,
    ))

-- ---- one commit that is settled

pub each_some : (g : Given) (first : State) (log : List Line) (start now : Option Disk) → IsOnGiven g first
    → LeavesOnly start now (Reaches (HasSomeFront first log) (MayHold start)) → (t : ℕ)
    → IsSome (g.files (Commit t)) → IsSettled t g.files start → LeavesOnly start now (KeepsCommit t g.files)
each_some g first log start now on crash t there settled =
    leaves_less start now (Reaches (HasSomeFront first log) (MayHold start)) (KeepsCommit t g.files) crash
    (λ c left.
    one_kept first g.files left.0 c t on.goes_on there (settled left.0 left.1) left.2.2.before)

-- ---- a stop at any time

-- a crash leaves the first of the commits
pub crash_some : (g : Given) (first : State) (log : List Line) (start now : Option Disk) → IsOnGiven g first
    → LeavesOnly start now (Reaches (HasSomeFront first log) (MayHold start)) → IsKept g start
    → LeavesOnly start now (HasSome g log)
crash_some g first log start now on crash are =
    subst (λ (ls : List Line). LeavesOnly start now (HasSome g ls)) (append-nil log)
    (leaves_less start now (Reaches (HasSomeFront first log) (MayHold start)) (HasSome g (log ++ [])) crash
    (λ c left. (
      left.2.0,
      has_first g first log [] left.2.0 (first.published.next_id + 2 * length log) left.0 c on left.2.1 (omega arith)
          (only_image g.files (MayHold start) are left.0 left.1) (begins_image g first start on are left.0 left.1)
          left.2.2,
    )))

pub stops_files : (g : Given) (first w : State) (log rest : List Line) (count : ℕ) (start now : Option Disk)
    → IsOnGiven g first → count ≤ length log → told_files start ≡ Some g.files → IsDiskAfter first log count w start now
    → IsSomeAnd (told_files now) (HasSome g (log ++ rest))
stops_files g first w log rest count start now on le told disk =
    let stands = Stands first log (first_numbers first log count) w in
    some_onto (told_files now) (stands g.files) (HasSome g (log ++ rest))
    (λ f h. (
      count,
      has_first g first log rest count w.since g.files f on le disk.high (only_itself g.files) on.goes_on h.front,
    ))
    (changed stands (told_files start) (told_files now) g.files told disk.files)

-- where a crash leaves the first of some log's commits, it keeps those that were there
pub keeps_some : (g : Given) (log : List Line) (start now : Option Disk) → LeavesOnly start now (HasSome g log)
    → LeavesOnly start now (KeepsCommits g.files)
keeps_some g log start now crash =
    leaves_less start now (HasSome g log) (KeepsCommits g.files) crash (λ c some. some.1.kept)

-- ---- a commit that failed half-way

-- the files have the commit whole, or not at all
pub files_commit : (g : Given) (first w : State) (log rest : List Line) (count : ℕ) (start mid now : Option Disk)
    → CommitLaws → CanBegin first → IsOnGiven g first → IsWriterOn first log w
    → told_files start ≡ Some g.files → count ≤ length log
    → IsNextCommit first log count w.published.upto
    → Changes (MayCommit (due_pairs first log w) w) (told_files mid) (told_files now)
    → IsDiskAfter first log count w start mid → IsSomeAnd (told_files now) (HasSome g (log ++ rest))
files_commit g first w log rest count start mid now laws begun on on_log told le numbers left disk =
    let stands = Stands first log (first_numbers first log count) w in
    let next = comes_next first w log count laws begun on_log disk.low numbers in
    let both =
    then stands (MayCommit (due_pairs first log w) w) (HasSomeFront first log) (told_files start) (told_files mid) (told_files now)
    (λ x y z h may. some_crash first w log count x y z le disk.high numbers next h may) disk.files left in
    some_onto (told_files now) (HasSomeFront first log g.files) (HasSome g (log ++ rest))
    (λ f h. (
      h.0,
      has_first g first log rest h.0 (first.published.next_id + 2 * length log) g.files f on h.1 (omega arith)
          (only_itself g.files) on.goes_on h.2,
    ))
    (changed (HasSomeFront first log) (told_files start) (told_files now) g.files told both)

-- ---- what can be read

-- the number is that of the commit at the beginning, or of one of the log's
abbrev IsOneOf : ℕ → List Line → ℕ → Type 0
IsOneOf base log s = ((1 ≤ s) × (s ≡ base)) ⊎ IsIn (commit_numbers base log) s

reads_there : (g : Given) (first w : State) (log : List Line) (now : Files) → IsOn g → first.published.upto ≡ g.base
    → first.published.next_id ≡ g.next → IsStored g.files first
    → Stands first log (first_numbers first log (length log)) w g.files now
    → (s : ℕ) → IsOneOf g.base log s → ReadsCommit now s
reads_there g first w log now is_on number next stored stands s (inl at_base) = by is_on
  where
    by : IsOn g → ReadsCommit now s
    by (inl none) = absurd (omega (arith, at_base.0, at_base.1, none.0))
    by (inr on) =
        let was = on.1 in
        let kept : Holds now g.base g.next g.rows = record {
          entries = was.entries;
          segments = was.segments;
          spelled = (stands.front.made stored).older g.base g.next was.entries was.segments (omega (arith, number))
              (omega (arith, next)) was.spelled;
          rows_are = was.rows_are;
        } in
        (g.next, g.rows, subst (λ (n : ℕ). Holds now n g.next g.rows) (sym at_base.1) kept)
reads_there g first w log now is_on number next stored stands s (inr among) =
    let is : first_numbers first log (length log) ≡ commit_numbers g.base log =
    numbers_whole first.published.upto log ∙ ap (λ (n : ℕ). commit_numbers n log) number in
    let made = stands.front.made stored in
    let here : IsIn (first_numbers first log (length log)) s = subst (λ (ns : List ℕ). IsIn ns s) (sym is) among in
    let this = each_at (IsMade first log w.since g.files now) (first_numbers first log (length log)) s made.each here in
    let found = some_rows now s this.id this.entries this.segments this.spelled in (
      this.id,
      found.0,
      record { entries = this.entries; segments = this.segments; spelled = this.spelled; rows_are = found.1 },
    )

-- also where little is known of the store
pub reads : (g : Given) (first w : State) (log : List Line) (start now : Option Disk) → told_files start ≡ Some g.files
    → IsOn g → first.published.upto ≡ g.base → first.published.next_id ≡ g.next → IsStored g.files first
    → IsDiskAfter first log (length log) w start now
    → IsSomeAnd (told_files now)
    (λ f. (s : ℕ) → ((1 ≤ s) × (s ≡ g.base)) ⊎ IsIn (commit_numbers g.base log) s → ReadsCommit f s)
reads g first w log start now told is_on number next stored disk =
    let stands = Stands first log (first_numbers first log (length log)) w in
    some_onto (told_files now) (stands g.files) (λ f. (s : ℕ) → IsOneOf g.base log s → ReadsCommit f s)
    (λ f h. reads_there g first w log f is_on number next stored h)
    (changed stands (told_files start) (told_files now) g.files told disk.files)

-- ---- what commit files spell

spells_there : (g : Given) (first w : State) (log : List Line) (now : Files) → IsLast g.files g.base → CanBegin first
    → first.published.upto ≡ g.base → IsStored g.files first
    → Stands first log (first_numbers first log (length log)) w g.files now → AreSpelled g.files now
spells_there g first w log now last begun number stored stands s there = elim (made.only s there) [
  | inl was ↦ inl (stands.front.before (Commit s) (low was))
  | inr among ↦
      let this = each_at (IsMade first log w.since g.files now) (first_numbers first log (length log)) s made.each among in
      inr (head_of s this.id this.spelled.tail this.entries this.segments, this.spelled.head)
]
  where
    made : AreMade first log (first_numbers first log (length log)) w.since g.files now
    made = stands.front.made stored

    low : IsSome (g.files (Commit s)) → s ≤ first.last
    low was = elim (cases_lt g.base s) [
      | inl above ↦ absurd (let gone = last.none_above s above in cc)
      | inr le ↦ omega (arith, le, number, begun.last)
    ]

-- each commit that is there has its commit file as it was, or a new one
pub spells : (g : Given) (first w : State) (log : List Line) (start now : Option Disk) → told_files start ≡ Some g.files
    → IsLast g.files g.base → CanBegin first → first.published.upto ≡ g.base → IsStored g.files first
    → IsDiskAfter first log (length log) w start now → IsSomeAnd (told_files now) (AreSpelled g.files)
spells g first w log start now told last begun number stored disk =
    let stands = Stands first log (first_numbers first log (length log)) w in
    some_onto (told_files now) (stands g.files) (AreSpelled g.files)
    (λ f h. spells_there g first w log f last begun number stored h)
    (changed stands (told_files start) (told_files now) g.files told disk.files)
