-- The commit of a writer.
use Rattle.std.proofs.Common.{◌≡◌, ◌∙◌, ℕ, ◌<◌, ◌≤◌, cond, Bool, true, false, List, [], ◌∷◌, ◌++◌, Option, Some, None, length, refl, sym, ap, subst, inl, arith, IsPermutation}
use Rattle.std.specs.Prelude.{◌↔◌, ◌-◌, ◌^◌, min, IfSome, IsSome, IsTrue, OnErr, Result, Ok, Err}
use Rattle.std.specs.List.{AllByRecursion, cons_option, filter}
use Rattle.std.proofs.lemmas.Bool.{ltb-false}
use Rattle.std.proofs.lemmas.List.Sorted.{length_permutation}
use Rattle.ix_base.specs.Counts.{doc_count}
use Rattle.ix_base.specs.declared.document.Row.{Row}
use Rattle.ix_base.specs.declared.file_name.FileName.{FileName}
use Rattle.ix_base.specs.declared.file_name.FileName.TheVariants.{Commit, Pending, Rows, Posts, Live, Values}
use Rattle.ix_outside.specs.declared.store.StoreFault.{StoreFault}
use Rattle.ix_outside.specs.declared.store.StoreFault.TheVariants.{Failed, NoMemory}
use Rattle.ix_outside.specs.Disk.{Disk}
use Rattle.ix_outside.specs.Files.{Files, Changes, stays}
use Rattle.live_docs.specs.Marks.{count_live, same_marks}
use Rattle.live_docs.specs.declared.live_docs.Mark.{Mark}
use Rattle.row_fates.specs.Fate.{renumbered}
use Rattle.segment_core.specs.LiveRows.{Lived, all_live, live, live_rows, with_numbers}
use Rattle.segment_core.specs.Segments.{IsInverted}
use Rattle.commit_point.specs.declared.written.Written.{Written}
use Rattle.commit_point.specs.Holds.{AreInverted, AreRowsOf, HasSegment, HaveSegments, Pairs}
use Rattle.commit_point.specs.Settling as settling
use Rattle.commit_point.specs.Writing as commit
use Rattle.commit_point.specs.Writing.{AreWritten, CanCommit, ComesAfter, CanWrite, IsOldId, SegmentIdsRise, WrittenUpTo, entries_of, entry_of, is_alive, listed, version}
use Rattle.index_writer.specs.declared.fault.WriterFault.{WriterFault}
use Rattle.index_writer.specs.declared.fault.WriterFault.TheVariants.{Store, NoMemory as OutOfMemory}
use Rattle.index_writer.specs.declared.state.State.{State}
use Rattle.index_writer.specs.Ready.{CanBePending, HasRows, IsReady, IsStored, NewIdsFrom}
use Rattle.index_writer.specs.Standing.{Settles}
use Rattle.index_writer.specs.Storing.{Commits, GoesOn, MayCommit, SameBelow, on_commit, own_written, renewed}

-- ---- segments without a live row

all_filter : {X : Type 0} (P : X → Type 0) (test : X → Bool) (xs : List X) → AllByRecursion P xs → AllByRecursion P (filter test xs)
all_filter P test [] all = tt
all_filter {X} P test (x ∷ xs) all = by (test x) (all_filter P test xs all.1)
  where
    by : (t : Bool) → AllByRecursion P (filter test xs) → AllByRecursion P (cond t (x ∷ filter test xs) (filter test xs))
    by true more = (all.0, more)
    by false more = more

none_live : (rows : List Row) (marks : List Mark) → count_live marks ≤ 0 → live_rows rows marks ≡ []
none_live [] marks none = refl
none_live (row ∷ rows) [] none = refl
none_live (row ∷ rows) (m ∷ marks) none = by m.live (none_live rows marks) none
  where
    by : (b : Bool) → (count_live marks ≤ 0 → live_rows rows marks ≡ [])
        → length (cond b (m ∷ filter (λ (x : Mark). x.live) marks) (filter (λ (x : Mark). x.live) marks)) ≤ 0
        → cons_option (cond b (Some (renumbered (with_numbers m.values row.doc.num) row)) None) (live_rows rows marks) ≡ []
    by true more none = absurd (omega (arith, none))
    by false more none = more none

live_listed : (gs : List Lived) → all_live (listed gs) ≡ all_live gs
live_listed [] = refl
live_listed (g ∷ gs) = by (is_alive g) refl (live_listed gs)
  where
    by : (t : Bool) → is_alive g ≡ t → all_live (listed gs) ≡ all_live gs → all_live (cond t (g ∷ listed gs) (listed gs)) ≡ live g ++ all_live gs
    by true is more = ap (λ (rs : List Row). live g ++ rs) more
    by false is more = more ∙ ap (λ (rs : List Row). rs ++ all_live gs) (sym (none_live g.segment.rows g.live.marks (ltb-false 0 (count_live g.live.marks) is)))

-- ---- what is on the store

renewed_count : (s : ℕ) (gs : List Lived) (ws : List (Option Written)) → length ws ≡ length gs → length (renewed s gs ws) ≡ length gs
renewed_count s [] ws same = refl
renewed_count s (g ∷ gs) [] same = absurd (omega (arith, same))
renewed_count s (g ∷ gs) (w ∷ ws) same = omega (arith, renewed_count s gs ws (omega (arith, same)))

version_within : (s : ℕ) (w : Option Written) (g : Lived) → 1 ≤ s → WrittenUpTo s w → (1 ≤ version s w g) × (version s w g ≤ s)
version_within s None g some upto = (some, omega arith)
version_within s (Some w) g some upto = by (same_marks w.live.marks g.live.marks)
  where
    by : (t : Bool) → (1 ≤ cond t w.v s) × (cond t w.v s ≤ s)
    by true = upto
    by false = (some, omega arith)

renewed_upto : (s : ℕ) (gs : List Lived) (ws : List (Option Written)) → 1 ≤ s → AllByRecursion (WrittenUpTo s) ws
    → AllByRecursion (WrittenUpTo s) (renewed s gs ws)
renewed_upto s [] ws some all = tt
renewed_upto s (g ∷ gs) [] some all = tt
renewed_upto s (g ∷ gs) (w ∷ ws) some all = (version_within s w g some all.0, renewed_upto s gs ws some all.1)

renewed_ids : (since s : ℕ) (gs : List Lived) (ws : List (Option Written)) → NewIdsFrom since gs (renewed s gs ws)
renewed_ids since s [] ws = tt
renewed_ids since s (g ∷ gs) [] = tt
renewed_ids since s (g ∷ gs) (w ∷ ws) = renewed_ids since s gs ws

-- the files of a commit have what is on the store of the segments that it lists
renewed_stands : (now : Files) (s : ℕ) (gs : List Lived) (ws : List (Option Written)) → length ws ≡ length gs
    → HaveSegments now s (entries_of s gs ws) (listed gs) → AreWritten now s gs (renewed s gs ws)
renewed_stands now s [] ws same have = tt
renewed_stands now s (g ∷ gs) [] same have = absurd (omega (arith, same))
renewed_stands now s (g ∷ gs) (w ∷ ws) same have =
    by (is_alive g) refl (λ more. renewed_stands now s gs ws (omega (arith, same)) more) have
  where
    by : (t : Bool) → is_alive g ≡ t → (HaveSegments now s (entries_of s gs ws) (listed gs) → AreWritten now s gs (renewed s gs ws))
        → HaveSegments now s (cond t (entry_of s w g ∷ []) [] ++ entries_of s gs ws) (cond t (g ∷ listed gs) (listed gs))
        → AreWritten now s (g ∷ gs) (own_written s w g ∷ renewed s gs ws)
    by true is more have = (
      λ alive. (omega (arith, have.0.applied), subst (λ (n : ℕ). HasSegment now n (entry_of s w g) g) (sym have.0.applied) have.0),
      more have.1,
    )
    by false is more have = (λ alive. let e : true ≡ false = sym alive ∙ is in absurd cc, more have)

-- ---- the state

pub can_commit : (s : State) → IsReady s → CanCommit s.published.upto s.published.next_id s.published.segments s.written
can_commit s ready = record {
  can = ready.published.can;
  ids = ready.published.ids;
  apart = ready.published.apart;
  count = ready.count;
  written = ready.written;
}

pub on_ready : (s : State) → IsReady s → 1 ≤ s.published.upto → IsReady (on_commit s)
on_ready s ready some = record {
  published = ready.published;
  count = renewed_count s.published.upto s.published.segments s.written ready.count;
  written = renewed_upto s.published.upto s.published.segments s.written some ready.written;
  new_ids = renewed_ids s.published.next_id s.published.upto s.published.segments s.written;
  since = omega arith;
  last = omega arith;
  pending = tt;
  some = ready.some;
  most = ready.most;
  several = ready.several;
  within = ready.within;
}

-- the segments that a commit lists have the rows, and the postings of each are the inversion of its own
pub listed_rows : (s : State) (rows : List Row) → HasRows s rows → AreRowsOf s.published.upto (listed s.published.segments) rows
listed_rows s rows has = record {
  merged = subst (λ (rs : List Row). IsPermutation rs rows) (sym (live_listed s.published.segments)) has.rows_are.merged;
  births = has.rows_are.births;
}

pub listed_inverted : (s : State) (rows : List Row) → HasRows s rows → AreInverted (listed s.published.segments)
listed_inverted s rows has = all_filter (λ (g : Lived). IsInverted g.segment) is_alive s.published.segments has.inverted

pub counted : (s : State) (rows : List Row) → HasRows s rows → doc_count (all_live (listed s.published.segments)) ≡ doc_count rows
counted s rows has =
    ap (λ (n : ℕ). min n (2 ^ 64 - 1)) (sym (length_permutation (all_live (listed s.published.segments)) rows (listed_rows s rows has).merged))

-- ---- the call

-- a fact of the slices that the call was given, of the state's own lists
pub at_state : (P : List Lived → List (Option Written) → Type 0) (gs : List Lived) (ws : List (Option Written)) (s : State)
    → gs ≡ s.published.segments → ws ≡ s.written → P gs ws → P s.published.segments s.written
at_state P gs ws s same_segments same_written fact =
    subst (λ (xs : List Lived). P xs s.written) same_segments (subst (λ (xs : List (Option Written)). P gs xs) same_written fact)

pub is_on : (gs : List Lived) (ws made : List (Option Written)) (s new : State) → gs ≡ s.published.segments → ws ≡ s.written
    → made ≡ renewed s.published.upto gs ws → new ≡ record (on_commit s) { written = made } → new ≡ on_commit s
is_on gs ws made s new same_segments same_written is new_is =
    let all = at_state (λ (xs : List Lived) (ys : List (Option Written)). made ≡ renewed s.published.upto xs ys) gs ws s same_segments same_written is in
    new_is ∙ ap (λ (xs : List (Option Written)). record (on_commit s) { written = xs }) all

-- the pending number is above the last commit's
pub less_of : (s : State) → IsReady s → IsSome s.pending → s.last < s.published.upto
less_of s ready some = by s.pending some ready.pending
  where
    by : (p : Option ℕ) → IsSome p → IfSome p (CanBePending s) → s.last < s.published.upto
    by None none can = absurd cc
    by (Some n) some can = omega (arith, can.0, can.1)

pub tells_renamed : (fault : StoreFault) (was_renamed : Bool) (result : WriterFault) (s new : State) (There : Type 0)
    → (fault ≡ Failed → (result ≡ Store) × (new ≡ record s { closed = true }))
    → (fault ≡ NoMemory → (result ≡ OutOfMemory) × (new ≡ record s { closed = was_renamed }))
    → (fault ≡ NoMemory → (IsTrue was_renamed ↔ There)) → result ≡ OutOfMemory → (IsTrue new.closed ↔ There)
tells_renamed Failed was_renamed result s new There failed no_memory tells is =
    let other : result ≡ Store = (failed refl).0 in absurd (apart (sym other ∙ is))
  where
    apart : Store ≡ OutOfMemory → ⊥
    apart e = cc
tells_renamed NoMemory was_renamed result s new There failed no_memory tells is =
    subst (λ (b : Bool). IsTrue b ↔ There) (sym (ap (λ (t : State). t.closed) (no_memory refl).1)) (tells refl)

-- ---- the files

old_ids : (since id : ℕ) (gs : List Lived) (ws : List (Option Written)) → NewIdsFrom since gs ws → id < since → IsOldId gs ws id
old_ids since id [] ws new lt = tt
old_ids since id (g ∷ gs) [] new lt = tt
old_ids since id (g ∷ gs) (None ∷ ws) new lt = (λ is. absurd (omega (arith, is, new.0, lt)), old_ids since id gs ws new.1 lt)
old_ids since id (g ∷ gs) (Some w ∷ ws) new lt = old_ids since id gs ws new lt

elsewhere : (s : State) → IsReady s → (name : FileName) → commit.IsElsewhere s.published.upto (λ id. id < s.since) name
    → commit.IsElsewhere s.published.upto (IsOldId s.published.segments s.written) name
elsewhere s ready (Commit t) other = other
elsewhere s ready (Pending t) other = other
elsewhere s ready (Rows id) below = old_ids s.since id s.published.segments s.written ready.new_ids below
elsewhere s ready (Posts id) below = old_ids s.since id s.published.segments s.written ready.new_ids below
elsewhere s ready (Live id v) other = other
elsewhere s ready (Values id v) other = other

pub same_below : (s : State) → IsReady s → (old new : Files)
    → commit.SameElsewhere s.published.upto (IsOldId s.published.segments s.written) old new → SameBelow s.published.upto s.since old new
same_below s ready old new same = λ name other. same name (elsewhere s ready name other)

pub commits : (pairs : Pairs) (s new : State) (files now : Files) → IsReady s → new ≡ on_commit s
    → commit.Commits s.published.upto s.published.next_id pairs s.published.segments s.written files now → Commits pairs s new files now
commits pairs s new files now ready is made = record {
  made = made;
  stands = λ stored.
      subst (IsStored now) (sym is)
      (renewed_stands now s.published.upto s.published.segments s.written ready.count (made.spelled stored).each);
}

pub on_err : {T E : Type 0} (r : Result T E) (P : Type 0) → P → OnErr r P
on_err (Ok x) P p = tt
on_err (Err x) P p = p

-- nothing was written
pub unmade : (pairs : Pairs) (s : State) (a : Option Files) → Changes (MayCommit pairs s) a a
unmade pairs s a = stays (MayCommit pairs s) a a (λ x. record { elsewhere = λ name not. refl; whole = inl refl }) refl

-- the commit comes after those of the files that the writer can go on from
pub comes : (s : State) (files : Files) → IsReady s → s.last < s.published.upto → GoesOn files s
    → ComesAfter files s.published.upto s.published.segments s.written
comes s files ready less goes = record {
  none_from = λ t le. goes.none_above t (omega (arith, le, less));
  new_ids = λ t e lists. old_ids s.since e.id s.published.segments s.written ready.new_ids (goes.ids t e lists);
}

pub settles : (s : State) (old new : Option Disk) → IsReady s → s.last < s.published.upto
    → settling.Settles s.published.upto s.published.segments s.written old new → Settles s old new
settles s old new ready less settled = λ files now told told_now goes stands.
    settled files now stands.own told told_now (comes s files ready less goes) stands.stored
    (λ name some. let of = stands.of_last name some in ((s.last, of.0), of.1))
