-- What follows for the files once a writer committed, and where it can begin.
use Rattle.std.proofs.Common.{◌≡◌, ◌≢◌, ◌∙◌, ◌⊎◌, inl, inr, ℕ, ◌+◌, ◌<◌, eqb, true, false, List, [], ◌∷◌, length, refl, sym, subst, arith}
use Rattle.std.specs.List.{AllByRecursion, Contains}
use Rattle.std.proofs.lemmas.Bool.Decides.{eqb_tells}
use Rattle.std.proofs.lemmas.List.Elements.{All-contains, All-from_recursion}
use Rattle.ix_base.specs.declared.document.Row.{Row}
use Rattle.ix_base.specs.declared.file_name.FileName.TheVariants.{Commit}
use Rattle.ix_outside.specs.Files.{Files}
use Rattle.segment_core.specs.LiveRows.{Lived}
use Rattle.segment_files.specs.Fits.{RowsBelow}
use Rattle.commit_point.specs.declared.heads.Head.{Head}
use Rattle.commit_point.specs.declared.heads.HeadSegment.{HeadSegment}
use Rattle.commit_point.specs.declared.open.Opened.{Opened}
use Rattle.commit_point.specs.Fits.{EntryFits, IdsRise}
use Rattle.commit_point.specs.Holds.{HasHead, HasPairs, HasSegment, HasSegments, HaveSegments, HoldsInverted, Lists, Pairs, head_of}
use Rattle.commit_point.proofs.Laws.{one_head}
use Rattle.commit_point.specs.Writing as commit
use Rattle.commit_point.specs.Writing.{AreWritten, CanWrite, IsOldId, SegmentIdsRise, WrittenUpTo, entries_of, listed}
use Rattle.index_writer.specs.declared.state.State.{State}
use Rattle.index_writer.specs.Laws.{CommitsGoOn, CommitsHold, CrashesHold, OpenedGoOn}
use Rattle.index_writer.specs.Ready.{CanFollow, HasRows, IsReady, IsStored, written_of}
use Rattle.index_writer.specs.Storing.{Commits, GoesOn}
use Rattle.index_writer.proofs.Committing.{listed_inverted, listed_rows}

-- ---- a commit that was made

holds_of : (s : State) (rows : List Row) (now : Files)
    → HasSegments now s.published.upto s.published.next_id (entries_of s.published.upto s.published.segments s.written) (listed s.published.segments)
    → HasRows s rows → HoldsInverted now s.published.upto s.published.next_id rows
holds_of s rows now spelled has = record {
  holds = record {
    entries = entries_of s.published.upto s.published.segments s.written;
    segments = listed s.published.segments;
    spelled = spelled;
    rows_are = listed_rows s rows has;
  };
  inverted = listed_inverted s rows has;
}

pub commits_hold : CommitsHold
commits_hold pairs old new files now rows commits stored has =
    (holds_of old rows now (commits.made.spelled stored) has, commits.made.has_pairs)

pub crashes_hold : CrashesHold
crashes_hold pairs s files now rows may stored has = by may.whole
  where
    by : (now (Commit s.published.upto) ≡ files (Commit s.published.upto))
        ⊎ commit.Commits s.published.upto s.published.next_id pairs s.published.segments s.written files now
        → (now (Commit s.published.upto) ≡ files (Commit s.published.upto))
        ⊎ (HoldsInverted now s.published.upto s.published.next_id rows × HasPairs now s.published.upto pairs)
    by (inl same) = inl same
    by (inr made) = inr (holds_of s rows now (made.spelled stored) has, made.has_pairs)

ids_below : (low limit : ℕ) (es : List HeadSegment) → IdsRise low limit es → AllByRecursion (λ (e : HeadSegment). e.id < limit) es
ids_below low limit [] rise = tt
ids_below low limit (e ∷ es) rise = (rise.1, ids_below (e.id + 1) limit es rise.2)

-- an element of a list of which all have a property
of_all : (P : HeadSegment → Type 0) (es : List HeadSegment) (e : HeadSegment) → AllByRecursion P es → Contains es e → P e
of_all P es e all has = All-contains P es e (All-from_recursion P es all) has

-- the ids that are listed are below the next one
listed_below : (pairs : Pairs) (old new : State) (files now : Files) → IsReady old → Commits pairs old new files now → GoesOn files old
    → (t : ℕ) (e : HeadSegment) → Lists now t e → e.id < old.published.next_id
listed_below pairs old new files now ready commits goes t e lists = by (eqb_tells t old.published.upto)
  where
    s : ℕ
    s = old.published.upto

    by : ((eqb t s ≡ true) × (t ≡ s)) ⊎ ((eqb t s ≡ false) × (t ≢ s)) → e.id < old.published.next_id
    by (inl is) =
        let spelled = commits.made.spelled goes.stored in
        let head = subst (λ (n : ℕ). HasHead now n lists.head) is.1 lists.has_head in
        let same = one_head now s lists.head (head_of s old.published.next_id spelled.tail (entries_of s old.published.segments old.written) (listed old.published.segments)) head spelled.head in
        of_all (λ (x : HeadSegment). x.id < old.published.next_id) (entries_of s old.published.segments old.written) e
        (ids_below 1 old.published.next_id (entries_of s old.published.segments old.written) spelled.head.fits.ids)
        (subst (λ (h : Head). Contains h.segments e) same lists.listed)
    by (inr other) =
        let file = commits.made.elsewhere (Commit t) other.1 in
        let before : Lists files t e = record {
          head = lists.head;
          has_head = record { file = sym file ∙ lists.has_head.file; number = lists.has_head.number; fits = lists.has_head.fits };
          listed = lists.listed;
        } in
        omega (arith, goes.ids t e before, ready.since)

pub commits_go_on : CommitsGoOn
commits_go_on pairs old new files now ready is commits goes =
    subst (GoesOn now) (sym is) (record {
      none_above = λ t lt. commits.made.elsewhere (Commit t) (λ same. absurd (omega (arith, same, lt))) ∙ goes.none_above t (omega (arith, lt, ready.last));
      ids = listed_below pairs old new files now ready commits goes;
      stored = subst (IsStored now) is (commits.stands goes.stored);
    })

-- ---- a commit that was read

same_count : (files : Files) (s : ℕ) (es : List HeadSegment) (gs : List Lived) → HaveSegments files s es gs → length es ≡ length gs
same_count files s [] [] have = refl
same_count files s [] (g ∷ gs) have = absurd have
same_count files s (e ∷ es) [] have = absurd have
same_count files s (e ∷ es) (g ∷ gs) have = omega (arith, same_count files s es gs have.1)

can_write : (files : Files) (s : ℕ) (e : HeadSegment) (g : Lived) → HasSegment files s e g → CanWrite s g
can_write files s e g has = record {
  some = has.rows_fit.some;
  births = has.rows_fit.births;
  ordered = has.posts_fit.ordered;
  below = subst (λ (n : ℕ). RowsBelow n g.segment.postings) (sym has.count) has.posts_fit.below;
  applied = has.applied;
}

all_can : (files : Files) (s : ℕ) (es : List HeadSegment) (gs : List Lived) → HaveSegments files s es gs → AllByRecursion (CanWrite s) gs
all_can files s [] [] have = tt
all_can files s [] (g ∷ gs) have = absurd have
all_can files s (e ∷ es) [] have = absurd have
all_can files s (e ∷ es) (g ∷ gs) have = (can_write files s e g have.0, all_can files s es gs have.1)

ids_rise : (files : Files) (s low limit : ℕ) (es : List HeadSegment) (gs : List Lived) → HaveSegments files s es gs
    → IdsRise low limit es → SegmentIdsRise low limit gs
ids_rise files s low limit [] [] have rise = tt
ids_rise files s low limit [] (g ∷ gs) have rise = absurd have
ids_rise files s low limit (e ∷ es) [] have rise = absurd have
ids_rise files s low limit (e ∷ es) (g ∷ gs) have rise =
    let rest = ids_rise files s (e.id + 1) limit es gs have.1 rise.2 in (
      omega (arith, have.0.id, rise.0),
      omega (arith, have.0.id, rise.1),
      subst (λ (n : ℕ). SegmentIdsRise (n + 1) limit gs) (sym have.0.id) rest,
    )

as_many : (es : List HeadSegment) (gs : List Lived) → length es ≡ length gs → length (written_of es gs) ≡ length gs
as_many [] [] same = refl
as_many [] (g ∷ gs) same = absurd (omega (arith, same))
as_many (e ∷ es) [] same = absurd (omega (arith, same))
as_many (e ∷ es) (g ∷ gs) same = omega (arith, as_many es gs (omega (arith, same)))

were_written : (s : ℕ) (es : List HeadSegment) (gs : List Lived) → AllByRecursion (EntryFits s) es
    → AllByRecursion (WrittenUpTo s) (written_of es gs)
were_written s [] gs fits = tt
were_written s (e ∷ es) [] fits = tt
were_written s (e ∷ es) (g ∷ gs) fits = ((fits.0.some, fits.0.not_later), were_written s es gs fits.1)

can_follow : (files : Files) (last : Opened) → HasSegments files last.number last.next_id last.entries last.segments → CanFollow last
can_follow files last has =
    let count = same_count files last.number last.entries last.segments has.each in
    record {
      some_id = has.head.fits.next_some;
      room = omega (arith, has.head.fits.next);
      count = count;
      can = record {
        can = all_can files last.number last.entries last.segments has.each;
        ids = ids_rise files last.number 1 last.next_id last.entries last.segments has.each has.head.fits.ids;
        apart = has.apart;
        count = as_many last.entries last.segments count;
        written = were_written last.number last.entries last.segments has.head.fits.entries;
      };
    }

same_entry : (files : Files) (s : ℕ) (e : HeadSegment) (g : Lived) → HasSegment files s e g
    → HasSegment files g.live.applied (record { id = g.segment.id; rows = length g.segment.rows; written = e.written }) g
same_entry files s e g has =
    subst (λ (n : ℕ). HasSegment files n (record { id = g.segment.id; rows = length g.segment.rows; written = e.written }) g) (sym has.applied)
    (subst (λ (n : ℕ). HasSegment files s (record { id = n; rows = length g.segment.rows; written = e.written }) g) (sym has.id)
    (subst (λ (n : ℕ). HasSegment files s (record { id = e.id; rows = n; written = e.written }) g) (sym has.count) has))

are_stored : (files : Files) (s : ℕ) (es : List HeadSegment) (gs : List Lived) → HaveSegments files s es gs → AreWritten files s gs (written_of es gs)
are_stored files s [] [] have = tt
are_stored files s [] (g ∷ gs) have = absurd have
are_stored files s (e ∷ es) [] have = absurd have
are_stored files s (e ∷ es) (g ∷ gs) have =
    (λ alive. (omega (arith, have.0.applied), same_entry files s e g have.0), are_stored files s es gs have.1)

pub opened_go_on : OpenedGoOn
opened_go_on files last = record {
  follows = can_follow files last;
  stored = λ size merge have. are_stored files last.number last.entries last.segments have;
  goes_on = λ size merge is. record {
    none_above = is.none_above;
    ids = is.ids;
    stored = are_stored files last.number last.entries last.segments is.spelled.each;
  };
}
