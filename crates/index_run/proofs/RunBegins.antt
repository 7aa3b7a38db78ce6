-- A writer that begins on what a run is given.
use Rattle.std.proofs.Common.{◌≡◌, inl, inr, ℕ, ◌+◌, ◌<◌, List, [], ◌∷◌, sym, ap, subst, arith}
use Rattle.std.specs.Prelude.{Contains}
use Rattle.std.specs.List.{AllByRecursion}
use Rattle.std.proofs.lemmas.Bool.{cases_lt}
use Rattle.std.proofs.lemmas.List.Elements.{All-contains, All-from_recursion}
use Rattle.ix_outside.specs.Files.{Files}
use Rattle.segment_core.specs.LiveRows.{Lived}
use Rattle.commit_point.specs.declared.heads.Head.{Head}
use Rattle.commit_point.specs.declared.heads.HeadSegment.{HeadSegment}
use Rattle.commit_point.specs.declared.open.Opened.{Opened}
use Rattle.commit_point.specs.Fits.{IdsRise}
use Rattle.commit_point.specs.Holds.{HasSegments, IsLawful, Lists, head_of}
use Rattle.commit_point.proofs.Laws.{one_head}
use Rattle.index_writer.specs.declared.state.State.{State}
use Rattle.index_writer.specs.Laws.{IsLastOf, OpenedGoOn}
use Rattle.index_writer.specs.Ready.{HasRows, opened_on}
use Rattle.index_writer.specs.Standing.{OpenedStand}
use Rattle.run_log.specs.Headline.{CanRun, Given}
use Rattle.index_run.specs.Doing.{IsOnGiven}
use Rattle.index_run.proofs.LogNumbers.{nat_or}
use Rattle.index_run.proofs.KeptThere.{opened_of_last}

-- ---- the ids of a commit

ids_below : (low limit : ℕ) (es : List HeadSegment) → IdsRise low limit es
    → AllByRecursion (λ (e : HeadSegment). e.id < limit) es
ids_below low limit [] rise = tt
ids_below low limit (e ∷ es) rise = (rise.1, ids_below (e.id + 1) limit es rise.2)

listed_below : (files : Files) (s next : ℕ) (entries : List HeadSegment) (segments : List Lived) (e : HeadSegment)
    → HasSegments files s next entries segments → Lists files s e → e.id < next
listed_below files s next entries segments e has lists =
    let P : HeadSegment → Type 0 = λ x. x.id < next in
    let same = one_head files s lists.head (head_of s next has.tail entries segments) lists.has_head has.head in
    let listed : Contains entries e = subst (λ (h : Head). Contains h.segments e) same lists.listed in
    let all = ids_below 1 next entries has.head.fits.ids in
    All-contains P entries e (All-from_recursion P entries all) listed

-- a commit that lists something isn't above the base
not_above : (g : Given) (t : ℕ) (e : HeadSegment) → CanRun g → Lists g.files t e → g.base < t → ⊥
not_above g t e can lists above = let gone = can.0.none_above t above in let here = lists.has_head.file in cc

-- ---- a lawful last commit, or none

last_of_given : (g : Given) (last : Opened) → CanRun g → (lawful : IsLawful g.files g.base g.next g.rows)
    → last ≡ record {
      number = g.base;
      next_id = g.next;
      entries = lawful.holds.holds.entries;
      segments = lawful.holds.holds.segments;
    } → IsLastOf g.files last
last_of_given g last can lawful is = subst (IsLastOf g.files) (sym is) (record {
  spelled = lawful.holds.holds.spelled;
  none_above = can.0.none_above;
  ids = λ t e lists. elim (nat_or t g.base) [
    | inl same ↦
        listed_below g.files g.base g.next lawful.holds.holds.entries lawful.holds.holds.segments e
        lawful.holds.holds.spelled (subst (λ (n : ℕ). Lists g.files n e) same lists)
    | inr other ↦ elim (cases_lt t g.base) [
      | inl below ↦ lawful.above t e below lists
      | inr ge ↦ absurd (not_above g t e can lists (omega (arith, other, ge)))
    ]
  ];
})

-- the writer is on the lawful commit
pub begins_lawful : OpenedGoOn → OpenedStand → (g : Given) (last : Opened) (size merge : ℕ) (w : State) → CanRun g
    → (lawful : IsLawful g.files g.base g.next g.rows)
    → last ≡ record {
      number = g.base;
      next_id = g.next;
      entries = lawful.holds.holds.entries;
      segments = lawful.holds.holds.segments;
    } → w ≡ opened_on last size merge → IsOnGiven g w
begins_lawful law stand g last size merge w can lawful is on = subst (IsOnGiven g) (sym on) here
  where
    last_is : IsLastOf g.files last
    last_is = last_of_given g last can lawful is

    rows : HasRows (opened_on last size merge) g.rows
    rows = subst (λ (x : Opened). HasRows (opened_on x size merge) g.rows) (sym is)
        (record { rows_are = lawful.holds.holds.rows_are; inverted = lawful.holds.inverted })

    here : IsOnGiven g (opened_on last size merge)
    here = record {
      number = ap (λ (x : Opened). x.number) is;
      next_id = ap (λ (x : Opened). x.next_id) is;
      rows = rows;
      goes_on = (law g.files last).goes_on size merge last_is;
      of_last =
          opened_of_last law g last size merge (ap (λ (x : Opened). x.number) is) last_is.spelled;
      on_last = stand g.files last size merge last_is.spelled;
      room = lawful.room;
    }
