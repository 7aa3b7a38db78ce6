-- A merge that reads all segments of a list.
use Rattle.std.proofs.Common.{◌≡◌, ◌∙◌, ℕ, ◌+◌, ◌≤◌, List, [], ◌∷◌, length, Option, Some, None, refl, sym, ap, subst, arith, rules, Contains}
use Rattle.std.specs.List.{cons_option, AllByRecursion}
use Rattle.std.proofs.lemmas.List.{append-nil}
use Rattle.std.proofs.lemmas.List.Elements.{Contains-append_right}
use Rattle.ix_base.specs.Births.{first_birth, last_birth}
use Rattle.ix_base.specs.declared.document.Row.{Row}
use Rattle.live_docs.specs.declared.live_docs.Mark.{Mark}
use Rattle.segment_files.specs.Fits.{BirthsRise}
use Rattle.segment_core.specs.Births.{at_most_one, births_at}
use Rattle.frozen_packet.specs.declared.updates.Updates.{Updates}
use Rattle.segment_core.specs.LiveRows.{Lived, IsBuilt, marked, live_rows, live, MarksLater}
use Rattle.segment_core.specs.declared.segment.Segment.{Segment}
use Rattle.merge_core.specs.Merging.{CanMerge, Sources, row_count}
use Rattle.merge_core.specs.Reading.{CanFinish, CanStart, HasRead, IsOf, IsStep, ReadingStays}
use Rattle.merge_core.specs.declared.merge.Merge.{Merge}
use Rattle.merge_core.specs.declared.merge.Step.{Step}
use Rattle.merge_core.specs.declared.merge.Step.TheVariants.{More, Ready}
use Rattle.merge_core_tests.specs.Reading.{AfterStep, AreSources, Reads, ids_in}

-- ---- sources

each_found : (all segments : List Lived) → AllByRecursion (Contains all) segments → Sources all (ids_in segments) segments
each_found all [] within = tt
each_found all (s ∷ segments) within = ((within.0, refl), each_found all segments within.1)

pub all_found : (segments : List Lived) (ids : List ℕ) → ids ≡ ids_in segments → Sources segments ids segments
all_found segments ids is =
    subst (λ (l : List ℕ). Sources segments l segments) (sym is) (each_found segments segments (own segments segments (λ s h. h)))
  where
    own : (all part : List Lived) → ((s : Lived) → Contains part s → Contains all s) → AllByRecursion (Contains all) part
    own all [] into = tt
    own all (s ∷ part) into = (into s (0, omega arith, refl), own all part (λ t h. into t (Contains-append_right (s ∷ []) part t h)))

-- ---- reading

pub is_of : (m : Merge) (segments : List Lived) (count : ℕ) → Reads m segments count → IsOf m segments
is_of m segments count reads = record {
  ids = reads.rise;
  sources = segments;
  found = all_found segments m.ids.items reads.ids;
  count = count;
  read = reads.read;
}

pub can_start : (segments : List Lived) (ids : List ℕ) → ids ≡ ids_in segments → AreSources segments → CanStart segments ids
can_start segments ids is own = record { rise = own.rise; sources = segments; found = all_found segments ids is; can = own.can }

pub starts : (m : Merge) (segments : List Lived) (ids : List ℕ) → ids ≡ ids_in segments → AreSources segments → m.ids.items ≡ ids
    → ((sources : List Lived) → Sources segments ids sources → HasRead m sources 0) → Reads m segments 0
starts m segments ids is own same reads = record {
  rise = own.rise;
  ids = same ∙ is;
  read = reads segments (all_found segments ids is);
  applied = own.applied;
  same = own.same;
}

pub steps : (old new : Merge) (segments : List Lived) (rows count : ℕ) (step : Step) → Reads old segments count → new.ids.items ≡ old.ids.items
    → ((sources : List Lived) (count : ℕ) → Sources segments old.ids.items sources → HasRead old sources count → IsStep new sources (count + rows) step)
    → AfterStep new segments step
steps old new segments rows count More reads same told =
    let now = told segments count (all_found segments old.ids.items reads.ids) reads.read in
    (count + rows, record { rise = reads.rise; ids = same ∙ reads.ids; read = now.0; applied = reads.applied; same = reads.same })
steps old new segments rows count Ready reads same told =
    let now = told segments count (all_found segments old.ids.items reads.ids) reads.read in
    record { rise = reads.rise; ids = same ∙ reads.ids; read = now.0; applied = reads.applied; same = reads.same }

pub can_finish : (m : Merge) (segments : List Lived) → Reads m segments (row_count segments) → CanFinish m segments
can_finish m segments reads = record {
  ids = reads.rise;
  sources = segments;
  found = all_found segments m.ids.items reads.ids;
  read = reads.read;
  applied = reads.applied;
  same = reads.same;
}

-- ---- one segment

pub stays : (m : Merge) (s later : Lived) (count : ℕ) → Reads m (s ∷ []) count → ReadingStays → later.segment ≡ s.segment
    → MarksLater s.live.marks later.live.marks → Reads m (later ∷ []) count
stays m s later count reads stay segment marks = record {
  rise = search rules;
  ids = reads.ids ∙ sym (ap (λ (g : Segment). g.id ∷ []) segment);
  read = stay m (s ∷ []) (later ∷ []) count reads.read (record { segment = segment; marks = marks }, tt);
  applied = later.live.applied;
  same = (refl, tt);
}

live_most : (rows : List Row) (marks : List Mark) → length (live_rows rows marks) ≤ length rows
live_most [] marks = omega arith
live_most (row ∷ rows) [] = omega arith
live_most (row ∷ rows) (m ∷ marks) = by (marked row m) (live_most rows marks)
  where
    by : (x : Option Row) → length (live_rows rows marks) ≤ length rows → length (cons_option x (live_rows rows marks)) ≤ length (row ∷ rows)
    by None more = omega (arith, more)
    by (Some r) more = omega (arith, more)

pub fewer_live : (s : Lived) → length (live s) ≤ length s.segment.rows
fewer_live s = live_most s.segment.rows s.live.marks

pub source_of : (given : List Row) (updates : Updates) (s : Lived) → BirthsRise (first_birth 1) (last_birth 4) given → length given ≡ 4 → IsBuilt given updates 1 9 s → AreSources (s ∷ [])
source_of given updates s rise long built = record {
  rise = search rules;
  can = record {
    limit = 4;
    rise = (own, tt);
    differ = λ b. subst (λ (rs : List Row). births_at b rs ≤ 1) (sym (append-nil s.segment.rows)) (at_most_one (first_birth 1) (last_birth 4) b s.segment.rows own);
    ordered = (built.inverted.ordered, tt);
    few = omega (arith, fewer_live s, ap (λ (rs : List Row). length rs) built.rows, long, ap (λ (rs : List Row). length rs) (append-nil (live s)));
  };
  applied = s.live.applied;
  same = (refl, tt);
}
  where
    own : BirthsRise (first_birth 1) (last_birth 4) s.segment.rows
    own = subst (BirthsRise (first_birth 1) (last_birth 4)) (sym built.rows) rise
