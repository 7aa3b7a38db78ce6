-- Segments merged: that they can be, and what they stand for then.
use Rattle.std.proofs.Common.{◌≡◌, ◌∙◌, ℕ, ◌+◌, ◌<◌, ◌≤◌, ◌^◌, length, Bool, true, false, cond, not, List, [], ◌∷◌, ◌++◌, Option, Some, None, refl, sym, ap, subst, arith, append-nil, IsPermutation}
use Rattle.std.specs.List.{AllByRecursion, flat_map}
use Rattle.std.proofs.lemmas.Grind.{flat_map-append}
use Rattle.std.proofs.lemmas.List.Sorted.{IsPermutation-append_right, IsPermutation-sym, IsPermutation-trans}
use Rattle.ix_base.specs.declared.document.Row.{Row}
use Rattle.segment_core.specs.LiveRows.{Lived, all_live, live}
use Rattle.segment_core.specs.Segments.{IsInverted}
use Rattle.segment_core.specs.Births.{EachRises}
use Rattle.segment_core.proofs.Numbers.{births_differ, lists_joined}
use Rattle.commit_point.specs.Writing.{CanWrite, SegmentIdsRise}
use Rattle.merge_core.specs.Merging.{AreAt, CanMerge, IsMerged, IsOrdered, Sources}
use Rattle.merge_core.specs.Merging.{Merged as MergedInto}
use Rattle.merge_core.specs.Reading.{HasRead}
use Rattle.merge_core.specs.declared.merge.Merge.{Merge}
use Rattle.merge_core.specs.Picking.{is_among}
use Rattle.flush_control.specs.Merging.{EndsMerge, MergesStand, Steps, replaced, without}
use Rattle.flush_control.specs.declared.merging.MergeTurn.TheVariants.{Idle, Merged, Stepped}
use Rattle.flush_control.specs.Published.{IdsDiffer, IsPublished}
use Rattle.flush_control.specs.declared.published.Published.{Published}
use Rattle.flush_control.proofs.Numbers.{lists_merged, lists_parted}
use Rattle.flush_control.proofs.Parting.{each_source, parted}
use Rattle.flush_control.proofs.Segments.{all_joined, ids_joined, some_live}

-- ---- the segments that are picked can be merged

rises : (n : ℕ) (ss : List Lived) → AllByRecursion (CanWrite n) ss → EachRises n ss
rises n [] all = tt
rises n (s ∷ ss) all = (all.0.births, rises n ss all.1)

pub are_at : (n : ℕ) (ss : List Lived) → AllByRecursion (CanWrite n) ss → AreAt n ss
are_at n [] all = tt
are_at n (s ∷ ss) all = (all.0.applied, are_at n ss all.1)

are_ordered : (n : ℕ) (ss : List Lived) → AllByRecursion (CanWrite n) ss → AllByRecursion IsOrdered ss
are_ordered n [] all = tt
are_ordered n (s ∷ ss) all = (all.0.ordered, are_ordered n ss all.1)

-- the rows of the segments are those of the ones that stay and of the sources
pub rows_parted : (p : Published) (ids : List ℕ) (ss : List Lived) (f : Lived → List Row) → IsPublished p → IdsDiffer ids
    → Sources p.segments ids ss → IsPermutation (flat_map f p.segments) (flat_map f (without ids p.segments) ++ flat_map f ss)
rows_parted p ids ss f published apart found = parted f 1 p.next_id p.segments ids ss published.ids apart found

pub can_merge : (p : Published) (ids : List ℕ) (ss : List Lived) → IsPublished p → IdsDiffer ids → Sources p.segments ids ss → length (all_live ss) < 2 ^ 31 → CanMerge ss
can_merge p ids ss published apart found few = record {
  limit = p.upto;
  rise = rises p.upto ss (each_source (CanWrite p.upto) p.segments ids ss published.can found);
  differ =
      births_differ p.upto ss (rises p.upto ss (each_source (CanWrite p.upto) p.segments ids ss published.can found))
      (λ n. omega (arith, lists_parted p ids ss n published apart found, published.apart n));
  ordered = are_ordered p.upto ss (each_source (CanWrite p.upto) p.segments ids ss published.can found);
  few = few;
}

pub sources_at : (p : Published) (ids : List ℕ) (ss : List Lived) → IsPublished p → Sources p.segments ids ss → AreAt p.upto ss
sources_at p ids ss published found = are_at p.upto ss (each_source (CanWrite p.upto) p.segments ids ss published.can found)

-- ---- the segments that stay

pub all_stay : (P : Lived → Type 0) (ids : List ℕ) (gs : List Lived) → AllByRecursion P gs → AllByRecursion P (without ids gs)
all_stay P ids [] all = tt
all_stay P ids (g ∷ gs) all = by (is_among ids g) (all_stay P ids gs all.1)
  where
    by : (b : Bool) → AllByRecursion P (without ids gs) → AllByRecursion P (cond (not b) (g ∷ without ids gs) (without ids gs))
    by true more = more
    by false more = (all.0, more)

lower : (low more limit : ℕ) (gs : List Lived) → low ≤ more → SegmentIdsRise more limit gs → SegmentIdsRise low limit gs
lower low more limit [] le rise = tt
lower low more limit (g ∷ gs) le rise = (omega (arith, le, rise.0), rise.1, rise.2)

ids_stay : (low limit : ℕ) (ids : List ℕ) (gs : List Lived) → SegmentIdsRise low limit gs → SegmentIdsRise low limit (without ids gs)
ids_stay low limit ids [] rise = tt
ids_stay low limit ids (g ∷ gs) rise = by (is_among ids g) (ids_stay (g.segment.id + 1) limit ids gs rise.2)
  where
    by : (b : Bool) → SegmentIdsRise (g.segment.id + 1) limit (without ids gs) → SegmentIdsRise low limit (cond (not b) (g ∷ without ids gs) (without ids gs))
    by true more = lower low (g.segment.id + 1) limit (without ids gs) (omega (arith, rise.0)) more
    by false more = (rise.0, rise.1, more)

-- ---- after a merge

-- the merged segment can be listed
can_one : (p : Published) (ids : List ℕ) (ss : List Lived) (s : Lived) → IsPublished p → Sources p.segments ids ss
    → IsMerged ss p.next_id p.upto s → CanWrite p.upto s
can_one p ids ss s published found merged = record {
  some = some_live s merged.some;
  births = merged.births p.upto (rises p.upto ss (each_source (CanWrite p.upto) p.segments ids ss published.can found));
  ordered = merged.ordered;
  below = merged.below;
  applied = merged.applied_is;
}

live_more : (gs : List Lived) (s : Lived) → all_live (gs ++ s ∷ []) ≡ all_live gs ++ live s
live_more gs s = flat_map-append live gs (s ∷ []) ∙ ap (λ (rows : List Row). all_live gs ++ rows) (append-nil (live s))

-- no row of the sources is live
none_left : (p : Published) (ids : List ℕ) (ss : List Lived) → IsPublished p → IdsDiffer ids → Sources p.segments ids ss → all_live ss ≡ []
    → EndsMerge p (replaced ids None p)
none_left p ids ss published apart found none = record {
  published = record {
    can = all_stay (CanWrite p.upto) ids p.segments published.can;
    ids = ids_stay 1 p.next_id ids p.segments published.ids;
    some_id = published.some_id;
    apart = λ n. omega (arith, lists_parted p ids ss n published apart found, published.apart n);
    running = tt;
  };
  upto = refl;
  ids = omega arith;
  few = omega arith;
  rows = λ rows stands. record {
    rows_are = record {
      merged =
          IsPermutation-trans (all_live (without ids p.segments)) (all_live p.segments) rows
          (IsPermutation-sym (all_live p.segments) (all_live (without ids p.segments))
          (subst (IsPermutation (all_live p.segments)) (ap (λ (l : List Row). all_live (without ids p.segments) ++ l) none ∙ append-nil (all_live (without ids p.segments)))
          (rows_parted p ids ss live published apart found)))
          stands.rows_are.merged;
      births = stands.rows_are.births;
    };
    inverted = all_stay (λ (g : Lived). IsInverted g.segment) ids p.segments stands.inverted;
  };
}

some_left : (p : Published) (ids : List ℕ) (ss : List Lived) (s : Lived) → IsPublished p → IdsDiffer ids → Sources p.segments ids ss
    → IsMerged ss p.next_id p.upto s → EndsMerge p (replaced ids (Some s) p)
some_left p ids ss s published apart found merged =
    let stay = without ids p.segments in
    record {
      published = record {
        can = all_joined (CanWrite p.upto) stay (s ∷ []) (all_stay (CanWrite p.upto) ids p.segments published.can) (can_one p ids ss s published found merged, tt);
        ids = ids_joined 1 p.next_id (p.next_id + 1) stay (s ∷ []) published.some_id (omega arith) (ids_stay 1 p.next_id ids p.segments published.ids) (omega (arith, merged.id_is), omega (arith, merged.id_is), tt);
        some_id = omega arith;
        apart = λ n.
            omega (
              arith,
              lists_joined (λ (g : Lived). g.segment.rows) n stay (s ∷ []),
              lists_merged n ss s.segment.rows merged.stored,
              lists_parted p ids ss n published apart found,
              published.apart n,
            );
        running = tt;
      };
      upto = refl;
      ids = omega arith;
      few = omega arith;
      rows = λ rows stands. record {
        rows_are = record {
          merged =
              subst (λ (l : List Row). IsPermutation l rows) (sym (live_more stay s))
              (IsPermutation-trans (all_live stay ++ live s) (all_live stay ++ all_live ss) rows
              (IsPermutation-append_right (all_live stay) (live s) (all_live ss) merged.rows)
              (IsPermutation-trans (all_live stay ++ all_live ss) (all_live p.segments) rows
              (IsPermutation-sym (all_live p.segments) (all_live stay ++ all_live ss) (rows_parted p ids ss live published apart found))
              stands.rows_are.merged));
          births = stands.rows_are.births;
        };
        inverted = all_joined (λ (g : Lived). IsInverted g.segment) stay (s ∷ []) (all_stay (λ (g : Lived). IsInverted g.segment) ids p.segments stands.inverted) (merged.inverted (each_source (λ (g : Lived). IsInverted g.segment) p.segments ids ss stands.inverted found), tt);
      };
    }

merge_ends : (p : Published) (ids : List ℕ) (ss : List Lived) (one : Option Lived) → IsPublished p → IdsDiffer ids → Sources p.segments ids ss → MergedInto ss p.next_id p.upto one
    → EndsMerge p (replaced ids one p)
merge_ends p ids ss None published apart found merged = none_left p ids ss published apart found merged
merge_ends p ids ss (Some s) published apart found merged = some_left p ids ss s published apart found merged

stays : (old new : Published) → IsPublished old → new ≡ old → EndsMerge old new
stays old new published is = subst (EndsMerge old) (sym is) (record { published = published; upto = refl; ids = omega arith; few = omega arith; rows = λ rows stands. stands })

-- a merge that runs on
pub runs_on : (p : Published) (ids : List ℕ) (ss : List Lived) (run : Merge) (count : ℕ) → IsPublished p → IdsDiffer ids → Sources p.segments ids ss → run.ids.items ≡ ids → HasRead run ss count
    → IsPublished (record p { merge = Some run })
runs_on p ids ss run count published apart found same read = record {
  can = published.can;
  ids = published.ids;
  some_id = published.some_id;
  apart = published.apart;
  running = record {
    apart = subst IdsDiffer (sym same) apart;
    sources = ss;
    found = subst (λ (l : List ℕ). Sources p.segments l ss) (sym same) found;
    count = count;
    read = read;
  };
}

steps_end : (m rows : ℕ) (old new : Published) → IsPublished old → Steps m rows old new → EndsMerge old new
steps_end m rows old new published s =
    subst (EndsMerge old) (sym s.step.is)
    (record {
      published = runs_on old s.ids s.begun.sources s.step.run (s.begun.count + rows) published s.begun.apart s.begun.found s.step.same s.step.read;
      upto = refl;
      ids = omega arith;
      few = omega arith;
      rows = λ ds stands. record { rows_are = stands.rows_are; inverted = stands.inverted };
    })

pub merges_stand : MergesStand
merges_stand m rows Idle old new published turn = stays old new published turn.2
merges_stand m rows Stepped old new published turn = steps_end m rows old new published turn
merges_stand m rows Merged old new published turn =
    subst (EndsMerge old) (sym turn.end.is) (merge_ends old turn.ids turn.begun.sources turn.end.one published turn.begun.apart turn.begun.found turn.end.merged)
