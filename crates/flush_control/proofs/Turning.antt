-- A merge turn.
use Rattle.std.proofs.Common.{◌≡◌, arith, ◌≤◌, ◌∙◌, inl, inr, ℕ, ◌+◌, Option, Some, None, List, [], ◌∷◌, ◌++◌, refl, sym, subst}
use Rattle.std.specs.Prelude.{Err, IfSome, Ok, OnErr, Result}
use Rattle.segment_core.specs.LiveRows.{Lived}
use Rattle.merge_core.specs.Merging.{Sources, row_count}
use Rattle.merge_core.specs.Reading.{CanFinish, HasRead, HasReadWithin, IsOf}
use Rattle.merge_core.specs.declared.merge.Merge.{Merge}
use Rattle.flush_control.specs.Merging.{Advanced, Begun, IsBegun, IsEnd, IsTaken, PicksStart, Runs, SameSegments, StillRuns, Turns, replaced, without}
use Rattle.flush_control.specs.Published.{IdsDiffer, IsPublished, IsRunning}
use Rattle.flush_control.specs.declared.merging.MergeTurn.{MergeTurn}
use Rattle.flush_control.specs.declared.merging.MergeTurn.TheVariants.{Idle, Merged, Stepped}
use Rattle.flush_control.specs.declared.published.Published.{Published}
use Rattle.flush_control.proofs.MergedSegments.{can_merge, runs_on, sources_at}
use Rattle.flush_control.proofs.Parting.{ids_rise, picked_apart}

pub record TakenRun (m : ℕ) (p : Published) (run : Merge) : Type 0 where
  pub begun : IsBegun m p run.ids.items
  pub read : HasRead run begun.sources begun.count

-- what is picked of published segments can be merged
pub picks_start : (m : ℕ) (p : Published) → IsPublished p → PicksStart m p.segments
picks_start m p published ids pick =
    let apart = subst IdsDiffer (sym pick.first) (picked_apart 1 p.next_id m p.segments pick.ranks published.ids pick.ranked.moved) in
    record {
      rise = ids_rise 1 p.next_id p.segments published.ids;
      sources = pick.sources;
      found = pick.found;
      can = can_merge p ids pick.sources published apart pick.found pick.few;
    }

pub taken_runs : (m : ℕ) (p : Published) (run : Merge) → IsPublished p → IsTaken m p run → TakenRun m p run
taken_runs m p run published (inl is) =
    let runs : IsRunning p.segments run = subst (λ (o : Option Merge). IfSome o (IsRunning p.segments)) is published.running in
    record {
      begun = record {
        sources = runs.sources;
        found = runs.found;
        apart = runs.apart;
        count = runs.count;
        begun = subst (λ (o : Option Merge). Begun m p run.ids.items runs.sources runs.count o) (sym is) (refl, runs.read);
      };
      read = runs.read;
    }
taken_runs m p run published (inr h) =
    let pick = h.1.picked in
    let apart = subst IdsDiffer (sym pick.first) (picked_apart 1 p.next_id m p.segments pick.ranks published.ids pick.ranked.moved) in
    record {
      begun = record {
        sources = pick.sources;
        found = pick.found;
        apart = apart;
        count = 0;
        begun = subst (λ (o : Option Merge). Begun m p run.ids.items pick.sources 0 o) (sym h.0) (refl, pick, refl);
      };
      read = h.1.read pick.sources pick.found;
    }

-- the published segments with no merge
abbrev pub without_merge : Published → Published
without_merge p = record p { merge = None }

pub runs_taken : (m : ℕ) (p : Published) (run : Merge) → (t : TakenRun m p run) → Runs (without_merge p) run t.begun.sources t.begun.count
runs_taken m p run t = record { found = t.begun.found; apart = t.begun.apart; read = t.read }

replaced_without : (ids : List ℕ) (one : Option Lived) (p : Published) → replaced ids one (without_merge p) ≡ replaced ids one p
replaced_without ids None p = refl
replaced_without ids (Some s) p = refl

pub turned : (m rows : ℕ) (p : Published) (run : Merge) (t : TakenRun m p run) (turn : MergeTurn) (new : Published)
    → Advanced rows (without_merge p) run t.begun.sources t.begun.count turn new → Turns m rows p turn new
turned m rows p run t Idle new a = absurd a
turned m rows p run t Stepped new a = record {
  ids = run.ids.items;
  begun = t.begun;
  step = record { run = a.run; same = a.same; read = a.read; left = a.left; is = a.is };
}
turned m rows p run t Merged new a = record {
  ids = run.ids.items;
  begun = t.begun;
  all = a.0;
  end = record { one = a.1.one; merged = a.1.merged; is = a.1.is ∙ replaced_without run.ids.items a.1.one p };
}

-- ---- a step

pub is_of : (p : Published) (run : Merge) (ss : List Lived) (count : ℕ) (gs : List Lived) → IsPublished p → Runs p run ss count → gs ≡ p.segments → IsOf run gs
is_of p run ss count gs published runs is =
    subst (IsOf run) (sym is) (record { ids = ids_rise 1 p.next_id p.segments published.ids; sources = ss; found = runs.found; count = count; read = runs.read })

pub runs_still : (p : Published) (was run : Merge) (ss : List Lived) (count now : ℕ) → Runs p was ss count → run.ids.items ≡ was.ids.items → HasRead run ss now → Runs p run ss now
runs_still p was run ss count now runs same read = record {
  found = subst (λ (ids : List ℕ). Sources p.segments ids ss) (sym same) runs.found;
  apart = subst IdsDiffer (sym same) runs.apart;
  read = read;
}

pub kept_running : (p : Published) (was run : Merge) (ss : List Lived) (count now : ℕ) → IsPublished p → Runs p was ss count → run.ids.items ≡ was.ids.items → HasRead run ss now
    → SameSegments p (record p { merge = Some run })
kept_running p was run ss count now published runs same read = record {
  segments = refl;
  next_id = refl;
  upto = refl;
  published = runs_on p was.ids.items ss run now published runs.apart runs.found same read;
}

pub ended : (rows : ℕ) (p : Published) (was run : Merge) (ss : List Lived) (count : ℕ) (turn : MergeTurn) (new : Published) → run.ids.items ≡ was.ids.items
    → row_count ss ≤ count + rows → turn ≡ Merged → IsEnd p run.ids.items ss new → Advanced rows p was ss count turn new
ended rows p was run ss count turn new same all is end =
    subst (λ (t : MergeTurn). Advanced rows p was ss count t new) (sym is)
    (all, subst (λ (ids : List ℕ). IsEnd p ids ss new) same end)

-- ---- the end

pub can_finish : (p : Published) (run : Merge) (ss gs : List Lived) → IsPublished p → Runs p run ss (row_count ss) → gs ≡ p.segments → CanFinish run gs
can_finish p run ss gs published runs is =
    subst (CanFinish run) (sym is) (record {
      ids = ids_rise 1 p.next_id p.segments published.ids;
      sources = ss;
      found = runs.found;
      read = runs.read;
      applied = p.upto;
      same = sources_at p run.ids.items ss published runs.found;
    })

pub same_replaced : (ids : List ℕ) (one : Option Lived) (gs : List Lived) (p q : Published) → gs ≡ p.segments → q.next_id ≡ p.next_id → q.upto ≡ p.upto
    → replaced ids one (record q { segments = gs }) ≡ replaced ids one p
same_replaced ids None gs p q is next upto = λ i. record {
  segments = without ids (is i);
  next_id = next i;
  upto = upto i;
  merge = None;
  gone = q.gone;
}
same_replaced ids (Some s) gs p q is next upto = λ i. record {
  segments = without ids (is i) ++ s ∷ [];
  next_id = next i + 1;
  upto = upto i;
  merge = None;
  gone = q.gone;
}

-- ---- after an error

pub still_runs : (rows : ℕ) (p : Published) (was run : Merge) (new : Published) → new.merge ≡ Some run → run.ids.items ≡ was.ids.items
    → ((ss : List Lived) (count : ℕ) → Runs p was ss count → HasReadWithin run ss count (count + rows)) → StillRuns rows p was new
still_runs rows p was run new is same read = record { run = run; is = is; same = same; read = read }

-- a merge of which all was read, and that was refused
pub refused_runs : (rows : ℕ) (p : Published) (was run : Merge) (new : Published) → new.merge ≡ Some run → run.ids.items ≡ was.ids.items
    → ((ss : List Lived) (count : ℕ) → Runs p was ss count → HasRead run ss (row_count ss) × (row_count ss ≤ count + rows)) → StillRuns rows p was new
refused_runs rows p was run new is same read = record {
  run = run;
  is = is;
  same = same;
  read = λ ss count runs. let all = read ss count runs in (row_count ss, omega (arith, runs.read.counted), all.1, all.0);
}

pub kept_run : (m rows : ℕ) (p : Published) (run : Merge) (new : Published) → StillRuns rows (without_merge p) run new → IsTaken m p run → IfSome p.merge (λ r. StillRuns rows p r new)
kept_run m rows p run new still (inl is) =
    subst (λ (o : Option Merge). IfSome o (λ r. StillRuns rows p r new)) (sym is)
    (record { run = still.run; is = still.is; same = still.same; read = λ ss count runs. still.read ss count (record { found = runs.found; apart = runs.apart; read = runs.read }) })
kept_run m rows p run new still (inr h) = subst (λ (o : Option Merge). IfSome o (λ r. StillRuns rows p r new)) (sym h.0) tt

pub on_err : {T E : Type 0} (r : Result T E) (P : Type 0) → P → OnErr r P
on_err (Ok x) P p = tt
on_err (Err e) P p = p
