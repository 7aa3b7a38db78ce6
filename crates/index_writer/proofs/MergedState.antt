-- A merge turn on a writer's segments.
use Rattle.std.proofs.Common.{◌≡◌, ◌∙◌, ℕ, ◌+◌, ◌<◌, ◌≤◌, Bool, true, false, cond, not, eqb, List, [], ◌∷◌, ◌++◌, Option, Some, None, IfSome, length, refl, sym, ap, subst, arith, append-nil, length-append}
use Rattle.std.specs.Prelude.{nat_lt, ◌||◌}
use Rattle.std.specs.List.{AllByRecursion, list_any}
use Rattle.std.proofs.lemmas.Bool.{eq-eqb, eqb-true}
use Rattle.std.proofs.lemmas.List.Folds.{list_any-append}
use Rattle.ix_outside.specs.Files.{Files}
use Rattle.segment_core.specs.LiveRows.{Lived}
use Rattle.commit_point.specs.declared.written.Written.{Written}
use Rattle.commit_point.specs.Writing.{AreWritten, SegmentIdsRise, WrittenUpTo}
use Rattle.merge_core.specs.Merging.{Merged as MergedInto}
use Rattle.merge_core.specs.Picking.{is_among}
use Rattle.merge_core.specs.declared.merge.Merge.{Merge}
use Rattle.flush_control.specs.Merging.{MergesStand, StillRuns, Turns, replaced, without}
use Rattle.flush_control.specs.declared.merging.MergeTurn.{MergeTurn}
use Rattle.flush_control.specs.declared.merging.MergeTurn.TheVariants.{Idle, Merged, Stepped}
use Rattle.flush_control.specs.declared.published.Published.{Published}
use Rattle.index_writer.specs.declared.state.State.{State}
use Rattle.index_writer.specs.Merging.{Merges, followed, ids_of, is_there, staying}
use Rattle.index_writer.specs.Ready.{CanBePending, IsReady, NewIdsFrom}

-- ---- the merged segment, if there is one

list_of : Option Lived → List Lived
list_of None = []
list_of (Some s) = s ∷ []

-- what is on the store of it
of_merged : Option Lived → List (Option Written)
of_merged None = []
of_merged (Some s) = None ∷ []

segments_of : (ids : List ℕ) (one : Option Lived) (p : Published) → (replaced ids one p).segments ≡ without ids p.segments ++ list_of one
unfolding list_of
segments_of ids None p = sym (append-nil (without ids p.segments))
segments_of ids (Some s) p = refl

-- it has this id
HasId : ℕ → Option Lived → Type 0
HasId id None = Unit {0}
HasId id (Some s) = s.segment.id ≡ id

has_id : (ss : List Lived) (id applied : ℕ) (one : Option Lived) → MergedInto ss id applied one → HasId id one
unfolding HasId
has_id ss id applied None merged = tt
has_id ss id applied (Some s) merged = merged.id_is

new_one : (since id : ℕ) (one : Option Lived) → HasId id one → since ≤ id → NewIdsFrom since (list_of one) (of_merged one)
unfolding list_of of_merged HasId
new_one since id None is le = tt
new_one since id (Some s) is le = (omega (arith, le, is), tt)

one_stands : (files : Files) (n : ℕ) (one : Option Lived) → AreWritten files n (list_of one) (of_merged one)
unfolding list_of of_merged
one_stands files n None = tt
one_stands files n (Some s) = (λ alive. tt, tt)

none_above : (n : ℕ) (one : Option Lived) → AllByRecursion (WrittenUpTo n) (of_merged one)
unfolding of_merged
none_above n None = tt
none_above n (Some s) = (tt, tt)

one_counted : (one : Option Lived) → length (of_merged one) ≡ length (list_of one)
unfolding list_of of_merged
one_counted None = refl
one_counted (Some s) = refl

-- it came where the next id rose
came_is : (ids : List ℕ) (one : Option Lived) (p : Published) → cond (nat_lt p.next_id (replaced ids one p).next_id) (None ∷ []) [] ≡ of_merged one
unfolding of_merged
came_is ids None p = ap (λ (b : Bool). cond b (None ∷ []) []) (not_less p.next_id)
  where
    not_less : (n : ℕ) → nat_lt n n ≡ false
    not_less n = grind arith
came_is ids (Some s) p = ap (λ (b : Bool). cond b (None ∷ []) []) (less p.next_id)
  where
    less : (n : ℕ) → nat_lt n (n + 1) ≡ true
    less n = grind arith

-- ---- which segments are still there

or_right : (a b : Bool) → b ≡ true → (a || b) ≡ true
or_right true b is = refl
or_right false b is = is

or_none : (a b : Bool) → a ≡ false → b ≡ false → (a || b) ≡ false
or_none a b none no_other = ap (λ (c : Bool). c || b) none ∙ no_other

all_map : (P Q : Lived → Type 0) (gs : List Lived) → ((g : Lived) → P g → Q g) → AllByRecursion P gs → AllByRecursion Q gs
all_map P Q [] f all = tt
all_map P Q (g ∷ gs) f all = (f g all.0, all_map P Q gs f all.1)

-- one that is replaced is not
gone : (ids : List ℕ) (g : Lived) (gs : List Lived) → is_among ids g ≡ true → is_there (without ids gs) g.segment.id ≡ false
gone ids g [] among = refl
gone ids g (x ∷ xs) among = by (is_among ids x) refl (gone ids g xs among)
  where
    by : (b : Bool) → is_among ids x ≡ b → is_there (without ids xs) g.segment.id ≡ false
        → is_there (cond (not b) (x ∷ without ids xs) (without ids xs)) g.segment.id ≡ false
    by true is rest = rest
    by false is rest = tells (eqb x.segment.id g.segment.id) refl
      where
        tells : (c : Bool) → eqb x.segment.id g.segment.id ≡ c → (c || is_there (without ids xs) g.segment.id) ≡ false
        tells true e =
            let same : is_among ids x ≡ is_among ids g = ap (λ (n : ℕ). list_any (λ (id : ℕ). eqb id n) ids) (eqb-true x.segment.id g.segment.id e) in
            let apart : false ≡ true = sym is ∙ (same ∙ among) in absurd cc
        tells false e = rest

-- each of the others is
still_there : (ids : List ℕ) (gs : List Lived) → AllByRecursion (λ (g : Lived). is_among ids g ≡ false → is_there (without ids gs) g.segment.id ≡ true) gs
still_there ids [] = tt
still_there ids (x ∷ xs) = (first, all_map _ _ xs (λ g here not_among. by g (is_among ids x) (here not_among)) (still_there ids xs))
  where
    by : (g : Lived) (b : Bool) → is_there (without ids xs) g.segment.id ≡ true
        → is_there (cond (not b) (x ∷ without ids xs) (without ids xs)) g.segment.id ≡ true
    by g true rest = rest
    by g false rest = or_right (eqb x.segment.id g.segment.id) (is_there (without ids xs) g.segment.id) rest

    first : is_among ids x ≡ false → is_there (cond (not (is_among ids x)) (x ∷ without ids xs) (without ids xs)) x.segment.id ≡ true
    first not_among =
        subst (λ (b : Bool). is_there (cond (not b) (x ∷ without ids xs) (without ids xs)) x.segment.id ≡ true) (sym not_among)
        (ap (λ (b : Bool). b || is_there (without ids xs) x.segment.id) (eq-eqb x.segment.id x.segment.id refl))

-- the merged one has an id that no other has
not_new : (id : ℕ) (one : Option Lived) (g : Lived) → HasId id one → g.segment.id < id → is_there (list_of one) g.segment.id ≡ false
unfolding list_of HasId
not_new id None g is less = refl
not_new id (Some s) g is less = tells (eqb s.segment.id g.segment.id) refl
  where
    tells : (c : Bool) → eqb s.segment.id g.segment.id ≡ c → (c || false) ≡ false
    tells true e = absurd (omega (arith, eqb-true s.segment.id g.segment.id e, is, less))
    tells false e = refl

-- whether a segment is still there
abbrev IsTold : List ℕ → List Lived → Lived → Type 0
IsTold ids there g = is_there there g.segment.id ≡ not (is_among ids g)

told : (ids : List ℕ) (one : Option Lived) (id : ℕ) (all gs : List Lived) → HasId id one → AllByRecursion (λ (g : Lived). g.segment.id < id) gs
    → AllByRecursion (λ (g : Lived). is_among ids g ≡ false → is_there (without ids all) g.segment.id ≡ true) gs
    → AllByRecursion (IsTold ids (without ids all ++ list_of one)) gs
told ids one id all [] is less there = tt
told ids one id all (g ∷ gs) is less there = (
  list_any-append (λ (x : Lived). eqb x.segment.id g.segment.id) (without ids all) (list_of one) ∙ by (is_among ids g) refl,
  told ids one id all gs is less.1 there.1,
)
  where
    by : (b : Bool) → is_among ids g ≡ b → (is_there (without ids all) g.segment.id || is_there (list_of one) g.segment.id) ≡ not b
    by true among = or_none _ _ (gone ids g all among) (not_new id one g is less.0)
    by false among = ap (λ (c : Bool). c || is_there (list_of one) g.segment.id) (there.0 among)

ids_less : (low limit : ℕ) (gs : List Lived) → SegmentIdsRise low limit gs → AllByRecursion (λ (g : Lived). g.segment.id < limit) gs
ids_less low limit [] rise = tt
ids_less low limit (g ∷ gs) rise = (rise.1, ids_less (g.segment.id + 1) limit gs rise.2)

-- ---- what is on the store of the segments that stay

-- the same by the ids that are replaced
abbrev left : List ℕ → List Lived → List (Option Written) → List (Option Written)
left ids [] ws = []
left ids (g ∷ gs) [] = []
left ids (g ∷ gs) (w ∷ ws) = cond (not (is_among ids g)) (w ∷ []) [] ++ left ids gs ws

stays_left : (ids : List ℕ) (there gs : List Lived) (ws : List (Option Written)) → AllByRecursion (IsTold ids there) gs
    → staying there (ids_of gs) ws ≡ left ids gs ws
stays_left ids there [] ws all = refl
stays_left ids there (g ∷ gs) [] all = refl
stays_left ids there (g ∷ gs) (w ∷ ws) all =
    ap (λ (b : Bool). cond b (w ∷ []) [] ++ staying there (ids_of gs) ws) all.0
    ∙ ap (λ (xs : List (Option Written)). cond (not (is_among ids g)) (w ∷ []) [] ++ xs) (stays_left ids there gs ws all.1)

left_count : (ids : List ℕ) (gs : List Lived) (ws : List (Option Written)) → length ws ≡ length gs
    → length (left ids gs ws) ≡ length (without ids gs)
left_count ids [] ws same = refl
left_count ids (g ∷ gs) [] same = absurd (omega (arith, same))
left_count ids (g ∷ gs) (w ∷ ws) same = by (is_among ids g) (left_count ids gs ws (omega (arith, same)))
  where
    by : (b : Bool) → length (left ids gs ws) ≡ length (without ids gs)
        → length (cond (not b) (w ∷ []) [] ++ left ids gs ws) ≡ length (cond (not b) (g ∷ without ids gs) (without ids gs))
    by true more = more
    by false more = omega (arith, more)

left_upto : (n : ℕ) (ids : List ℕ) (gs : List Lived) (ws none : List (Option Written)) → AllByRecursion (WrittenUpTo n) ws
    → AllByRecursion (WrittenUpTo n) none → AllByRecursion (WrittenUpTo n) (left ids gs ws ++ none)
left_upto n ids [] ws none all rest = rest
left_upto n ids (g ∷ gs) [] none all rest = rest
left_upto n ids (g ∷ gs) (w ∷ ws) none all rest = by (is_among ids g) (left_upto n ids gs ws none all.1 rest)
  where
    by : (b : Bool) → AllByRecursion (WrittenUpTo n) (left ids gs ws ++ none)
        → AllByRecursion (WrittenUpTo n) ((cond (not b) (w ∷ []) [] ++ left ids gs ws) ++ none)
    by true more = more
    by false more = (all.0, more)

left_ids : (since : ℕ) (ids : List ℕ) (gs more : List Lived) (ws none : List (Option Written)) → length ws ≡ length gs
    → NewIdsFrom since gs ws → NewIdsFrom since more none → NewIdsFrom since (without ids gs ++ more) (left ids gs ws ++ none)
left_ids since ids [] more [] none same new rest = rest
left_ids since ids [] more (w ∷ ws) none same new rest = absurd (omega (arith, same))
left_ids since ids (g ∷ gs) more [] none same new rest = absurd (omega (arith, same))
left_ids since ids (g ∷ gs) more (None ∷ ws) none same new rest =
    by (is_among ids g) (left_ids since ids gs more ws none (omega (arith, same)) new.1 rest)
  where
    by : (b : Bool) → NewIdsFrom since (without ids gs ++ more) (left ids gs ws ++ none)
        → NewIdsFrom since (cond (not b) (g ∷ without ids gs) (without ids gs) ++ more) ((cond (not b) (None ∷ []) [] ++ left ids gs ws) ++ none)
    by true stay = stay
    by false stay = (new.0, stay)
left_ids since ids (g ∷ gs) more (Some w ∷ ws) none same new rest =
    by (is_among ids g) (left_ids since ids gs more ws none (omega (arith, same)) new rest)
  where
    by : (b : Bool) → NewIdsFrom since (without ids gs ++ more) (left ids gs ws ++ none)
        → NewIdsFrom since (cond (not b) (g ∷ without ids gs) (without ids gs) ++ more) ((cond (not b) (Some w ∷ []) [] ++ left ids gs ws) ++ none)
    by true stay = stay
    by false stay = stay

left_stored : (files : Files) (n : ℕ) (ids : List ℕ) (gs more : List Lived) (ws none : List (Option Written)) → length ws ≡ length gs
    → AreWritten files n gs ws → AreWritten files n more none → AreWritten files n (without ids gs ++ more) (left ids gs ws ++ none)
left_stored files n ids [] more [] none same are rest = rest
left_stored files n ids [] more (w ∷ ws) none same are rest = absurd (omega (arith, same))
left_stored files n ids (g ∷ gs) more [] none same are rest = absurd (omega (arith, same))
left_stored files n ids (g ∷ gs) more (w ∷ ws) none same are rest =
    by (is_among ids g) (left_stored files n ids gs more ws none (omega (arith, same)) are.1 rest)
  where
    by : (b : Bool) → AreWritten files n (without ids gs ++ more) (left ids gs ws ++ none)
        → AreWritten files n (cond (not b) (g ∷ without ids gs) (without ids gs) ++ more) ((cond (not b) (w ∷ []) [] ++ left ids gs ws) ++ none)
    by true stay = stay
    by false stay = (are.0, stay)

-- ---- the state

-- the state after a turn: its segments, and what is on the store of them
abbrev pub on_turn : MergeTurn → State → Published → State
on_turn turn s new = record s {
  published = new;
  written = followed turn new.segments (ids_of s.published.segments) s.written (nat_lt s.published.next_id new.next_id);
}

still_pending : (s t : State) (o : Option ℕ) → t.published.upto ≡ s.published.upto → t.last ≡ s.last → IfSome o (CanBePending s)
    → IfSome o (CanBePending t)
still_pending s t None upto last can = tt
still_pending s t (Some n) upto last can = (can.0 ∙ sym upto, omega (arith, can.1, last))

-- what is on the store of the segments where some of them were replaced
follows : (ids : List ℕ) (one : Option Lived) (p : Published) (ws : List (Option Written)) → SegmentIdsRise 1 p.next_id p.segments → HasId p.next_id one
    → followed Merged (replaced ids one p).segments (ids_of p.segments) ws (nat_lt p.next_id (replaced ids one p).next_id) ≡ left ids p.segments ws ++ of_merged one
follows ids one p ws rise is =
    ap (λ (xs : List (Option Written)). staying (replaced ids one p).segments (ids_of p.segments) ws ++ xs) (came_is ids one p)
    ∙ (ap (λ (gs : List Lived). staying gs (ids_of p.segments) ws ++ of_merged one) (segments_of ids one p)
    ∙ ap (λ (xs : List (Option Written)). xs ++ of_merged one)
    (stays_left ids (without ids p.segments ++ list_of one) p.segments ws
    (told ids one p.next_id p.segments p.segments is (ids_less 1 p.next_id p.segments rise) (still_there ids p.segments))))

-- what a turn leaves of what is known of the store
record Follows (s : State) (new : Published) (ws : List (Option Written)) : Type 0 where
  count : length ws ≡ length new.segments
  written : AllByRecursion (WrittenUpTo s.published.upto) ws
  new_ids : NewIdsFrom s.since new.segments ws
  stored : (files : Files) → AreWritten files s.published.upto s.published.segments s.written → AreWritten files s.published.upto new.segments ws

follows_end : (s : State) (ids : List ℕ) (one : Option Lived) → IsReady s → HasId s.published.next_id one
    → Follows s (replaced ids one s.published) (left ids s.published.segments s.written ++ of_merged one)
follows_end s ids one ready is =
    let p = s.published in
    let gs = p.segments in
    let ws = left ids gs s.written ++ of_merged one in
    let all = segments_of ids one p in
    record {
      count =
          omega (
            arith,
            length-append (left ids gs s.written) (of_merged one),
            left_count ids gs s.written ready.count,
            one_counted one,
            length-append (without ids gs) (list_of one),
            ap (λ (xs : List Lived). length xs) all,
          );
      written = left_upto p.upto ids gs s.written (of_merged one) ready.written (none_above p.upto one);
      new_ids = subst (λ (xs : List Lived). NewIdsFrom s.since xs ws) (sym all) (left_ids s.since ids gs (list_of one) s.written (of_merged one) ready.count ready.new_ids (new_one s.since p.next_id one is ready.since));
      stored = λ files stored.
          subst (λ (xs : List Lived). AreWritten files p.upto xs ws) (sym all)
          (left_stored files p.upto ids gs (list_of one) s.written (of_merged one) ready.count stored (one_stands files p.upto one));
    }

follows_same : (s : State) (new : Published) → IsReady s → new.segments ≡ s.published.segments → Follows s new s.written
follows_same s new ready same = record {
  count = ready.count ∙ ap (λ (gs : List Lived). length gs) (sym same);
  written = ready.written;
  new_ids = subst (λ (gs : List Lived). NewIdsFrom s.since gs s.written) (sym same) ready.new_ids;
  stored = λ files stored. subst (λ (gs : List Lived). AreWritten files s.published.upto gs s.written) (sym same) stored;
}

follows_turn : (s : State) (rows : ℕ) (turn : MergeTurn) (new : Published) → IsReady s → Turns s.merge rows s.published turn new
    → Follows s new (on_turn turn s new).written
follows_turn s rows Idle new ready turns = follows_same s new ready (ap (λ (p : Published). p.segments) turns.2)
follows_turn s rows Stepped new ready turns = follows_same s new ready (ap (λ (p : Published). p.segments) turns.step.is)
follows_turn s rows Merged new ready turns =
    let p = s.published in
    let is = has_id turns.begun.sources p.next_id p.upto turns.end.one turns.end.merged in
    subst (λ (q : Published). Follows s q (on_turn Merged s q).written) (sym turns.end.is)
    (subst (Follows s (replaced turns.ids turns.end.one p)) (sym (follows turns.ids turns.end.one p s.written ready.published.ids is))
    (follows_end s turns.ids turns.end.one ready is))

pub ready_turn : MergesStand → (s : State) (rows : ℕ) (turn : MergeTurn) (new : Published) → IsReady s → Turns s.merge rows s.published turn new
    → IsReady (on_turn turn s new)
ready_turn law s rows turn new ready turns =
    let ends = law s.merge rows turn s.published new ready.published turns in
    let store = follows_turn s rows turn new ready turns in
    record {
      published = ends.published;
      count = store.count;
      written = subst (λ (n : ℕ). AllByRecursion (WrittenUpTo n) (on_turn turn s new).written) (sym ends.upto) store.written;
      new_ids = store.new_ids;
      since = omega (arith, ready.since, ends.ids);
      last = omega (arith, ready.last, ends.upto);
      pending = still_pending s (on_turn turn s new) s.pending ends.upto refl ready.pending;
      some = ready.some;
      most = ready.most;
      several = ready.several;
      within = ready.within;
    }

pub merges : MergesStand → (s : State) (rows : ℕ) (turn : MergeTurn) (new : Published) → IsReady s → Turns s.merge rows s.published turn new
    → Merges rows turn s (on_turn turn s new)
merges law s rows turn new ready turns =
    let ends = law s.merge rows turn s.published new ready.published turns in
    let store = follows_turn s rows turn new ready turns in
    record {
      turns = turns;
      rows = ends.rows;
      stored = λ files stored. subst (λ (n : ℕ). AreWritten files n new.segments (on_turn turn s new).written) (sym ends.upto) (store.stored files stored);
      ids = ends.ids;
      few = ends.few;
      upto = ends.upto;
      last = refl;
      since = refl;
      buffer = refl;
      merge = refl;
      out = refl;
      pending = refl;
      closed = refl;
    }

-- the state that the call leaves
pub is_turn : (s mid : State) (turn : MergeTurn) (new : Published) (gs : List Lived) (ids : List ℕ) (was ws : List (Option Written)) (came : Bool)
    → mid ≡ record s { written = [] } → gs ≡ new.segments → ids ≡ ids_of s.published.segments → was ≡ s.written
    → came ≡ nat_lt mid.published.next_id new.next_id → ws ≡ followed turn gs ids was came → record mid { published = new; written = ws } ≡ on_turn turn s new
is_turn s mid turn new gs ids was ws came mid_is gs_is ids_is was_is came_is is =
    let less : came ≡ nat_lt s.published.next_id new.next_id = came_is ∙ ap (λ (t : State). nat_lt t.published.next_id new.next_id) mid_is in
    let follows : ws ≡ followed turn new.segments (ids_of s.published.segments) s.written (nat_lt s.published.next_id new.next_id) =
    is ∙ (λ i. followed turn (gs_is i) (ids_is i) (was_is i) (less i)) in
    λ i. record (mid_is i) { published = new; written = follows i }

pub turns_at : (rows : ℕ) (s mid : State) (turn : MergeTurn) (new : Published) → mid ≡ record s { written = [] }
    → Turns mid.merge rows mid.published turn new → Turns s.merge rows s.published turn new
turns_at rows s mid turn new is turns = subst (λ (t : State). Turns t.merge rows t.published turn new) is turns

-- a merge that ran runs on where nothing was done
pub runs_still : (rows : ℕ) (p : Published) (o : Option Merge) → p.merge ≡ o → IfSome o (λ (run : Merge). StillRuns rows p run p)
runs_still rows p None is = tt
runs_still rows p (Some run) is = record {
  run = run;
  is = is;
  same = refl;
  read = λ sources count runs. (count, omega arith, omega arith, runs.read);
}
