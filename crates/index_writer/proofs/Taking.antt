-- A round put into the segments.
use Rattle.std.proofs.Common.{◌≡◌, ◌∙◌, inl, inr, ℕ, zero, suc, ◌+◌, ◌-◌, ◌<◌, ◌≤◌, Bool, true, false, cond, eqb, List, [], ◌∷◌, ◌++◌, Option, Some, None, IfSome, length, replicate, refl, sym, ap, subst, arith, length-append, append_assoc}
use Rattle.std.specs.List.{AllByRecursion, filter}
use Rattle.std.proofs.lemmas.Bool.{eqb-true, lt-ltb, ltb-true}
use Rattle.std.proofs.lemmas.List.{length-map, length-replicate, replicate_more}
use Rattle.ix_base.specs.Steps.{numbered_from}
use Rattle.ix_base.specs.declared.document.Operation.{Operation}
use Rattle.ix_base.specs.declared.document.Operation.TheVariants.{Commit}
use Rattle.ix_outside.specs.Files.{Files}
use Rattle.live_docs.specs.Marks.{count_live}
use Rattle.live_docs.specs.declared.live_docs.Mark.{Mark}
use Rattle.packet_apply.specs.Packets.{Applied}
use Rattle.frozen_packet.specs.declared.packet.Packet.{Packet}
use Rattle.row_fates.specs.Fate.{Numbered}
use Rattle.segment_core.specs.LiveRows.{Lived, MarksLater}
use Rattle.segment_core.specs.declared.segment.Segment.{Segment}
use Rattle.commit_point.specs.declared.written.Written.{Written}
use Rattle.commit_point.specs.Holds.{HasSegment}
use Rattle.commit_point.specs.Writing.{AreWritten, IsWritten, WrittenUpTo, is_alive}
use Rattle.thread_writer.specs.declared.piece.Piece.{Piece}
use Rattle.flush_control.specs.Logs.{EndBy}
use Rattle.round_order.specs.Order.{Working, seconds}
use Rattle.flush_control.specs.Published.{AppliesUp, AreApplied, AreBuilt, HasInversion, IsPublished, TakesPieces}
use Rattle.flush_control.specs.Rounds.{EndsRound, RoundsStand, StandsIn}
use Rattle.flush_control.specs.declared.published.Published.{Published}
use Rattle.index_writer.specs.declared.ending.Gathered.{Gathered}
use Rattle.index_writer.specs.declared.round.RoundEnd.{RoundEnd}
use Rattle.index_writer.specs.declared.round.RoundEnd.TheVariants.{Committed, Turned, Ran}
use Rattle.index_writer.specs.declared.state.State.{State}
use Rattle.index_writer.specs.Ending.{IsGathered, committed, end_of, uncommitted, with_none}
use Rattle.index_writer.specs.Ready.{CanBePending, IsReady, NewIdsFrom}
use Rattle.index_writer.specs.Rounds.{Ends, EndsBy}

-- ---- what is on the store

pub padded : (ws now : List (Option Written)) (at : ℕ) → now ≡ with_none ws at → now ++ None ∷ [] ≡ with_none ws (at + 1)
padded ws now at is =
    ap (λ (xs : List (Option Written)). xs ++ None ∷ []) is
    ∙ (append_assoc ws (replicate at None) (None ∷ []) ∙ ap (λ (xs : List (Option Written)). ws ++ xs) (replicate_more at None))

later : (n m : ℕ) (w : Option Written) → n ≤ m → WrittenUpTo n w → WrittenUpTo m w
later n m None le upto = tt
later n m (Some w) le upto = (upto.0, omega (arith, upto.1))

nones : (m k : ℕ) → AllByRecursion (WrittenUpTo m) (replicate k None)
nones m zero = tt
nones m (suc k) = (tt, nones m k)

written_on : (n m k : ℕ) (ws : List (Option Written)) → n ≤ m → AllByRecursion (WrittenUpTo n) ws → AllByRecursion (WrittenUpTo m) (with_none ws k)
written_on n m k [] le all = nones m k
written_on n m k (w ∷ ws) le all = (later n m w le all.0, written_on n m k ws le all.1)

-- ---- ids

ids_above : (low id next : ℕ) (ps : List Piece) (made : List Lived) → low ≤ id → AreBuilt ps id made next
    → AllByRecursion (λ (g : Lived). low ≤ g.segment.id) made
ids_above low id next [] made le are = subst (AllByRecursion (λ (g : Lived). low ≤ g.segment.id)) (sym are.0) tt
ids_above low id next (p ∷ ps) made le (inl dead) = ids_above low id next ps made le dead.1
ids_above low id next (p ∷ ps) made le (inr lives) =
    subst (AllByRecursion (λ (g : Lived). low ≤ g.segment.id)) (sym lives.2)
    (omega (arith, lives.3.id, le), ids_above low (id + 1) next ps lives.1 (omega (arith, le)) lives.4)

as_many : (packet : Packet) (olds news : List Lived) → AreApplied packet olds news → length news ≡ length olds
as_many packet [] [] are = refl
as_many packet [] (g ∷ gs) are = absurd are
as_many packet (o ∷ olds) [] are = absurd are
as_many packet (o ∷ olds) (g ∷ gs) are = ap (λ (n : ℕ). suc n) (as_many packet olds gs are.2)

new_on : (since k : ℕ) (packet : Packet) (made ups : List Lived) → AllByRecursion (λ (g : Lived). since ≤ g.segment.id) made
    → AreApplied packet made ups → NewIdsFrom since ups (replicate k None)
new_on since zero packet made [] all are = tt
new_on since (suc k) packet made [] all are = tt
new_on since k packet [] (u ∷ ups) all are = absurd are
new_on since zero packet (m ∷ made) (u ∷ ups) all are = tt
new_on since (suc k) packet (m ∷ made) (u ∷ ups) all are =
    (subst (λ (g : Segment). since ≤ g.id) (sym are.0) all.0, new_on since k packet made ups all.1 are.2)

ids_on : (since k : ℕ) (packet : Packet) (olds made ups : List Lived) (ws : List (Option Written)) → length ws ≡ length olds
    → NewIdsFrom since olds ws → AllByRecursion (λ (g : Lived). since ≤ g.segment.id) made → AreApplied packet (olds ++ made) ups
    → NewIdsFrom since ups (with_none ws k)
ids_on since k packet [] made ups [] same ids all are = new_on since k packet made ups all are
ids_on since k packet [] made ups (w ∷ ws) same ids all are = absurd (omega (arith, same))
ids_on since k packet (o ∷ olds) made ups [] same ids all are = absurd (omega (arith, same))
ids_on since k packet (o ∷ olds) made [] (w ∷ ws) same ids all are = absurd are
ids_on since k packet (o ∷ olds) made (u ∷ ups) (None ∷ ws) same ids all are =
    (subst (λ (g : Segment). since ≤ g.id) (sym are.0) ids.0, ids_on since k packet olds made ups ws (omega (arith, same)) ids.1 all are.2)
ids_on since k packet (o ∷ olds) made (u ∷ ups) (Some w ∷ ws) same ids all are =
    ids_on since k packet olds made ups ws (omega (arith, same)) ids all are.2

-- ---- what is on the store of them

-- no row was brought back
fewer_live : (ms ls : List Mark) → MarksLater ms ls → count_live ls ≤ count_live ms
fewer_live [] [] later_ = omega arith
fewer_live [] (l ∷ ls) later_ = absurd later_
fewer_live (m ∷ ms) [] later_ = absurd later_
fewer_live (m ∷ ms) (l ∷ ls) later_ = by m.live l.live later_.0.0 (fewer_live ms ls later_.1)
  where
    by : (b c : Bool) → (c ≡ true → b ≡ true) → count_live ls ≤ count_live ms
        → length (cond c (l ∷ filter (λ (x : Mark). x.live) ls) (filter (λ (x : Mark). x.live) ls)) ≤ length (cond b (m ∷ filter (λ (x : Mark). x.live) ms) (filter (λ (x : Mark). x.live) ms))
    by true true h more = omega (arith, more)
    by true false h more = omega (arith, more)
    by false true h more = let e : false ≡ true = h refl in absurd cc
    by false false h more = more

was_alive : (packet : Packet) (old new : Lived) → Applied packet old new.live → is_alive new ≡ true → is_alive old ≡ true
was_alive packet old new applied alive =
    lt-ltb 0 (count_live old.live.marks)
    (omega (arith, ltb-true 0 (count_live new.live.marks) alive, fewer_live old.live.marks new.live.marks applied.later))

same_written : (files : Files) (n m : ℕ) (w : Option Written) (old new : Lived) → n ≤ m → new.segment ≡ old.segment → IsWritten files n w old → IsWritten files m w new
same_written files n m None old new le same is = tt
same_written files n m (Some w) old new le same is = (
  omega (arith, is.0, le),
  subst (λ (g : Segment). HasSegment files w.live.applied (record { id = g.id; rows = length g.rows; written = w.v }) (record { segment = g; live = w.live })) (sym same) is.1,
)

nones_stand : (files : Files) (m k : ℕ) (gs : List Lived) → AreWritten files m gs (replicate k None)
nones_stand files m k [] = tt
nones_stand files m zero (g ∷ gs) = tt
nones_stand files m (suc k) (g ∷ gs) = (λ alive. tt, nones_stand files m k gs)

stored_on : (files : Files) (n m k : ℕ) (packet : Packet) (olds made ups : List Lived) (ws : List (Option Written)) → n ≤ m → length ws ≡ length olds
    → AreWritten files n olds ws → AreApplied packet (olds ++ made) ups → AreWritten files m ups (with_none ws k)
stored_on files n m k packet [] made ups [] le same are up = nones_stand files m k ups
stored_on files n m k packet [] made ups (w ∷ ws) le same are up = absurd (omega (arith, same))
stored_on files n m k packet (o ∷ olds) made ups [] le same are up = absurd (omega (arith, same))
stored_on files n m k packet (o ∷ olds) made [] (w ∷ ws) le same are up = absurd up
stored_on files n m k packet (o ∷ olds) made (u ∷ ups) (w ∷ ws) le same are up = (
  λ alive. same_written files n m w o u le up.0 (are.0 (was_alive packet o u up.1 alive)),
  stored_on files n m k packet olds made ups ws le (omega (arith, same)) are.1 up.2,
)

-- ---- the round

pub pieces_can : (base upto : ℕ) (ops : List Numbered) (ps : List Piece) → AllByRecursion (StandsIn base ops upto) ps → AllByRecursion HasInversion ps
pieces_can base upto ops [] all = tt
pieces_can base upto ops (p ∷ ps) all = (all.0.can, pieces_can base upto ops ps all.1)

-- the operations of a round, with their numbers
abbrev pub operations_of : (told : List (List Numbered)) (base : ℕ) (g : Gathered) → IsGathered base told g → List Numbered
operations_of told base g gathered = numbered_from base (seconds gathered.ts)

-- all of a state that can go on but its pending number
pub record Core (s : State) : Type 0 where
  pub published : IsPublished s.published
  pub count : length s.written ≡ length s.published.segments
  pub written : AllByRecursion (WrittenUpTo s.published.upto) s.written
  pub new_ids : NewIdsFrom s.since s.published.segments s.written
  pub since : s.since ≤ s.published.next_id
  pub last : s.last ≤ s.published.upto
  pub some : 1 ≤ s.buffer
  pub most : s.buffer ≤ 65536
  pub several : 2 ≤ s.merge
  pub within : s.merge ≤ 64

ready_for : (s : State) (p : Option ℕ) → Core s → IfSome p (CanBePending s) → IsReady (record s { out = false; pending = p })
ready_for s p core pending = record {
  published = core.published;
  count = core.count;
  written = core.written;
  new_ids = core.new_ids;
  since = core.since;
  last = core.last;
  pending = as_pending p pending;
  some = core.some;
  most = core.most;
  several = core.several;
  within = core.within;
}
  where
    as_pending : (o : Option ℕ) → IfSome o (CanBePending s) → IfSome o (CanBePending (record s { out = false; pending = p }))
    as_pending None h = tt
    as_pending (Some n) h = h

ready_end : (kind : ℕ) (ops : List Operation) (s : State) → Core s → EndBy kind ops → (1 ≤ length ops → s.last < s.published.upto)
    → IsReady (end_of kind s).1
ready_end kind ops s core (inl h) less =
    let some : 1 ≤ length ops = omega (arith, ap (λ (os : List Operation). length os) h.4, length-append h.1 (Commit h.3 ∷ [])) in
    subst (λ (k : ℕ). IsReady (end_of k s).1) (sym h.0) (ready_for s (Some s.published.upto) core (refl, less some))
ready_end kind ops s core (inr h) less = tells (eqb kind 6) refl
  where
    tells : (b : Bool) → eqb kind 6 ≡ b → IsReady (cond b (committed s) (uncommitted kind s)).1
    tells true e = absurd (h.0 (eqb-true kind 6 e))
    tells false e = ready_for s None core tt

ends_end : (told : List (List Numbered)) (kind : ℕ) (ops : List Operation) (old s : State) → EndBy kind ops
    → ((end : RoundEnd) (p : Option ℕ) → EndsBy end ops (record s { out = false; pending = p }) → Ends told end old (record s { out = false; pending = p }))
    → Ends told (end_of kind s).0 old (end_of kind s).1
ends_end told kind ops old s (inl h) ends =
    subst (λ (k : ℕ). Ends told (end_of k s).0 old (end_of k s).1) (sym h.0) (ends (Committed s.published.upto) (Some s.published.upto) (refl, refl, (h.1, h.2, h.3, h.4)))
ends_end told kind ops old s (inr h) ends = tells (eqb kind 6) (eqb kind 7) refl
  where
    tells : (b c : Bool) → eqb kind 6 ≡ b
        → Ends told (cond b (committed s) (cond c Turned Ran, record s { out = false; pending = None })).0 old (cond b (committed s) (cond c Turned Ran, record s { out = false; pending = None })).1
    tells true c e = absurd (h.0 (eqb-true kind 6 e))
    tells false true e = ends Turned None (refl, h.1)
    tells false false e = ends Ran None (refl, h.1)

-- the state before its end
abbrev pub put : State → Published → List (Option Written) → State
put old up ws = record old { published = up; written = ws }

stands : RoundsStand → (told : List (List Numbered)) (old : State) (g : Gathered) (mid up : Published) → IsReady old
    → (gathered : IsGathered old.published.upto told g) → TakesPieces g.pieces.items old.published mid → AppliesUp g.packet mid up
    → EndsRound (numbered_from old.published.upto (seconds gathered.ts)) old.published up
stands law told old g mid up ready gathered taken applied =
    law old.published mid up g.pieces.items g.packet (numbered_from old.published.upto (seconds gathered.ts)) ready.published gathered.round taken applied

pub ends : RoundsStand → (told : List (List Numbered)) (old : State) (g : Gathered) (mid up : Published) (ws : List (Option Written)) → IsReady old
    → IsGathered old.published.upto told g → TakesPieces g.pieces.items old.published mid → AppliesUp g.packet mid up
    → ws ≡ with_none old.written (length mid.segments - length old.written)
    → Ends told (end_of g.kind (put old up ws)).0 old (end_of g.kind (put old up ws)).1
ends law told old g mid up ws ready gathered taken applied is =
    let round = stands law told old g mid up ready gathered taken applied in
    ends_end told g.kind (seconds gathered.ts) old (put old up ws) gathered.ends
    (λ end p by_end. record {
      ts = gathered.ts;
      order = gathered.order;
      upto = applied.upto ∙ gathered.upto;
      rows = λ rows has. round.rows rows has;
      stored = λ files stored.
          subst (AreWritten files up.upto up.segments) (sym is)
          (stored_on files old.published.upto up.upto (length mid.segments - length old.written) g.packet old.published.segments taken.made up.segments old.written
          (omega (arith, applied.upto, gathered.upto)) ready.count stored
          (subst (λ (gs : List Lived). AreApplied g.packet gs up.segments) taken.segments applied.applied));
      ids = round.ids;
      few = round.few;
      by_end = by_end;
      out = refl;
      last = refl;
      since = refl;
      buffer = refl;
      merge = refl;
      closed = refl;
    })

pub ready_again : RoundsStand → (told : List (List Numbered)) (old : State) (g : Gathered) (mid up : Published) (ws : List (Option Written)) → IsReady old
    → IsGathered old.published.upto told g → TakesPieces g.pieces.items old.published mid → AppliesUp g.packet mid up
    → ws ≡ with_none old.written (length mid.segments - length old.written)
    → IsReady (end_of g.kind (put old up ws)).1
ready_again law told old g mid up ws ready gathered taken applied is =
    ready_end g.kind (seconds gathered.ts) (put old up ws) core gathered.ends
    (λ some. omega (arith, some, upto, length-map gathered.ts (λ (t : Working). t.1), ready.last))
  where
    upto : up.upto ≡ old.published.upto + length gathered.ts
    upto = applied.upto ∙ gathered.upto

    more : ℕ
    more = length mid.segments - length old.written

    long : length mid.segments ≡ length old.published.segments + length taken.made
    long = ap (λ (gs : List Lived). length gs) taken.segments ∙ length-append old.published.segments taken.made

    core : Core (put old up ws)
    core = record {
      published = (stands law told old g mid up ready gathered taken applied).published;
      count =
          let n : ℕ = length mid.segments - length old.written in
          omega (
            arith,
            ap (λ (xs : List (Option Written)). length xs) is,
            length-append old.written (replicate n None),
            length-replicate {A = Option Written} n None,
            as_many g.packet mid.segments up.segments applied.applied,
            long,
            ready.count,
          );
      written =
          subst (AllByRecursion (WrittenUpTo up.upto)) (sym is)
          (written_on old.published.upto up.upto (length mid.segments - length old.written) old.written (omega (arith, upto)) ready.written);
      new_ids =
          subst (NewIdsFrom old.since up.segments) (sym is)
          (ids_on old.since (length mid.segments - length old.written) g.packet old.published.segments taken.made up.segments old.written ready.count ready.new_ids
          (ids_above old.since old.published.next_id mid.next_id g.pieces.items taken.made ready.since taken.built)
          (subst (λ (gs : List Lived). AreApplied g.packet gs up.segments) taken.segments applied.applied));
      since = omega (arith, ready.since, (stands law told old g mid up ready gathered taken applied).ids);
      last = omega (arith, upto, ready.last);
      some = ready.some;
      most = ready.most;
      several = ready.several;
      within = ready.within;
    }
