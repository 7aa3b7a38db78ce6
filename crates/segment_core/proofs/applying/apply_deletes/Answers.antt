use Rattle.segment_core.specs.Segments.{documents}
use Rattle.std.proofs.Common.{◌≡◌, ◌∙◌, ℕ, List, ◌∷◌, length, map, ap, sym, arith, subst, refl}
use Rattle.std.proofs.lemmas.Map.Iter.{rest_more}
use Rattle.std.specs.Map.Iter.{deref_pair}
use Rattle.ix_base.specs.declared.document.Row.{Row}
use Rattle.ix_base.specs.declared.document.Term.{Term}
use Rattle.ix_base.specs.Matches.{holds_term}
use Rattle.ix_base.specs.Inversion.{rows_where}
use Rattle.frozen_packet.specs.Updates.{term_delete}
use Rattle.live_docs.specs.Marks.{Marks, killed}
use Rattle.segment_core.specs.LiveRows.{above, MarksLater}
use Rattle.segment_core.specs.Marking.{marks_after}
use Rattle.segment_core.proofs.Found.{length-hits}
use Rattle.segment_core.proofs.FoundNow.{term_taken}
use Rattle.segment_core.proofs.Later.{marks_self, marks_then, hits_later, later_killed}
use Rattle.segment_core.proofs.applying.apply_deletes.Goals as goal

pub loop-key-preserved : goal.loop-key-preserved
loop-key-preserved g c =
    let n : ℕ = c.in-Some.number.now in
    let low : ℕ = c.args.low in
    let rows : List Row = c.args.rows.now in
    let marks = c.loop-key.live.marks in
    let left : c.loop-key.key-iterator ≡ (c.in-Some.key.now, n) ∷ c.next.new.self = rest_more (deref_pair {K = Term} {X = ℕ}) _ _ c.next.result _ c.in-Some.is c.next.ensures.steps in
    let found : List ℕ = c.as_slice.result.now in
    let e = c.kill_found.ensures in
    record {
      marks = λ inverts.
          ap (λ (x : Marks). marks_after (above low (map term_delete c.next.new.self)) rows x.marks) c.kill_found.ensures
          ∙ (term_taken low n c.in-Some.key.now (map term_delete c.next.new.self) rows found c.loop-key.live.marks (omega arith) c.loop-key.invariant.long
          (c.as_slice.ensures.value ∙ (c.in_ok-found.ensures _ inverts ∙ ap (λ (t : Term). rows_where (holds_term t.field t.bytes) (documents rows)) c.term.ensures))
          ∙ (ap (λ l. marks_after (above low (map term_delete l)) rows c.loop-key.live.marks) (sym left) ∙ c.loop-key.invariant.marks inverts));
      long = ap (λ (x : Marks). length x.marks) c.kill_found.ensures ∙ (length-hits n killed rows found c.loop-key.live.marks ∙ c.loop-key.invariant.long);
      applied = ap (λ (x : Marks). x.applied) c.kill_found.ensures ∙ c.loop-key.invariant.applied;
      later =
          marks_then c.args.live.now.marks c.loop-key.live.marks _ c.loop-key.invariant.later
          (subst (λ (m : Marks). MarksLater c.loop-key.live.marks m.marks) (sym c.kill_found.ensures) (hits_later n killed later_killed rows found c.loop-key.live.marks));
    }

pub loop-key-init : goal.loop-key-init
loop-key-init g c = record { marks = λ inverts. ap (λ l. marks_after (above c.args.low (map term_delete l)) c.args.rows.now c.args.live.now.marks) (c.into_iter-key-iterator.ensures.into_iter_gives.0 ∙ c.as_map-key-items.ensures); long = c.requires; applied = refl; later = marks_self c.args.live.now.marks }
