-- The writer of a run, from round to round.
use Rattle.std.proofs.Common.{◌≡◌, ℕ, ◌+◌, ◌*◌, ◌≤◌, ◌^◌, List, [], ◌++◌, length, refl, sym, ap, subst, ◌∙◌}
use Rattle.std.proofs.Common.{arith}
use Rattle.std.proofs.lemmas.List.{length-append, length-map}
use Rattle.ix_base.specs.declared.document.Operation.{Operation}
use Rattle.ix_base.specs.declared.document.Row.{Row}
use Rattle.ix_base.specs.Steps.{after}
use Rattle.flush_control.specs.declared.published.Published.{Published}
use Rattle.round_order.specs.Order.{Working, seconds}
use Rattle.flush_control.specs.Published.{StandsFor}
use Rattle.op_script.specs.declared.script.Line.{Line}
use Rattle.row_fates.specs.Fate.{Numbered}
use Rattle.index_writer.specs.declared.round.RoundEnd.{RoundEnd}
use Rattle.index_writer.specs.declared.state.State.{State}
use Rattle.index_writer.specs.Ready.{HasRows, IsReady}
use Rattle.index_writer.specs.Storing.{on_commit}
use Rattle.run_log.specs.Headline.{operations}
use Rattle.index_run.specs.Doing.{CanBegin, IsWriterOn}
use Rattle.index_run.specs.Merged.{EndsMerged}
use Rattle.index_run.proofs.LogNumbers.{after_append, operations_append}

pub writer_start : (first : State) → CanBegin first → IsWriterOn first [] first
writer_start first can = record {
  ready = can.ready;
  is_open = can.is_open;
  upto = omega arith;
  acts = refl;
  rows = λ rows has. has;
  low = omega arith;
  high = omega arith;
}

-- the rows after a log and a round's lines
rows_more : (base upto : ℕ) (rows : List Row) (log more : List Line) (ops : List Operation) → operations more ≡ ops
    → upto ≡ base + length (operations log)
    → after (after rows base (operations log)) upto ops ≡ after rows base (operations (log ++ more))
rows_more base upto rows log more ops same is =
    ap (λ (n : ℕ). after (after rows base (operations log)) n ops) is
    ∙ ap (λ (xs : List Operation). after (after rows base (operations log)) (base + length (operations log)) xs)
    (sym same)
    ∙ sym (after_append rows base (operations log) (operations more))
    ∙ ap (λ (xs : List Operation). after rows base xs) (sym (operations_append log more))

pub writer_round : (first old new : State) (log more : List Line) (told : List (List Numbered)) (end : RoundEnd)
    → IsWriterOn first log old → (e : EndsMerged told end old new) → IsReady new → operations more ≡ seconds e.ts
    → length more ≡ length e.ts → IsWriterOn first (log ++ more) new
writer_round first old new log more told end on e ready ops count =
    let base = first.published.upto in
    let many : length (seconds e.ts) ≡ length e.ts = length-map e.ts (λ (t : Working). t.1) in
    let acts : length (operations (log ++ more)) ≡ length (operations log) + length (operations more) =
    ap (λ (xs : List Operation). length xs) (operations_append log more)
    ∙ length-append (operations log) (operations more) in
    let these : length (operations more) ≡ length (seconds e.ts) = ap (λ (xs : List Operation). length xs) ops in
    record {
      ready = ready;
      is_open = e.closed ∙ on.is_open;
      upto = omega (arith, e.upto, on.upto, length-append log more, count);
      acts = omega (arith, acts, these, many, on.acts, count, length-append log more);
      rows = λ rows has.
          subst (λ (rs : List Row). HasRows new rs)
          (rows_more base old.published.upto rows log more (seconds e.ts) ops (omega (arith, on.upto, on.acts)))
          (e.rows (after rows base (operations log)) (on.rows rows has));
      low = omega (arith, on.low, e.ids);
      high = omega (
        arith,
        on.high,
        e.few,
        count,
        length-append log more,
      );
    }

pub writer_commit : (first w v : State) (log : List Line) → IsWriterOn first log w → v ≡ on_commit w → IsReady v
    → ((rows : List Row) → HasRows w rows → HasRows v rows) → IsWriterOn first log v
writer_commit first w v log on is ready keeps =
    let next : v.published.next_id ≡ w.published.next_id = ap (λ (s : State). s.published.next_id) is in
    record {
      ready = ready;
      is_open = ap (λ (s : State). s.closed) is ∙ on.is_open;
      upto = ap (λ (s : State). s.published.upto) is ∙ on.upto;
      acts = on.acts;
      rows = λ rows has. keeps (after rows first.published.upto (operations log)) (on.rows rows has);
      low = omega (arith, on.low, next);
      high = omega (arith, on.high, next);
    }

-- a state that differs only in what a round in work leaves open
pub writer_same : (first w v : State) (log : List Line) → IsWriterOn first log w → v.published ≡ w.published
    → v.closed ≡ w.closed → IsReady v → IsWriterOn first log v
writer_same first w v log on same closed ready =
    let next : v.published.next_id ≡ w.published.next_id = ap (λ (p : Published). p.next_id) same in
    record {
      ready = ready;
      is_open = closed ∙ on.is_open;
      upto = ap (λ (p : Published). p.upto) same ∙ on.upto;
      acts = on.acts;
      rows = λ rows has.
          subst (λ (p : Published). StandsFor p (after rows first.published.upto (operations log))) (sym same)
          (on.rows rows has);
      low = omega (arith, on.low, next);
      high = omega (arith, on.high, next);
    }

-- the ids stay small, where the log is short
pub room_left : (first w : State) (log : List Line) → IsWriterOn first log w → first.published.next_id ≤ 2 ^ 61
    → 2 * length log ≤ 2 ^ 61 → w.published.next_id ≤ 2 ^ 62
room_left first w log on low few = omega (arith, on.high, low, few)
