-- The end of a round, and a merge after it.
use Rattle.std.proofs.Common.{◌≡◌, ◌∙◌, refl, ℕ, zero, suc, ◌+◌, ◌<◌, ◌≤◌, List, length, sym, arith}
use Rattle.std.proofs.lemmas.List.{length-map}
use Rattle.ix_base.specs.Steps.{after}
use Rattle.ix_base.specs.declared.document.Operation.{Operation}
use Rattle.row_fates.specs.Fate.{Numbered}
use Rattle.round_order.specs.Order.{Working, seconds}
use Rattle.flush_control.specs.declared.merging.MergeTurn.{MergeTurn}
use Rattle.index_writer.specs.Merging.{Merges}
use Rattle.index_writer.specs.declared.round.RoundEnd.{RoundEnd}
use Rattle.index_writer.specs.declared.round.RoundEnd.TheVariants.{Committed, Turned, Ran}
use Rattle.index_writer.specs.declared.state.State.{State}
use Rattle.index_writer.specs.Rounds.{Ends, EndsBy}
use Rattle.index_run.specs.Merged.{EndsMerged}
use Rattle.index_run.proofs.LogNumbers.{few_added}

-- as many ids at most as the round has operations
few_ids : (told : List (List Numbered)) (end : RoundEnd) (old new : State) → (e : Ends told end old new)
    → new.published.next_id ≤ old.published.next_id + length e.ts
few_ids told end old new e =
    omega (
      arith,
      e.few,
      few_added old.published.upto (seconds e.ts),
      length-map e.ts (λ (t : Working). t.1),
    )

-- nothing was merged
pub ends_plain : (told : List (List Numbered)) (end : RoundEnd) (old new : State) → Ends told end old new
    → EndsMerged told end old new
ends_plain told end old new e = record {
  ts = e.ts;
  order = e.order;
  upto = e.upto;
  rows = e.rows;
  stored = e.stored;
  ids = e.ids;
  few = omega (arith, few_ids told end old new e);
  by_end = e.by_end;
  out = e.out;
  last = e.last;
  since = e.since;
  closed = e.closed;
}

same_end : (end : RoundEnd) (ops : List Operation) (mid new : State) → new.published.upto ≡ mid.published.upto
    → new.pending ≡ mid.pending → EndsBy end ops mid → EndsBy end ops new
same_end (Committed s) ops mid new upto pending by = (by.0 ∙ sym upto, pending ∙ by.1, by.2)
same_end Turned ops mid new upto pending by = (pending ∙ by.0, by.1)
same_end Ran ops mid new upto pending by = (pending ∙ by.0, by.1)

-- a step of some rows is taken only where a number was given
pub some_number : (operations numbers rows : ℕ) → operations ≤ numbers → (operations ≡ 0 → rows ≡ 0) → 0 < rows
    → 0 < numbers
some_number zero numbers rows few none more = absurd (omega (arith, more, none refl))
some_number (suc n) numbers rows few none more = omega (arith, few)

-- segments were merged, after a round in which a line got a number
pub ends_merged : (told : List (List Numbered)) (end : RoundEnd) (count : ℕ) (turn : MergeTurn) (old mid new : State)
    → Ends told end old mid → Merges count turn mid new → old.published.upto < mid.published.upto
    → EndsMerged told end old new
ends_merged told end count turn old mid new e m some = record {
  ts = e.ts;
  order = e.order;
  upto = m.upto ∙ e.upto;
  rows = λ rows has. m.rows (after rows old.published.upto (seconds e.ts)) (e.rows rows has);
  stored = λ files has. m.stored files (e.stored files has);
  ids = omega (arith, e.ids, m.ids);
  few = omega (arith, few_ids told end old mid e, m.few, some, e.upto);
  by_end = same_end end (seconds e.ts) mid new m.upto m.pending e.by_end;
  out = m.out ∙ e.out;
  last = m.last ∙ e.last;
  since = m.since ∙ e.since;
  closed = m.closed ∙ e.closed;
}
