use Rattle.std.proofs.Common.{◌≡◌, ◌∙◌, ◌≤◌, ℕ, Err, Some, Option, true, false, sym, ap, subst, arith}
use Rattle.std.proofs.lemmas.Bool.{true≢false}
use Rattle.ix_outside.specs.Causes.{Rose}
use Rattle.index_writer.specs.declared.fault.WriterFault.TheVariants as writing
use Rattle.index_writer.specs.declared.state.State.{State}
use Rattle.index_writer.specs.declared.writer.IndexWriter.{IndexWriter}
use Rattle.index_run.specs.Driving.{IsCut, KeepsBy, WritesPending}
use Rattle.index_run.specs.declared.rounds.Ran.{Ran}
use Rattle.index_run.specs.declared.rounds.RanFault.{RanFault}
use Rattle.index_run.specs.declared.rounds.RanFault.TheVariants as halt
use Rattle.index_run.proofs.DiskAfter.{same_stored}
use Rattle.index_run.proofs.DiskPruned.{GivesUp}
use Rattle.index_run.proofs.GivingUp.{come_pruned, cut_pruned, finds_broken, open_still, pruned_closed, pruned_failed, same_open}
use Rattle.index_run.proofs.OneLeft.{EndsPrune}
use Rattle.index_run.proofs.Rounding.{on_fault, on_ok}
use Rattle.index_run.proofs.rounds.write_and_prune.Given as given
use Rattle.index_run.proofs.rounds.write_and_prune.Goals as goal

pub returns-in_default-clause-pending : goal.returns-in_default-clause-pending
returns-in_default-clause-pending g c =
    subst (λ (k : Option ℕ). WritesPending g.S.Store.disk k c.args.due.now c.args.writer c.write_pending.result) (sym c.in_default.is)
    c.write_pending.ensures.pending

pub returns-in-Err-clause-pending : goal.returns-in-Err-clause-pending
returns-in-Err-clause-pending g c =
    let wrote = c.write_pending-writer.ensures.pending in
    subst (WritesPending g.S.Store.disk c.args.keep c.args.due.now c.args.writer) (sym c.halted.ensures) (record {
      come = λ r lines shares log commits keeps come. tt;
      cut = λ r lines shares log commits keeps come. on_fault _ _ _ c.in-Err.is (wrote.cut r lines shares log commits tt come);
      written = tt;
      upto = tt;
      is_open = tt;
      same = wrote.same;
      sound = wrote.sound;
    })

pub returns-then-is_none-clause-pending : goal.returns-then-is_none-clause-pending
returns-then-is_none-clause-pending g c =
    let wrote = c.write_pending-writer.ensures.pending in
    record {
      come = λ r lines shares log commits keeps come. on_ok _ _ _ c.in-Ok.is (wrote.come r lines shares log commits tt come);
      cut = λ r lines shares log commits keeps come. tt;
      written = on_ok _ _ _ c.in-Ok.is wrote.written;
      upto = on_ok _ _ _ c.in-Ok.is wrote.upto;
      is_open = on_ok _ _ _ c.in-Ok.is wrote.is_open;
      same = wrote.same;
      sound = wrote.sound;
    }

pub returns-in-Ok-prune-clause-pending : goal.returns-in-Ok-prune-clause-pending
returns-in-Ok-prune-clause-pending g c =
    let w = c.write_pending-writer.result.writer in
    let v = c.prune.new.self in
    let p = c.prune.ensures in
    let wrote = c.write_pending-writer.ensures.pending in
    let before : w.state.closed ≡ false = on_ok _ _ _ c.in-Ok.is wrote.is_open in
    let still : v.state.closed ≡ false =
    open_still v.state.closed w.state.closed before c.in-Ok-prune.ensures.closes.0 (λ never. cc) in
    let same : v.state ≡ w.state = same_open w.state v.state p.state before still in
    let gives : GivesUp c.in-Some.keep w.state v.state (g.S.Store.disk w.store) (g.S.Store.disk v.store) = record {
      last = ap (λ (s : State). s.last) same;
      since = ap (λ (s : State). s.since) same;
      stored = λ f h. same_stored f w.state v.state (ap (λ (s : State). s.published) same) (ap (λ (s : State). s.written) same) h;
      left = p.left;
      only = p.only;
      crash = p.crash;
      each = record { each = p.each; none = p.none };
      goes_on = p.goes_on;
    } in
    let ends : EndsPrune c.in-Some.keep (g.S.Store.disk w.store) (g.S.Store.disk v.store) = record {
      found = p.found;
      gone = c.in-Ok-prune.ensures.gone;
      only = λ m n t told told_n there. (c.in-Ok-prune.ensures.pruned m n told told_n).only t there;
    } in
    record {
      come = λ r lines shares log commits keeps come.
          come_pruned c.in-Some.keep r lines shares log _ c.args.due.now w.state v.state (g.S.Store.disk w.store) (g.S.Store.disk v.store)
          (subst (λ (k : Option ℕ). KeepsBy k r) c.in-Some.is keeps) same gives c.in-Ok-prune.ensures.kept ends
          (on_ok _ _ _ c.in-Ok.is (wrote.come r lines shares log commits tt come));
      cut = λ r lines shares log commits keeps come. tt;
      written = ap (λ (s : State). s.pending) same ∙ on_ok _ _ _ c.in-Ok.is wrote.written;
      upto = ap (λ (s : State). s.published.upto) same ∙ on_ok _ _ _ c.in-Ok.is wrote.upto;
      is_open = still;
      same = (
        ap (λ (s : State). s.out) same ∙ wrote.same.0,
        ap (λ (s : State). s.buffer) same ∙ wrote.same.1,
      );
      sound = p.sound;
    }

pub returns-in-Err-prune-clause-pending : goal.returns-in-Err-prune-clause-pending
returns-in-Err-prune-clause-pending g c =
    let w = c.write_pending-writer.result.writer in
    let v = c.prune.new.self in
    let p = c.prune.ensures in
    let keep = c.in-Some.keep in
    let why = c.in-Err-prune.fault in
    let e = c.in-Err-prune.ensures in
    let wrote = c.write_pending-writer.ensures.pending in
    let mid = g.S.Store.disk w.store in
    let now = g.S.Store.disk v.store in
    let gives : GivesUp keep w.state v.state mid now = record {
      last = ap (λ (s : State). s.last) p.state;
      since = ap (λ (s : State). s.since) p.state;
      stored = λ f h. same_stored f w.state v.state (ap (λ (s : State). s.published) p.state) (ap (λ (s : State). s.written) p.state) h;
      left = p.left;
      only = p.only;
      crash = p.crash;
      each = record { each = p.each; none = p.none };
      goes_on = p.goes_on;
    } in
    subst (WritesPending g.S.Store.disk c.args.keep c.args.due.now c.args.writer) (sym c.halted-in-Err-prune.ensures) (record {
      come = λ r lines shares log commits keeps come. tt;
      cut = λ r lines shares log commits keeps come.
          let by = subst (λ (k : Option ℕ). KeepsBy k r) c.in-Some.is keeps in
          let there = on_ok _ _ _ c.in-Ok.is (wrote.come r lines shares log commits tt come) in
          subst (λ (f : RanFault). IsCut r lines f now) (sym c.from.ensures)
          (cut_pruned keep r lines shares log _ c.args.due.now w.state v.state mid now why by gives
          (finds_broken keep r lines shares log _ c.args.due.now w.state mid now why by
          (λ damaged is. e.untouched damaged (ap Err is)) (λ damaged is. e.damaged damaged (ap Err is))
          (λ files damaged told is. e.staying files damaged told (ap Err is))
          (λ files damaged told whole is. e.whole files damaged told whole (ap Err is)) there) there);
      written = tt;
      upto = tt;
      is_open = tt;
      same = (
        ap (λ (s : State). s.out) p.state ∙ wrote.same.0,
        ap (λ (s : State). s.buffer) p.state ∙ wrote.same.1,
      );
      sound = p.sound;
    })

-- a fault that came is the one by which it was halted
halted_for : {S T : Type 0} (writer : IndexWriter S) (fault why : RanFault) (ran : Ran S T)
    → ran ≡ record { writer = writer; came = Err fault } → ran.came ≡ Err why → fault ≡ why
halted_for {S} {T} writer fault why ran is e =
    let both = sym (ap (λ (x : Ran S T). x.came) is) ∙ e in cc

rose_before : (before mid now : ℕ) → before ≤ mid → Rose mid now → Rose before now
rose_before before mid now le rose = omega (arith, le, rose)

halted_rose : {S T : Type 0} (count : S → ℕ) (before mid : ℕ) (writer : IndexWriter S) (fault : RanFault) (ran : Ran S T)
    → ran ≡ record { writer = writer; came = Err fault } → before ≤ mid → Rose mid (count writer.store)
    → Rose before (count ran.writer.store)
halted_rose {S} {T} count before mid writer fault ran is le rose =
    subst (λ (x : Ran S T). Rose before (count x.writer.store)) (sym is) (rose_before before mid (count writer.store) le rose)

pub returns-in-Err-prune-clause-closed : goal.returns-in-Err-prune-clause-closed
returns-in-Err-prune-clause-closed g c = λ is.
    let said = halted_for c.prune.new.self c.from.result (halt.Writer writing.Closed) _ c.halted-in-Err-prune.ensures is in
    let why = pruned_closed c.in-Err-prune.fault (sym c.from.ensures ∙ said) in
    let closed = c.in-Err-prune.ensures.closed.0 (ap Err why) in
    let before = on_ok _ _ _ c.in-Ok.is c.write_pending-writer.ensures.pending.is_open in
    let both : true ≡ false = sym closed ∙ before in absurd (true≢false both)

pub returns-in-Err-prune-clause-failed : goal.returns-in-Err-prune-clause-failed
returns-in-Err-prune-clause-failed g c = λ is.
    let said = halted_for c.prune.new.self c.from.result (halt.Writer writing.Store) _ c.halted-in-Err-prune.ensures is in
    let why = pruned_failed c.in-Err-prune.fault (sym c.from.ensures ∙ said) in
    halted_rose g.S.Store.fault_count _ _ c.prune.new.self c.from.result _ c.halted-in-Err-prune.ensures
    c.write_pending-writer.ensures.later (c.in-Err-prune.ensures.failed (ap Err why))
