use Rattle.std.proofs.Common.{ℕ, List, sym, subst}
use Rattle.index_run.specs.Driving.{HasCome}
use Rattle.index_run.proofs.Rounding.{cut_done, halted_cut, on_fault, on_ok, stopped_cut}
use Rattle.index_run.proofs.lines.write_last.Goals as goal

pub returns-in-Err-clause-cut : goal.returns-in-Err-clause-cut
returns-in-Err-clause-cut g c = λ r lines log come.
    let rounds = c.args.rounds in
    halted_cut g.S.Store.disk r lines _ _ _ c.halted.ensures
    (on_fault _ _ _ c.in-Err.is
    (c.write_pending-writer.ensures.pending.cut r lines rounds.shares.items log rounds.commits.items tt come))

pub returns-in-Err-note-clause-cut : goal.returns-in-Err-note-clause-cut
returns-in-Err-note-clause-cut g c = λ r lines log come.
    let rounds = c.args.rounds in
    let next =
    on_ok _ _ _ c.in-Ok.is
    (c.write_pending-writer.ensures.pending.come r lines rounds.shares.items log rounds.commits.items tt come) in
    stopped_cut g.S.Store.disk r lines _ _ _ c.stopped.ensures (cut_done r lines rounds.shares.items log _ _ next.done)

pub returns-in-Ok-note-clause-come : goal.returns-in-Ok-note-clause-come
returns-in-Ok-note-clause-come g c = λ r lines log come.
    let rounds = c.args.rounds in
    let w = c.write_pending-writer.result.writer in
    subst (λ (cs : List (ℕ × ℕ)). HasCome r lines rounds.shares.items log cs c.args.due.now w.state (g.S.Store.disk w.store))
    (sym c.in-Ok-note.ensures)
    (on_ok _ _ _ c.in-Ok.is
    (c.write_pending-writer.ensures.pending.come r lines rounds.shares.items log rounds.commits.items tt come))
