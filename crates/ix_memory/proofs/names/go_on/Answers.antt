use Rattle.std.proofs.Common.{subst, sym}
use Rattle.std.proofs.lemmas.Result.{on_ok_weaker}
use Rattle.ix_memory.specs.Names.{GoesOn}
use Rattle.ix_outside.specs.declared.step.Step.{Step}
use Rattle.ix_memory.proofs.NameLists.{on_written, on_deleted}
use Rattle.ix_memory.proofs.names.go_on.Goals as goal

pub returns-in-Wrote-clause-change : goal.returns-in-Wrote-clause-change
returns-in-Wrote-clause-change c =
    on_ok_weaker c.gain.result
    (λ gained. subst (λ (call : Step). GoesOn call c.args.names.now.items c.gain.new.names.items) (sym c.in-Wrote.is) (on_written _ _ _ _ gained))
    c.gain.ensures.change

pub returns-in-Renamed-clause-change : goal.returns-in-Renamed-clause-change
returns-in-Renamed-clause-change c =
    on_ok_weaker c.rename.result
    (λ moved. subst (λ (call : Step). GoesOn call c.args.names.now.items c.rename.new.names.items) (sym c.in-Renamed.is) moved)
    c.rename.ensures.change

pub returns-in-Deleted-clause-change : goal.returns-in-Deleted-clause-change
returns-in-Deleted-clause-change c =
    subst (λ (call : Step). GoesOn call c.args.names.now.items c.lose.new.names.items) (sym c.in-Deleted.is) (on_deleted _ _ _ c.lose.ensures.change)

pub returns-in-Spoilt-clause-change : goal.returns-in-Spoilt-clause-change
returns-in-Spoilt-clause-change c =
    on_ok_weaker c.spoil.result
    (λ changed. subst (λ (step : Step). GoesOn step c.args.names.now.items c.spoil.new.names.items) (sym c.in-Spoilt.is) changed)
    c.spoil.ensures.change
