use Rattle.std.proofs.Common.{subst, sym, ℕ, List, Option}
use Rattle.std.proofs.lemmas.Result.{on_ok_weaker}
use Rattle.ix_outside.specs.declared.step.Step.TheVariants.{Spoilt}
use Rattle.ix_memory.specs.Names.{GoesOn}
use Rattle.ix_memory.proofs.NameLists.{on_spoilt, on_spoilt_away}
use Rattle.ix_memory.proofs.names.spoil.Goals as goal

pub returns-in-Some-clause-change : goal.returns-in-Some-clause-change
returns-in-Some-clause-change c =
    on_ok_weaker c.gain.result
    (λ gained. subst (λ (found : Option (List ℕ)). GoesOn (Spoilt c.args.name found) c.args.names.now.items c.gain.new.names.items) (sym c.in-Some.is) (on_spoilt _ _ _ _ gained))
    c.gain.ensures.change

pub returns-in-None-clause-change : goal.returns-in-None-clause-change
returns-in-None-clause-change c =
    subst (λ (found : Option (List ℕ)). GoesOn (Spoilt c.args.name found) c.args.names.now.items c.lose.new.names.items) (sym c.in-None.is) (on_spoilt_away _ _ _ c.lose.ensures.change)
