use Rattle.std.proofs.Common.{ℕ, Option, sym, subst}
use Rattle.std.specs.Prelude.{IfNone, IfSome}
use Rattle.store_answers.specs.Asking.{IsAmong, LacksAmong}
use Rattle.store_answers.proofs.Asked.{last_among, last_lacks}
use Rattle.store_answers.proofs.finding.asked_among.Goals as goal

pub returns-in-Some-clause-among : goal.returns-in-Some-clause-among
returns-in-Some-clause-among c =
    subst (λ (o : Option ℕ). IfSome c.number_among.result (IsAmong c.args.numbers.now o)) (sym c.in-Some.is) c.number_among.ensures.among

pub returns-in-Some-clause-none : goal.returns-in-Some-clause-none
returns-in-Some-clause-none c =
    subst (λ (o : Option ℕ). IfNone c.number_among.result (LacksAmong c.args.numbers.now o)) (sym c.in-Some.is) c.number_among.ensures.none

pub returns-in-None-clause-among : goal.returns-in-None-clause-among
returns-in-None-clause-among c = last_among c.args.numbers.now c.args.named c.last_of.result c.in-None.is c.requires.rise c.last_of.ensures

pub returns-in-None-clause-none : goal.returns-in-None-clause-none
returns-in-None-clause-none c = last_lacks c.args.numbers.now c.args.named c.last_of.result c.in-None.is c.last_of.ensures
