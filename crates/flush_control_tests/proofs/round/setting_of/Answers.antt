use Rattle.std.proofs.Common.{refl}
use Rattle.ix_base.specs.declared.document.Operation.TheVariants as o
use Rattle.flush_control_tests.proofs.round.setting_of.Goals as goal

pub returns : goal.returns
returns c = record { op = o.SetNumber c.in_ok-term.term c.in_ok-num.num _; is = refl; none = λ n. refl }
