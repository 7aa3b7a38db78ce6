use Rattle.std.proofs.Common.{refl}
use Rattle.ix_base.specs.declared.document.Operation.TheVariants as o
use Rattle.flush_control_tests.proofs.round.delete_of.Goals as goal

pub returns : goal.returns
returns c = record { op = o.DeleteTerm c.in_ok-term.term; is = refl; none = λ n. refl }
