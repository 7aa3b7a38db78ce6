use Rattle.live_docs.proofs.NumbersRise.{rise_after_setting}
use Rattle.live_docs.proofs.row_numbers.RowNumbers.set.Goals as goal

pub invariant_of-self : goal.invariant_of-self
invariant_of-self c = rise_after_setting c.set_pair.result c.args.name.now _ c.self.inside.pairs.items c.set_pair.new.pairs.items c.self.invariant c.set_pair.ensures.ok c.set_pair.ensures.err
