use Rattle.delete_slice.specs.Entries.{Has}
use Rattle.delete_slice.specs.Taken.{TakesPart}
use Rattle.delete_slice.proofs.slice.Slice.apply_log.Given as goal

abbrev pub invariant-loop-index : goal.invariant-loop-index
invariant-loop-index l = TakesPart (Has l.log) l.log.base l.self.from.at l.index l.fn.updates l.updates
