use Rattle.ram_postings.proofs.WholeBuffer.{buffer_empty}
use Rattle.ram_postings.proofs.buffer.RamPostings.new.Goals as goal

pub invariant_of-result : goal.invariant_of-result
invariant_of-result c = buffer_empty c.new.result.items c.new-2.result.entries c.new.ensures.items c.new-2.ensures.empty
