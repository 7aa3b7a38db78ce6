use Rattle.std.proofs.Common.{arith}
use Rattle.merge_postings.specs.Keys.{key}
use Rattle.merge_postings.proofs.key.seven_of.Goals as goal

pub returns-clause-value : goal.returns-clause-value
unfolding key
returns-clause-value c =
    omega (arith, c.from.ensures, c.from-2.ensures, c.from-3.ensures, c.from-4.ensures, c.from-5.ensures, c.from-6.ensures, c.from-7.ensures)
