use Rattle.std.proofs.Common.{subst, sym, ℕ, List, Option}
use Rattle.std.specs.Prelude.{option_and_then}
use Rattle.ix_memory.specs.History.{bytes_left}
use Rattle.ix_memory.specs.Left.{Goes}
use Rattle.ix_memory.proofs.left.look_spoilt.Goals as goal

pub returns-in-Some : goal.returns-in-Some
returns-in-Some c older =
    subst (λ (found : Option (List ℕ)). Goes older (option_and_then (bytes_left c.args.bytes) found) c.look_written.result) (sym c.in-Some.is)
    (rw (← c.as_slice.ensures) (c.look_written.ensures older))
