use Rattle.std.proofs.Common.{◌≡◌, length}
use Rattle.std.specs.Io.KnownBytes.{Keeps}
use Rattle.ix_outside.proofs.streams.read_again.Given as goal

-- the buffer keeps its length, and a read that failed took nothing
abbrev pub invariant-loop : goal.invariant-loop
invariant-loop g l = (length l.buffer ≡ length l.fn.buffer) × Keeps (g.R.Read.remaining l.fn.reader) (g.R.Read.remaining l.reader)
