use Rattle.std.specs.List.{AllZip}
use Rattle.line_shares.specs.Dealing.{IsShareOf}
use Rattle.line_shares.proofs.dealing.shares_of.Given as goal

abbrev pub invariant-loop-own : goal.invariant-loop-own
invariant-loop-own l = AllZip IsShareOf l.yielded l.shares.items
