use Rattle.std.proofs.Common.{◌≡◌, drop}
use Rattle.report_text.specs.Sums.{n_of}
use Rattle.report_text.proofs.summary.n_of.Given as goal

abbrev pub invariant-loop-name : goal.invariant-loop-name
invariant-loop-name l = n_of (drop l.name-index l.name-items) ≡ n_of l.hit.num
