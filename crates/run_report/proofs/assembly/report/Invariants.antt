use Rattle.std.proofs.Common.{◌≡◌, take}
use Rattle.run_report.specs.Texts.{texts}
use Rattle.run_report.proofs.assembly.report.Given as goal

abbrev pub invariant-loop-outcome : goal.invariant-loop-outcome
invariant-loop-outcome l = l.bytes.items ≡ texts (take l.outcome-index l.outcomes)
