use Rattle.std.proofs.Common.{◌≡◌, ◌*◌, ◌^◌, take, pos, neg_ℤ, ◌≤ℤ◌}
use Rattle.report_text.specs.Sums.{sum_of}
use Rattle.report_text.proofs.summary.sum_of.Given as goal

abbrev pub invariant-loop-hit : goal.invariant-loop-hit
invariant-loop-hit l =
    (l.sum ≡ sum_of (take l.hit-index l.hits)) × (neg_ℤ (pos (2 ^ 63 * l.hit-index)) ≤ℤ l.sum) × (l.sum ≤ℤ pos (2 ^ 63 * l.hit-index))
