use Rattle.std.proofs.Common.{◌≡◌, drop, length, nat_lt}
use Rattle.std.specs.List.{list_any}
use Rattle.analysis.proofs.sizes.has_long_term.Given as goal

abbrev pub invariant-loop-entry : goal.invariant-loop-entry
invariant-loop-entry l = list_any (λ entry. nat_lt 32766 (length entry.term.bytes)) (drop l.entry-index l.entries) ≡ list_any (λ entry. nat_lt 32766 (length entry.term.bytes)) l.entries
