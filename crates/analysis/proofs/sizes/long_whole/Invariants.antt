use Rattle.std.proofs.Common.{◌≡◌, map, drop}
use Rattle.ix_base.specs.Terms.{whole, long_term}
use Rattle.analysis.proofs.sizes.long_whole.Given as goal

abbrev pub invariant-loop-text : goal.invariant-loop-text
invariant-loop-text l = long_term (map whole (drop l.text-index l.fields)) ≡ long_term (map whole l.fields)
