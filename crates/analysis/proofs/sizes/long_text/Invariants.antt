use Rattle.std.proofs.Common.{◌≡◌, drop}
use Rattle.std.specs.List.{flat_map}
use Rattle.ix_base.specs.Terms.{text_places, long_term}
use Rattle.analysis.proofs.sizes.long_text.Given as goal

abbrev pub invariant-loop-text : goal.invariant-loop-text
invariant-loop-text l = long_term (flat_map text_places (drop l.text-index l.fields)) ≡ long_term (flat_map text_places l.fields)
