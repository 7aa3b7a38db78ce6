use Rattle.std.proofs.Common.{◌≡◌, map, take}
use Rattle.serde_json.specs.View.{view}
use Rattle.report_text.specs.Lines.{hit_value}
use Rattle.report_text.proofs.texts.hit_list.Given as goal

abbrev pub invariant-loop-hit : goal.invariant-loop-hit
invariant-loop-hit l = map view l.values.items ≡ map hit_value (take l.hit-index l.hits)
