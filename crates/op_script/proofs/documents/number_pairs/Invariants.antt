use Rattle.std.proofs.Common.{◌≡◌, ◌++◌, option_map}
use Rattle.serde_json.specs.View.{members_view}
use Rattle.op_script.specs.Documents.{numbers_of}
use Rattle.op_script.proofs.documents.number_pairs.Given as goal

abbrev pub invariant-loop-name : goal.invariant-loop-name
invariant-loop-name l = option_map (λ rest. l.pairs.items ++ rest) (numbers_of (members_view l.name-iterator)) ≡ numbers_of (members_view l.members.entries)
