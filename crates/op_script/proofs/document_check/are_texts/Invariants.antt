use Rattle.std.proofs.Common.{◌≡◌, is_some}
use Rattle.serde_json.specs.View.{members_view}
use Rattle.op_script.specs.Documents.{texts_of}
use Rattle.op_script.proofs.document_check.are_texts.Given as goal

abbrev pub invariant-loop-name : goal.invariant-loop-name
invariant-loop-name l = is_some (texts_of (members_view l.name-iterator)) ≡ is_some (texts_of (members_view l.members.entries))
