use Rattle.std.proofs.Common.{◌≡◌, rules, Some, codes}
use Rattle.serde_json.specs.View.{view}
use Rattle.std.proofs.lemmas.Bool.{and_parts}
use Rattle.op_script.specs.Values.{has_only}
use Rattle.op_script.specs.Documents.{texts_at, document_names, are_apart}
use Rattle.op_script.proofs.Apart.{apart}
use Rattle.op_script.proofs.documents.read_document.Goals as goal

pub invariant_of-result : goal.invariant_of-result
invariant_of-result c =
    let value = view c.args.value.now in
    let texts : texts_at (codes "text") value ≡ Some c.in-Some-2.text = search rules in
    let exacts : texts_at (codes "exact") value ≡ Some c.in-Some-3.exact = search rules in
    apart value c.in-Some-2.text c.in-Some-3.exact (and_parts (has_only document_names value) (are_apart value) c.requires).1 texts exacts
