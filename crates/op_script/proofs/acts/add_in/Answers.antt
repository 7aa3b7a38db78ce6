use Rattle.std.proofs.Common.{◌∙◌, ap, is_some}
use Rattle.serde_json.specs.View.{view}
use Rattle.op_script.proofs.Checks.{add_ok}
use Rattle.op_script.proofs.acts.add_in.Goals as goal

pub returns-in_err-document_from-clause-memory : goal.returns-in_err-document_from-clause-memory
returns-in_err-document_from-clause-memory c = λ _. add_ok (view c.args.value.now) (ap is_some c.in_ok-doc.ensures.ok ∙ c.in_ok-doc.ensures.document)
