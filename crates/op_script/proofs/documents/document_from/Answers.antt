use Rattle.serde_json.specs.View.{view}
use Rattle.op_script.proofs.Checks.{document_tested}
use Rattle.op_script.proofs.documents.document_from.Goals as goal

pub read_document-requires : goal.read_document-requires
read_document-requires c = document_tested (view c.args.value.now) c.requires
