use Rattle.std.proofs.Common.{◌∙◌, ap, is_some}
use Rattle.serde_json.specs.View.{view}
use Rattle.op_script.proofs.Checks.{add_block_ok}
use Rattle.op_script.proofs.acts.add_block_in.Goals as goal

pub returns-in_err-block_from-clause-memory : goal.returns-in_err-block_from-clause-memory
returns-in_err-block_from-clause-memory c = λ _. add_block_ok (view c.args.value.now) (ap is_some c.in_ok-docs.ensures.ok ∙ c.in_ok-docs.ensures.block)
