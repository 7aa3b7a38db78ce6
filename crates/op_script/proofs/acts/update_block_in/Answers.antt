use Rattle.std.proofs.Common.{◌∙◌, ap, is_some}
use Rattle.serde_json.specs.View.{view}
use Rattle.op_script.proofs.Checks.{update_block_ok}
use Rattle.op_script.proofs.acts.update_block_in.Goals as goal

pub returns-in_err-term-clause-memory : goal.returns-in_err-term-clause-memory
returns-in_err-term-clause-memory c = λ _.
    update_block_ok (view c.args.value.now) (ap is_some c.in_ok-field.ensures.ok) (ap is_some c.in_ok-bytes.ensures.ok) (ap is_some c.in_ok-docs.ensures.ok ∙ c.in_ok-docs.ensures.block)
