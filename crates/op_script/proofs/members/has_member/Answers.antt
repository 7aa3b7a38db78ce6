use Rattle.std.proofs.Common.{◌∙◌, sym, ap, is_some}
use Rattle.serde_json.specs.View.{view}
use Rattle.op_script.proofs.Names.{found, is_some-option_map}
use Rattle.op_script.proofs.members.has_member.Goals as goal

pub returns : goal.returns
returns c = c.is_some.ensures ∙ sym (is_some-option_map (λ v. view v.now) c.get.result) ∙ ap is_some c.get.ensures ∙ found c.args.name.now (view c.args.value.now)
