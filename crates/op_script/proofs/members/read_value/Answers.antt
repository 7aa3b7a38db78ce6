use Rattle.std.proofs.Common.{◌≡◌, Some, None, rules, sym, subst}
use Rattle.serde_json.specs.Read.{read}
use Rattle.serde_json.specs.View.{view}
use Rattle.op_script.proofs.Values.{value_of-some, value_of-none}
use Rattle.op_script.proofs.members.read_value.Goals as goal

pub returns-in_default-clause-value : goal.returns-in_default-clause-value
returns-in_default-clause-value c = sym (value_of-none c.args.bytes.now (λ text. absurd (c.in_default.ensures.cases.0 text)))

pub returns-in-Ok-from_str-clause-value : goal.returns-in-Ok-from_str-clause-value
returns-in-Ok-from_str-clause-value c =
    let same = c.in-Ok.ensures.cases in
    sym (value_of-some c.args.bytes.now _ same.1 (subst (λ bytes. read bytes ≡ Some (view c.in-Ok-from_str.value)) same.0 c.in-Ok-from_str.ensures.ok))

pub returns-else-is_memory-clause-value : goal.returns-else-is_memory-clause-value
returns-else-is_memory-clause-value c =
    let none : read c.in-Ok.text.now ≡ None = c.in-Err.ensures.err (search rules) in
    sym (value_of-none c.args.bytes.now (λ text. subst (λ bytes. read bytes ≡ None) c.in-Ok.ensures.cases.0 none))
