use Rattle.std.proofs.Common.{◌≡◌, ◌∙◌, sym, ap, option_and_then, length, vec_len, rules}
use Rattle.op_script.specs.Values.{bounds_in}
use Rattle.op_script.proofs.Values.{bounds_in-other}
use Rattle.op_script.proofs.members.range_parts.Goals as goal

pub returns-then-len-ne3 : goal.returns-then-len-ne3
returns-then-len-ne3 c =
    let items = c.in_ok-items.items.now.items in
    let len : vec_len c.in_ok-items.items.now ≡ length items = search rules in
    let other = λ (three : length items ≡ 3). c.if-len-ne3.true (c.len.ensures ∙ len ∙ three) in
    sym (ap (option_and_then bounds_in) (sym c.in_ok-items.ensures) ∙ bounds_in-other items other)
