use Rattle.std.proofs.Common.{◌≡◌, ◌∙◌, sym, ap, option_and_then, length, vec_len, rules}
use Rattle.serde_json.specs.View.{view}
use Rattle.op_script.specs.Values.{pair_in}
use Rattle.op_script.proofs.Values.{pair_in-other, text_pair-array}
use Rattle.op_script.proofs.members.text_pair.Goals as goal

pub returns-then-len-ne2 : goal.returns-then-len-ne2
returns-then-len-ne2 c =
    let items = c.in_ok-items.items.now.items in
    let len : vec_len c.in_ok-items.items.now ≡ length items = search rules in
    let other = λ (two : length items ≡ 2). c.if-len-ne2.true (c.len.ensures ∙ len ∙ two) in
    sym (text_pair-array (view c.args.value.now) ∙ ap (option_and_then pair_in) (sym c.in_ok-items.ensures) ∙ pair_in-other items other)
