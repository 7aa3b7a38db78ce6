use Rattle.std.proofs.Common.{◌≡◌, [], ◌∷◌, rules}
use Rattle.op_script.specs.Lines.{lines_of}
use Rattle.op_script.proofs.Lines.{all_read}
use Rattle.op_script.proofs.read.read_lines.Goals as goal

pub returns-clause-ok : goal.returns-clause-ok
returns-clause-ok c =
    let last : lines_of c.loop-text.rest.now ≡ c.loop-text.rest.now ∷ [] = search rules in
    all_read c.loop-text.lines.items c.add_line-2.new.lines.items c.loop-text.at c.loop-text.rest.now c.args.bytes.now c.loop-text.invariant.read last c.in_ok-add_line-2.ensures.ok
