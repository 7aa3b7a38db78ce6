use Rattle.std.proofs.Common.{◌≡◌, ◌==◌, position, Some, None, rules}
use Rattle.op_script.proofs.Lines.{cut, uncut}
use Rattle.op_script.proofs.input_lines.cut_line.Goals as goal

pub returns-in_err-end-clause-cut : goal.returns-in_err-end-clause-cut
returns-in_err-end-clause-cut c =
    let none : position (λ b. b == 10) c.args.text.now ≡ None = search rules in
    let is : c.from_residual.result ≡ None = search rules in
    rw is (uncut c.args.text.now none)

pub returns-clause-cut : goal.returns-clause-cut
returns-clause-cut c =
    let found : position (λ b. b == 10) c.args.text.now ≡ Some c.in_ok-end.end = search rules in
    cut c.args.text.now c.in_ok-end.end found
