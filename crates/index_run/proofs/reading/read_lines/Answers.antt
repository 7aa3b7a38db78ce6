use Rattle.std.proofs.Common.{◌≡◌, ◌∙◌, ap, sym}
use Rattle.op_script.specs.Language.{script}
use Rattle.op_script.specs.declared.script.Why.TheVariants as why
use Rattle.index_run.proofs.Inputs.{bad_in}
use Rattle.index_run.proofs.reading.read_lines.Goals as goal

pub returns-in-Err-Bad-clause-bad : goal.returns-in-Err-Bad-clause-bad
returns-in-Err-Bad-clause-bad g c = λ bad is.
    let same : c.in-Err-Bad.bad ≡ bad = cc in
    bad_in script 67108864 (record { line = 0; why = why.Long }) bad (g.I.Source.left c.args.input.now) _
    c.in-Ok.bytes.items c.read_script.ensures.long c.in-Ok.ensures.bytes c.in-Ok.ensures.end
    (ap script (sym c.as_slice.ensures.value) ∙ c.in-Err-Bad.ensures.bad bad cc)
