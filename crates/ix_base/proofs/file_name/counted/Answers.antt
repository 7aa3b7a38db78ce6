use Rattle.std.proofs.Common.{◌≡◌, rules}
use Rattle.std.specs.declared.result.Result.TheVariants.{Ok}
use Rattle.std.proofs.lemmas.Fmt.{parse-decimal}
use Rattle.ix_base.proofs.file_name.counted.Goals.{else-number-gt0-via-then-number-gt0+else-eq, else-number-gt0-via-else-number-gt0}
use Rattle.ix_base.proofs.file_name.counted.Goals as goal

pub returns-in_err-number-clause-none : goal.returns-in_err-number-clause-none
returns-in_err-number-clause-none c gone number own e =
    let read : c.parse.result ≡ Ok number = parse-decimal 64 number c.args.digits.now c.parse.result own.fits own.fits e c.parse.ensures.value.0 in
    search rules

pub returns-else-number-gt0-clause-none : goal.returns-else-number-gt0-clause-none
returns-else-number-gt0-clause-none c gone number own e =
    let read : c.parse.result ≡ Ok number = parse-decimal 64 number c.args.digits.now c.parse.result own.fits own.fits e c.parse.ensures.value.0 in
    let same : c.in_ok-number.number ≡ number = search rules in
    elim c.else-number-gt0.branch [
      | else-number-gt0-via-then-number-gt0+else-eq w ↦ search rules
      | else-number-gt0-via-else-number-gt0 w ↦ search (rules, own.some)
    ]
