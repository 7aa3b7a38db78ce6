use Rattle.std.proofs.Common.{◌∙◌, ◌<◌, refl, sym, ap, arith}
use Rattle.ix_base.specs.declared.document.Operation.{Operation}
use Rattle.op_script.specs.declared.script.Act.TheVariants.{Do}
use Rattle.line_shares.proofs.AskLaws.{asked_commit, asked_write, not_commit}
use Rattle.line_shares.proofs.asks.Asked.pass.Goals as goal

pub returns-in-Commit-clause-asked : goal.returns-in-Commit-clause-asked
returns-in-Commit-clause-asked c = λ done l place own is has.
    let within : c.from.result < 256 = omega (arith, c.from.ensures, c.ranges.caller.fits) in
    asked_commit done l c.args.self.now _ c.from.result c.args.line c.in-Commit.field-0 has place
    (own ∙ sym c.from.ensures) (is ∙ ap (λ (op : Operation). Do op) c.in-Commit.is) within refl refl

pub returns-in_default : goal.returns-in_default
returns-in_default c = record {
  asked = λ done l place own is has.
      asked_write done l c.args.self.now c.args.operation.now has is
      (not_commit c.args.operation.now c.in_default.not-Commit);
  count = refl;
}
