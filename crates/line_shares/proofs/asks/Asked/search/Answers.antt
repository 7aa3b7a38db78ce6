use Rattle.std.proofs.Common.{◌∙◌, ◌<◌, refl, sym, arith}
use Rattle.line_shares.proofs.AskLaws.{asked_search}
use Rattle.line_shares.proofs.asks.Asked.search.Goals as goal

pub returns : goal.returns
returns c = record {
  asked = λ done l place own is has.
      let within : c.from-caller.result < 256 = omega (arith, c.from-caller.ensures, c.ranges.caller.fits) in
      asked_search done l c.args.self.now _ c.from-caller.result c.args.line _ 0 c.args.query c.index_mut.result.now
      c.push.new.self has place (own ∙ sym c.from-caller.ensures) is within refl (sym c.index_mut.ensures.value)
      c.in_ok-push.ensures.items refl refl;
}
