use Rattle.std.proofs.Common.{◌≡◌, length, refl, arith}
use Rattle.line_shares.proofs.AskLaws.{asked_first}
use Rattle.line_shares.proofs.asks.Asked.new.Goals as goal

pub returns : goal.returns
returns c =
    let count : length c.loop.asks.items ≡ 256 =
    omega (arith, c.loop.invariant.count, c.loop.auto.counter-end, c.loop-test.false) in
    asked_first _ count c.loop.invariant.none refl
