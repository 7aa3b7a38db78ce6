use Rattle.std.proofs.Common.{◌≡◌, [], length}
use Rattle.std.specs.List.{AllByRecursion}
use Rattle.std.specs.Global.{Vec}
use Rattle.line_shares.specs.declared.asks.Ask.{Ask}
use Rattle.line_shares.proofs.asks.Asked.new.Given as goal

abbrev pub invariant-loop : goal.invariant-loop
invariant-loop l = record {
  count : length l.asks.items ≡ l.counter;
  none : AllByRecursion (λ (own : Vec Ask). own.items ≡ []) l.asks.items;
}
