use Rattle.std.proofs.Common.{◌≡◌}
use Rattle.door_pool.specs.Passes.{IsKeeperOf, known_doors}
use Rattle.door_pool_tests.proofs.keeper.take_soon.Given as goal

abbrev pub invariant-loop : goal.invariant-loop
invariant-loop l = record {
  keeper : IsKeeperOf l.doors l.keeper;
  same : known_doors l.keeper ≡ known_doors l.fn.keeper;
}
