use Rattle.std.proofs.Common.{◌≡◌, false}
use Rattle.door_pool.specs.Passes.{IsPassOf, view_of}
use Rattle.door_pool_tests.proofs.caller.work.Given as goal

abbrev pub invariant-loop-line : goal.invariant-loop-line
invariant-loop-line l = record {
  pass : IsPassOf l.doors l.pass;
  outside : (view_of l.pass).inside ≡ false;
}
