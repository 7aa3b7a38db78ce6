use Rattle.std.proofs.Common.{◌∙◌, ap, arith}
use Rattle.door_pool.specs.Passes.{known_doors}
use Rattle.door_pool.specs.Views.{taken_at}
use Rattle.door_pool.proofs.Words.{taken_else}
use Rattle.door_pool_tests.proofs.keeper.take_both.Goals as goal

pub take_soon-requires-2-clause-free : goal.take_soon-requires-2-clause-free
take_soon-requires-2-clause-free c =
    ap (λ doors. taken_at doors 1) c.in_ok-first.ensures.taken
    ∙ taken_else (known_doors c.wait_for.new.keeper) 0 1 (λ e. omega (arith, e))
    ∙ ap (λ doors. taken_at doors 1) c.wait_for.ensures.same ∙ c.requires.free 1
