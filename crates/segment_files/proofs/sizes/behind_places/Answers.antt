use Rattle.std.proofs.Common.{◌+◌, ◌*◌, length, arith}
use Rattle.segment_files.proofs.Rooms.{places_over, places_size}
use Rattle.segment_files.proofs.sizes.behind_places.Goals as goal

pub returns-in_err-behind : goal.returns-in_err-behind
returns-in_err-behind c =
    let first = places_size _ _ _ _ c.in-Some.ensures in
    places_over c.args.room c.loop-run.left _ _ (8 + 4 * length c.in-Some.run'.now) _ _ c.from_residual.ensures c.loop-run.invariant.left first (omega (arith, c.in_err-behind.ensures))

pub returns-in_err-left : goal.returns-in_err-left
returns-in_err-left c =
    let first = places_size _ _ _ _ c.in-Some.ensures in
    places_over c.args.room c.loop-run.left _ _ (8 + 4 * length c.in-Some.run'.now) _ _ c.from_residual-in_err-left.ensures c.loop-run.invariant.left first
    (omega (arith, c.in_ok-behind.ensures, c.in_err-left.ensures))

pub loop-run-preserved : goal.loop-run-preserved
loop-run-preserved c =
    let first = places_size _ _ _ _ c.in-Some.ensures in
    record { left = omega (arith, first, c.in_ok-behind.ensures, c.in_ok-left.ensures, c.loop-run.invariant.left) }
