use Rattle.ix_base.specs.declared.broken.Broken.TheVariants.{At}
use Rattle.std.proofs.lemmas.Result.{err_from_is_err_and}
use Rattle.segment_files.proofs.PlacesRead.{comes_after, positions_go_on, positions_end, positions_done}
use Rattle.segment_files.proofs.read_places.read_positions.Goals as goal

pub returns-in_err-position : goal.returns-in_err-position
returns-in_err-position c =
    let p = err_from_is_err_and c.from_residual.result c.from_residual.ensures.1 in
    rw (p.1, p.2) (positions_end c.args.spots.now c.args.row c.loop.low c.args.count c.loop.counter c.loop.rest.now c.loop.spots _ (At c.in_err-position.field-0.0.left) c.loop-test.true c.in_err-position.ensures c.loop.invariant)

pub push-requires : goal.push-requires
push-requires c = comes_after c.args.spots.now c.args.row c.loop.low _ c.loop.rest.now c.loop.spots _ c.in_ok-position.position c.in_ok-position.after.now c.requires c.in_ok-position.ensures c.loop.invariant

pub loop-preserved : goal.loop-preserved
loop-preserved c = positions_go_on c.args.spots.now c.args.row c.loop.low c.args.count c.loop.counter c.loop.rest.now c.loop.spots _ c.in_ok-position.position c.in_ok-position.after.now c.push.new.self c.requires c.loop-test.true c.in_ok-position.ensures c.in_ok-push.ensures.ok c.loop.invariant

pub returns : goal.returns
returns c = positions_done c.args.spots.now c.args.row c.loop.low c.args.count c.loop.counter c.loop.rest.now c.loop.spots _ c.loop-test.false c.loop.invariant
