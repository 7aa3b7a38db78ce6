use Rattle.std.proofs.Common.{◌++◌, length, arith, ◌∙◌, ap, List, ℕ}
use Rattle.ix_base.specs.Spelling.{be32}
use Rattle.ix_base.proofs.WriteLoops.{all_done, all_over}
use Rattle.ix_base.specs.declared.spots.Spot.{Spot}
use Rattle.segment_files.proofs.Runs.{run_spelled, run_fits}
use Rattle.segment_files.proofs.put_places.put_posting.Goals as goal

pub returns-clause-bytes : goal.returns-clause-bytes
returns-clause-bytes c =
    all_done (λ (spot : Spot). be32 spot.position) c.args.out.now.items (be32 c.args.row ++ be32 (length c.args.run.now)) c.args.run.now c.loop-spot.spot-index c.loop-spot.out.items c.loop-spot-test.false c.loop-spot.invariant.bytes
    ∙ ap (λ (l : List ℕ). c.args.out.now.items ++ l) (run_spelled c.args.row c.args.run.now)

pub returns-clause-fits : goal.returns-clause-fits
returns-clause-fits c = run_fits c.args.row c.args.run.now (omega arith) (all_over _ c.args.run.now c.loop-spot.spot-index c.loop-spot-test.false c.loop-spot.invariant.fits)
