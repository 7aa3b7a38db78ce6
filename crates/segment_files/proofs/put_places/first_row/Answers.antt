use Rattle.std.proofs.Common.{sym, ap}
use Rattle.ix_base.specs.declared.spots.Spot.{Spot}
use Rattle.segment_files.proofs.Runs.{split_is_first_row}
use Rattle.segment_files.proofs.put_places.first_row.Goals as goal

pub returns-in-Some : goal.returns-in-Some
returns-in-Some c =
    split_is_first_row c.args.spots.now c.split_at.result.0.now c.split_at.result.1.now c.in-Some.first.now.row c.run_len.result c.in-Some.first.now
    c.in-Some.ensures.item.3.0 (ap (λ (s : Spot). s.row) (sym c.in-Some.ensures.item.1)) c.run_len.ensures.within c.run_len.ensures.same c.run_len.ensures.next c.split_at.ensures.front c.split_at.ensures.back
