use Rattle.std.proofs.Common.{◌+◌}
use Rattle.std.proofs.lemmas.Result.{err_from_is_err_and}
use Rattle.ix_base.proofs.ReadLoops.{ends_from, is_done}
use Rattle.ix_base.specs.declared.postings.Posting.{Posting}
use Rattle.segment_files.specs.Reading.{posting_at}
use Rattle.segment_files.proofs.PlacesRead.{places_go_on}
use Rattle.segment_files.proofs.read_places.places_of.Goals as goal

pub returns-in_err-row : goal.returns-in_err-row
returns-in_err-row c =
    let p = err_from_is_err_and c.from_residual.result c.from_residual.ensures.1 in
    rw (p.1, p.2) (ends_from (posting_at c.args.row_count) (λ (q : Posting). q.row + 1) 0 c.loop.low c.in_err-row.field-0.0 c.loop.spots c.args.count c.loop.counter c.loop.rest.now _
    c.loop.invariant.low c.loop-test.true c.in_err-row.ensures c.loop.invariant.items)

pub loop-preserved : goal.loop-preserved
loop-preserved c =
    let more = places_go_on c.args.row_count c.loop.low c.args.count c.loop.counter c.loop.rest.now c.loop.spots _ c.in_ok-row.row c.in_ok-row.after.now c.read_posting.new.spots
    c.loop.invariant.low c.loop-test.true c.loop.invariant.below c.loop.invariant.items c.in_ok-row.ensures in
    record { items = more.0; low = more.1; below = more.2 }

pub returns : goal.returns
returns c = is_done (posting_at c.args.row_count) (λ (q : Posting). q.row + 1) 0 c.loop.spots c.args.count c.loop.counter c.loop.rest.now _ c.loop-test.false c.loop.invariant.items
