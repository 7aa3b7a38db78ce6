use Rattle.std.proofs.Common.{arith}
use Rattle.segment_files.proofs.PlacesRead.{posting_put}
use Rattle.segment_files.proofs.read_places.read_posting.Goals as goal

pub returns : goal.returns
returns c = posting_put c.args.row_count c.args.low c.args.bytes.now c.in_ok-row.row c.in_ok-row.counted.now c.in_ok-count.count c.in_ok-count.rest.now c.in_ok-rest.rest.now c.args.spots.now c.read_positions.new.spots
    c.in_ok-row.ensures (omega arith) (omega arith) c.in_ok-count.ensures (omega arith) c.in_ok-rest.ensures
