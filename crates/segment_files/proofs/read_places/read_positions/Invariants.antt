use Rattle.std.proofs.Common.{◌+◌, ◌-◌, ℕ}
use Rattle.ix_base.specs.Codec.{items_at}
use Rattle.segment_files.specs.Reading.{position_at}
use Rattle.segment_files.proofs.PlacesRead.{PositionsRead}
use Rattle.segment_files.proofs.read_places.read_positions.Given as goal

abbrev pub invariant-loop : goal.invariant-loop
invariant-loop l = PositionsRead l.fn.spots l.row l.low (l.count - l.counter) l.rest l.spots (items_at position_at (λ (x : ℕ). x + 1) 0 l.count l.bytes)
