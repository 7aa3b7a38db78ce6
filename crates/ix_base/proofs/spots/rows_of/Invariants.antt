use Rattle.std.proofs.Common.{◌≡◌, map, take}
use Rattle.ix_base.specs.Grouped.{grouped}
use Rattle.ix_base.proofs.Grouping.{row_of}
use Rattle.ix_base.proofs.spots.rows_of.Given as goal

abbrev pub invariant-loop-spot : goal.invariant-loop-spot
invariant-loop-spot l = l.rows.items ≡ map row_of (grouped (take l.spot-index l.spots))
