use Rattle.std.proofs.Common.{◌∙◌, arith}
use Rattle.live_files.proofs.Bits.{rows_there}
use Rattle.live_files.proofs.read_live.bits_of.Goals as goal

pub slice_bounds-has_bit-count : goal.slice_bounds-has_bit-count
slice_bounds-has_bit-count c = rows_there c.args.row_count c.split_at.result.0.now c.deref-2.result.now (omega arith) (c.deref-2.ensures.value ∙ c.in_ok-bits.ensures)

pub slice_bounds-has_bit-start : goal.slice_bounds-has_bit-start
slice_bounds-has_bit-start c = rows_there c.args.row_count c.split_at.result.0.now c.deref-2.result.now (omega arith) (c.deref-2.ensures.value ∙ c.in_ok-bits.ensures)
