use Rattle.std.proofs.Common.{List, Option, Some, None, IfSome, sym, subst}
use Rattle.std.specs.Option.{unwrap_or}
use Rattle.ix_base.specs.declared.document.Row.{Row}
use Rattle.segment_core.specs.Columns.{AreColumnsOf}
use Rattle.segment_core.specs.declared.columns.Columns.{Columns}
use Rattle.segment_core.proofs.live_segment.LiveSegment.prepare.Goals as goal

there_or_new : (rows : List Row) (columns : Option Columns) (new : Columns) → IfSome columns (AreColumnsOf rows) → AreColumnsOf rows new → AreColumnsOf rows (unwrap_or columns new)
there_or_new rows None new there made = made
there_or_new rows (Some columns) new there made = there

pub prepare-requires : goal.prepare-requires
prepare-requires c =
    let rows = c.self.inside.segment.rows in
    let now = c.get_or_insert-columns.result.now in
    subst (λ (rows : List Row). AreColumnsOf rows now) (sym c.as_slice.ensures)
    (subst (AreColumnsOf rows) (sym c.get_or_insert-columns.ensures.value) (there_or_new rows c.self.inside.columns c.new.result c.self.invariant.1 (c.new.ensures rows)))
