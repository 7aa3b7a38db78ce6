use Rattle.std.proofs.Common.{ℕ, ◌+◌, ap}
use Rattle.analysis.proofs.KeptDocuments.{rows_more}
use Rattle.analysis.proofs.inverse.fields_of.Goals as goal

pub loop-row-preserved : goal.loop-row-preserved
loop-row-preserved c = record {
  counted = ap (λ (n : ℕ). n + 1) c.loop-row.invariant.counted;
  so_far = rows_more c.args.rows.now c.loop-row.row-index c.row-item.result c.loop-row.number c.loop-row.fields.entries c.add_document.new.fields.entries
      c.loop-row-test.true c.row-item.is c.loop-row.invariant.counted c.loop-row.invariant.so_far c.in_ok-add_document.ensures;
}
