use Rattle.std.proofs.Common.{◌≡◌, List, take}
use Rattle.ix_base.specs.Inversion.{rows_where}
use Rattle.ix_base.specs.Documents.{Document}
use Rattle.query_core.specs.Answers.{holds_all}
use Rattle.query_core.proofs.phrase.holding_all.Given as goal

abbrev pub invariant-loop-i : goal.invariant-loop-i
invariant-loop-i g l = (docs : List Document) → g.I.Inverted.inverts l.index docs → l.rows.items ≡ rows_where (holds_all (take l.i l.terms)) docs
