use Rattle.std.proofs.Common.{◌≡◌, ◌<◌, ℕ, false, take, length, get_or}
use Rattle.ix_base.specs.Inversion.{has_number}
use Rattle.query_core.proofs.row_lists.marks_of.Given as goal

abbrev pub invariant-loop-number : goal.invariant-loop-number
invariant-loop-number l = record {
  long : length l.marks.items ≡ l.end;
  marked : (x : ℕ) → x < l.end → get_or l.marks.items x false ≡ has_number (take l.number-index l.numbers) x;
}
