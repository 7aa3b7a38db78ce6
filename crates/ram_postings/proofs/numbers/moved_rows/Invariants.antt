use Rattle.std.proofs.Common.{◌≡◌, ◌≤◌, ◌+◌, ◌++◌, map, length}
use Rattle.std.specs.Prelude.{vec_capacity}
use Rattle.std.specs.Vec.Iter.{into_iter_items}
use Rattle.ram_postings.specs.Buffer.{born_rows}
use Rattle.ram_postings.specs.Kept.{staged_of}
use Rattle.ram_postings.proofs.numbers.moved_rows.Given as goal

abbrev pub invariant-loop-entry : goal.invariant-loop-entry
invariant-loop-entry l = record {
  all : l.yielded ++ into_iter_items l.entry-iterator ≡ l.fn.staged.items;
  rows : l.rows.items ≡ born_rows (map staged_of l.yielded);
  room : length l.rows.items + length (into_iter_items l.entry-iterator) ≤ vec_capacity l.rows;
}
