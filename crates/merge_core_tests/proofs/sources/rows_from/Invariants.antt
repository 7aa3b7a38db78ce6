use Rattle.std.proofs.Common.{◌≡◌, ◌*◌, length}
use Rattle.std.specs.List.{AllByRecursion}
use Rattle.ix_base.specs.Births.{first_birth}
use Rattle.segment_files.specs.Fits.{BirthsRise}
use Rattle.merge_core_tests.specs.Sources.{IsBornFrom, birth_at}
use Rattle.merge_core_tests.proofs.sources.rows_from.Given as goal

abbrev pub invariant-loop-at : goal.invariant-loop-at
invariant-loop-at l = record {
  rise : BirthsRise (first_birth 1) (birth_at (3 * l.at)) l.rows.items;
  born : AllByRecursion (IsBornFrom l.first) l.rows.items;
  count : length l.rows.items ≡ l.at;
}
