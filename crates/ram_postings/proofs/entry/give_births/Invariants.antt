use Rattle.std.proofs.Common.{◌≡◌, map}
use Rattle.ix_base.specs.Births.{first_birth}
use Rattle.ram_postings.specs.Buffer.{with_births}
use Rattle.ram_postings.specs.Kept.{staged_of, placed_of}
use Rattle.ram_postings.proofs.entry.give_births.Given as goal

abbrev pub invariant-loop-place : goal.invariant-loop-place
invariant-loop-place l = record {
  births : map staged_of l.entries ≡ with_births (map staged_of l.fn.entries) l.first l.place (first_birth l.number);
  placed : map placed_of l.entries ≡ map placed_of l.fn.entries;
}
