use Rattle.std.proofs.Common.{◌≡◌, ◌≤◌, List, take, Some}
use Rattle.std.specs.List.{AllZip, flat_map}
use Rattle.ix_outside.specs.Disk.{told_files}
use Rattle.ix_outside.specs.Files.{Files}
use Rattle.commit_point.specs.Holds.{HasHead}
use Rattle.commit_point.specs.declared.heads.Head.{Head}
use Rattle.store_answers.specs.Listing.{line_text}
use Rattle.store_answers.proofs.listing.lines_of.Given as goal

abbrev pub invariant-loop-number : goal.invariant-loop-number
invariant-loop-number g l = record {
  text : (files : Files) → told_files (g.S.Store.disk l.fn.store) ≡ Some files
      → (heads : List Head) × AllZip (HasHead files) (take l.number-index l.numbers) heads × (l.text.items ≡ flat_map line_text heads);
  reads : g.S.Store.disk l.store ≡ g.S.Store.disk l.fn.store;
  later : g.S.Store.fault_count l.fn.store ≤ g.S.Store.fault_count l.store;
}
