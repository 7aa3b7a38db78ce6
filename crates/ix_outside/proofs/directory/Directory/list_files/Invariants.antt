use Rattle.std.proofs.Common.{All}
use Rattle.ix_base.specs.FileNames.{IsFileName}
use Rattle.ix_outside.proofs.directory.Directory.list_files.Given as goal

abbrev pub invariant-loop-entry : goal.invariant-loop-entry
invariant-loop-entry g l = All IsFileName l.names.items
