use Rattle.std.proofs.Common.{not}
use Rattle.std.proofs.lemmas.List.Elements.{All-filter}
use Rattle.ix_base.specs.FileNames.{IsFileName}
use Rattle.ix_outside.specs.Disk.{is_same}
use Rattle.ix_memory.proofs.NameLists.{loses}
use Rattle.ix_memory.proofs.names.lose.Goals as goal

pub returns-clause-change : goal.returns-clause-change
returns-clause-change c = rw c.take_out.ensures (loses c.args.name c.args.names.now.items)

pub returns-clause-real : goal.returns-clause-real
returns-clause-real c all = rw c.take_out.ensures (All-filter (λ other. not (is_same other c.args.name)) IsFileName c.args.names.now.items all)
