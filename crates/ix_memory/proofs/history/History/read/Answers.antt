use Rattle.std.proofs.Common.{ap, ◌∙◌}
use Rattle.ix_outside.specs.Files.{Files}
use Rattle.ix_memory.proofs.HistoryLaws.{whole_is_read}
use Rattle.ix_memory.proofs.history.History.read.Goals as goal

pub returns : goal.returns
returns c = c.left.ensures ∙ ap (λ (f : Files). f c.args.name) (whole_is_read c.args.self.now)
