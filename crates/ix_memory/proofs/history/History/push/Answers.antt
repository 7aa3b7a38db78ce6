use Rattle.std.proofs.lemmas.List.Elements.{All-push}
use Rattle.ix_memory.specs.Names.{NamesFile}
use Rattle.ix_memory.proofs.history.History.push.Goals as goal

pub invariant_of-self-2 : goal.invariant_of-self-2
invariant_of-self-2 c = rw c.in_ok-push.ensures.items (All-push NamesFile c.self.inside.steps.items c.args.step c.self.invariant c.requires)
