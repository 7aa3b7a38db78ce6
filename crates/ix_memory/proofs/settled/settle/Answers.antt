use Rattle.std.proofs.lemmas.Result.{on_ok_weaker}
use Rattle.ix_memory.proofs.SettledFiles.{durable}
use Rattle.ix_memory.proofs.settled.settle.Goals as goal

pub returns-clause-durable : goal.returns-clause-durable
returns-clause-durable c = on_ok_weaker c.push.result (λ is. durable c.args.history.now c.push.new.self is) c.push.ensures.ok
