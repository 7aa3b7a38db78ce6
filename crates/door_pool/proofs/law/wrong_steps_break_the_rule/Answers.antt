use Rattle.door_pool.proofs.Refuted.{no_shut, no_theft}
use Rattle.door_pool.proofs.law.wrong_steps_break_the_rule.Goals as goal

pub returns-clause-shut : goal.returns-clause-shut
returns-clause-shut g c = no_shut g.H.Held.deed g.H.Held.told

pub returns-clause-inside : goal.returns-clause-inside
returns-clause-inside g c = no_theft g.H.Held.deed g.H.Held.told
