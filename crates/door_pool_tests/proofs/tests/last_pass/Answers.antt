use Rattle.door_pool.proofs.Beginning.{last_new, others_new}
use Rattle.door_pool_tests.proofs.tests.last_pass.Goals as goal

pub returns-in-Some-clause-pass : goal.returns-in-Some-clause-pass
returns-in-Some-clause-pass c = (last_new _ _ _ c.pop.new.self.items c.in-Some.pass c.requires c.in-Some.ensures.items).pass

pub returns-in-Some-clause-outside : goal.returns-in-Some-clause-outside
returns-in-Some-clause-outside c = (last_new _ _ _ c.pop.new.self.items c.in-Some.pass c.requires c.in-Some.ensures.items).outside

pub returns-in-Some-clause-rest : goal.returns-in-Some-clause-rest
returns-in-Some-clause-rest c = others_new _ _ _ c.pop.new.self.items c.in-Some.pass c.requires c.in-Some.ensures.items
