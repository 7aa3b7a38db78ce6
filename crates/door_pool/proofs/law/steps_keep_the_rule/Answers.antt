use Rattle.door_pool.proofs.Moving.{begins, enters, leaves, tries_to_take, keeps_doors, splits}
use Rattle.door_pool.proofs.law.steps_keep_the_rule.Goals as goal

pub returns-clause-opening : goal.returns-clause-opening
returns-clause-opening g c = begins g.H.Held.deed g.H.Held.told

pub returns-clause-enter : goal.returns-clause-enter
returns-clause-enter g c = enters g.H.Held.deed g.H.Held.told

pub returns-clause-leave : goal.returns-clause-leave
returns-clause-leave g c = leaves g.H.Held.deed g.H.Held.told

pub returns-clause-take : goal.returns-clause-take
returns-clause-take g c = tries_to_take g.H.Held.deed g.H.Held.told

pub returns-clause-bell_or_count : goal.returns-clause-bell_or_count
returns-clause-bell_or_count g c = keeps_doors g.H.Held.deed g.H.Held.told

pub returns-clause-split : goal.returns-clause-split
returns-clause-split g c = splits g.H.Held.deed g.H.Held.told
