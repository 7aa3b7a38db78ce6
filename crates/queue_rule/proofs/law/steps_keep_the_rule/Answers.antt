use Rattle.queue_rule.proofs.Seating.{opens, splits, joins}
use Rattle.queue_rule.proofs.Telling.{may_draft, may_try, may_look, may_read, fresh_sound}
use Rattle.queue_rule.proofs.law.steps_keep_the_rule.Goals as goal

pub returns-clause-opening : goal.returns-clause-opening
returns-clause-opening c = opens

pub returns-clause-store : goal.returns-clause-store
returns-clause-store c = may_draft

pub returns-clause-exchange : goal.returns-clause-exchange
returns-clause-exchange c = may_try

pub returns-clause-next_load : goal.returns-clause-next_load
returns-clause-next_load c = may_look

pub returns-clause-linked_load : goal.returns-clause-linked_load
returns-clause-linked_load c = may_read

pub returns-clause-split : goal.returns-clause-split
returns-clause-split c = splits

pub returns-clause-join : goal.returns-clause-join
returns-clause-join c = joins

pub returns-clause-fresh : goal.returns-clause-fresh
returns-clause-fresh c = fresh_sound
