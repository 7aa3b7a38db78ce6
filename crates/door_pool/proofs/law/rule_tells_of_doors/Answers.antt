use Rattle.door_pool.proofs.Telling.{three_words, one_where_in, two_where_taken, hand_at_home}
use Rattle.door_pool.proofs.law.rule_tells_of_doors.Goals as goal

pub returns-clause-words : goal.returns-clause-words
returns-clause-words g c = three_words g.H.Held.deed g.H.Held.told

pub returns-clause-inside : goal.returns-clause-inside
returns-clause-inside g c = one_where_in g.H.Held.deed g.H.Held.told

pub returns-clause-taken : goal.returns-clause-taken
returns-clause-taken g c = two_where_taken g.H.Held.deed g.H.Held.told

pub returns-clause-home : goal.returns-clause-home
returns-clause-home g c = hand_at_home g.H.Held.deed g.H.Held.told
