use Rattle.std.proofs.Common.{map, take}
use Rattle.query_core.specs.Answers.{term_of}
use Rattle.query_core.specs.Phrases.{AreWords}
use Rattle.query_core.proofs.phrase.words_of.Given as goal

abbrev pub invariant-loop-bytes : goal.invariant-loop-bytes
invariant-loop-bytes l = AreWords l.terms.keys l.order.items (map (term_of l.field) (take l.bytes-index l.bytes-items))
