use Rattle.std.proofs.Common.{◌<◌, ◌∷◌, length, arith}
use Rattle.std.proofs.lemmas.Bool.Decides.{nat_tests}
use Rattle.ix_base.specs.Words.{packed}
use Rattle.node_words.proofs.Packing.{goes_on}
use Rattle.node_words.proofs.pack.pack.Goals as goal

pub loop-rest-preserved : goal.loop-rest-preserved
loop-rest-preserved c =
    let some : 0 < length c.loop-rest.rest.now = grind (arith, nat_tests) in
    goes_on c.loop-rest.words.items c.push-in-loop-rest.new.self.items c.first_word.result c.loop-rest.rest.now c.after_word-rest.result.now (c.args.head ∷ packed c.args.bytes.now)
    some c.in_ok-push-2.ensures.items c.first_word.ensures c.after_word-rest.ensures c.loop-rest.invariant
