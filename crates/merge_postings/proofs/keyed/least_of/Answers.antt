use Rattle.std.proofs.Common.{inl, inr}
use Rattle.merge_postings.proofs.FirstOfTwo.{least_more, order_by_texts}
use Rattle.merge_postings.proofs.keyed.least_of.Goals as goal
use Rattle.merge_postings.proofs.keyed.least_of.Goals.{in-Less, in_default}

pub loop-place-preserved : goal.loop-place-preserved
loop-place-preserved c =
    let heads = c.args.heads.now in
    let place = c.loop-place.place in
    let least = c.loop-place.least in
    let order = order_by_texts heads place least c.index-heads-place.result c.index-heads-least.result c.term.result.now c.term-in-loop-place.result.now c.compare_terms.result
    c.loop-place-test.true c.loop-place.invariant.within c.index-heads-place.is c.index-heads-least.is c.term.ensures c.term-in-loop-place.ensures c.compare_terms.ensures in
    least_more heads place least c.match-compare_terms.least c.compare_terms.result c.loop-place.invariant c.loop-place-test.true order
    (elim c.match-compare_terms.branch [ in-Less w ↦ inl (w.in-Less.is, w.least-is) | in_default w ↦ inr (w.in_default.not-Less, w.least-is) ])
