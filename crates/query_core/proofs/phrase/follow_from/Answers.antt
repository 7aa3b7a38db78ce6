use Rattle.std.proofs.Common.{◌≡◌, ◌+◌, ◌<◌, ◌&&◌, ℕ, List, [], All, Vec, Global, length, get_or, take, sym, ap, ◌∙◌, subst, arith}
use Rattle.std.proofs.lemmas.List.{length-map, length-set, get_or-map}
use Rattle.ix_base.specs.Inversion.{has_number}
use Rattle.query_core.specs.Answers.{IsRising}
use Rattle.query_core.specs.Phrases.{lists_of, in_turn, follow_from}
use Rattle.query_core.proofs.Phrases.{follow_none, follow_more}
use Rattle.query_core.proofs.phrase.follow_from.Goals as goal

-- the next of the lists, and whether it has the next position
next_list : (lists : List (Vec ℕ Global)) (order : List ℕ) (i at : ℕ) (places : Vec ℕ Global) (there : get_or order i 0 < length lists) → i < length order
    → places ≡ get_or lists (get_or order i 0) places → All IsRising (lists_of lists)
    → IsRising places.items × (follow_from (take (i + 1) (in_turn [] (lists_of lists) order)) at ≡ (follow_from (take i (in_turn [] (lists_of lists) order)) at && has_number places.items (at + i)))
next_list lists order i at places there lt at_it rise =
    let o = get_or order i 0 in
    let all = in_turn [] (lists_of lists) order in
    let long : length all ≡ length order = length-map order (λ k. get_or (lists_of lists) k []) in
    let listed : get_or (lists_of lists) o [] ≡ places.items = get_or-map (λ (v : Vec ℕ Global). v.items) lists o places [] there ∙ sym (ap (λ (v : Vec ℕ Global). v.items) at_it) in
    let is : get_or all i [] ≡ places.items = get_or-map (λ k. get_or (lists_of lists) k []) order i 0 [] lt ∙ listed in
    (subst IsRising listed (rise o [] (omega (arith, length-map lists (λ (v : Vec ℕ Global). v.items)))), follow_more all i at places.items (omega arith) is)

pub returns-then-not-has_from-clause-follow : goal.returns-then-not-has_from-clause-follow
returns-then-not-has_from-clause-follow c = λ rise.
    let lists = c.args.lists.now in
    let order = c.args.order.now in
    let i = c.loop-i.i in
    let places = c.index-lists-order.result in
    let next = next_list lists order i c.args.at places (c.requires.within i 0 c.loop-i-test.true) c.loop-i-test.true c.index-lists-order.is rise in
    let lacks = sym (c.has_from.ensures (subst IsRising (sym c.as_slice-places.ensures.value) next.0) ∙ (λ n. has_number (c.as_slice-places.ensures.value n) (c.from.ensures n + i))) ∙ c.if-not-has_from.true in
    sym (follow_none (in_turn [] (lists_of lists) order) (i + 1) c.args.at (next.1 ∙ (λ n. c.loop-i.invariant.follow rise n && lacks n)))

pub loop-i-preserved : goal.loop-i-preserved
loop-i-preserved c =
    let lists = c.args.lists.now in
    let order = c.args.order.now in
    let i = c.loop-i.i in
    let places = c.index-lists-order.result in
    record {
      ends = length-set c.loop-i.ends (get_or order i 0) c.has_from.new.place ∙ c.loop-i.invariant.ends;
      follow = λ rise.
          let next = next_list lists order i c.args.at places (c.requires.within i 0 c.loop-i-test.true) c.loop-i-test.true c.index-lists-order.is rise in
          let has = sym (c.has_from.ensures (subst IsRising (sym c.as_slice-places.ensures.value) next.0) ∙ (λ n. has_number (c.as_slice-places.ensures.value n) (c.from.ensures n + i))) ∙ c.if-not-has_from.false in
          next.1 ∙ (λ n. c.loop-i.invariant.follow rise n && has n);
    }
