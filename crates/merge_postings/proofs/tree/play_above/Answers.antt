use Rattle.std.proofs.Common.{◌≡◌, ◌≤◌, ◌+◌, ◌/◌, length, get_or, inl, inr, refl, arith}
use Rattle.merge_postings.proofs.Losers.{up_end, up_other, up_place, up_start, up_turn}
use Rattle.merge_postings.proofs.tree.play_above.Goals as goal
use Rattle.merge_postings.proofs.tree.play_above.Goals.{then-taken-first, else-taken-first}

pub nodes-init : goal.nodes-init
nodes-init c =
    let heads = c.args.heads.now in
    let up = up_start heads c.args.losers.now c.args.place c.requires.place c.requires.played in
    record { all = up.all; below = omega (arith, c.requires.place); place = c.requires.place; up = (length heads + c.args.place, refl, up) }

pub first_of-taken-requires-clause-other : goal.first_of-taken-requires-clause-other
first_of-taken-requires-clause-other c =
    let up = c.nodes.invariant.up in
    up_other c.args.heads.now c.nodes.losers up.0 c.nodes.node c.nodes.first (get_or c.nodes.losers c.nodes.node 0) up.1 (omega (arith, c.nodes-test.true)) up.2 refl

pub nodes-preserved : goal.nodes-preserved
nodes-preserved c =
    let heads = c.args.heads.now in
    let losers = c.nodes.losers in
    let node = c.nodes.node in
    let was = c.nodes.invariant.up in
    let some : 1 ≤ node = omega (arith, c.nodes-test.true) in
    let up =
    up_turn heads losers c.if-taken-first.losers was.0 node c.nodes.first (get_or losers node 0) c.first_of-taken.result c.if-taken-first.first was.1 some was.2 refl c.first_of-taken.ensures
    (elim c.if-taken-first.branch [ then-taken-first w ↦ inl (w.if-taken-first.true, w.losers-is, w.first-is) | else-taken-first w ↦ inr (w.if-taken-first.false, w.losers-is, w.first-is) ]) in
    record { all = up.all; below = omega (arith, c.nodes.invariant.below); place = up_place heads c.if-taken-first.losers node c.if-taken-first.first up; up = (node, refl, up) }

pub returns : goal.returns
returns c =
    let up = c.nodes.invariant.up in
    let none : up.0 / 2 ≡ 0 = omega (arith, c.nodes-test.false, up.1) in
    up_end c.args.heads.now c.nodes.losers up.0 c.nodes.first none up.2
