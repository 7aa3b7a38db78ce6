use Rattle.std.proofs.Common.{◌≡◌, List, take, sym, ap, ◌∙◌, subst}
use Rattle.ix_base.specs.Posted.{posted_at}
use Rattle.ix_base.specs.declared.postings.Posting.{Posting}
use Rattle.std.proofs.lemmas.List.{take_all}
use Rattle.ix_base.specs.declared.spots.Spot.{Spot}
use Rattle.ram_postings.proofs.MovedSpots.{Moved, moves_after, moves_others, moves_exact}
use Rattle.ram_postings.proofs.renumbering.put_renumbered.Goals as goal

pub push-requires : goal.push-requires
push-requires c =
    let d : Spot = record { row = 0; position = 0 } in
    moves_after c.args.numbers.now c.args.spots.now c.loop-spot.spot-index d c.in-Some.row c.args.list.now c.loop-spot.list c.requires.rise c.requires.spots c.requires.below c.loop-spot-test.true (sym c.number_at.ensures ∙ c.in-Some.is) c.loop-spot.invariant

pub returns-in_err-push-clause-others : goal.returns-in_err-push-clause-others
returns-in_err-push-clause-others c = λ r x h.
    ap (λ (rows : List Posting). posted_at rows r x) c.in_err-push.ensures.err ∙ moves_others c.args.numbers.now (take c.loop-spot.spot-index c.args.spots.now) c.args.list.now c.loop-spot.list c.loop-spot.invariant r x h

pub returns-clause-others : goal.returns-clause-others
returns-clause-others c = moves_others c.args.numbers.now (take c.loop-spot.spot-index c.args.spots.now) c.args.list.now c.loop-spot.list c.loop-spot.invariant

pub returns-clause-ok : goal.returns-clause-ok
returns-clause-ok c =
    let all : take c.loop-spot.spot-index c.args.spots.now ≡ c.args.spots.now = take_all c.loop-spot.spot-index c.args.spots.now c.loop-spot-test.false in
    moves_exact c.args.numbers.now c.args.spots.now c.args.list.now c.loop-spot.list c.requires.rise c.requires.below
    (subst (λ (spots : List Spot). Moved c.args.numbers.now spots c.args.list.now c.loop-spot.list) all c.loop-spot.invariant)
