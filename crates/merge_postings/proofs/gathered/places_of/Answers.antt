use Rattle.std.proofs.Common.{◌∙◌, arith}
use Rattle.merge_postings.specs.Gathering.{is_gathered}
use Rattle.merge_postings.proofs.Listing.{all_listed}
use Rattle.merge_postings.proofs.gathered.places_of.Goals as goal

pub returns : goal.returns
returns c r x =
    c.in_ok-rows.ensures r x
    ∙ all_listed c.args.parts.now c.loop-part.part-index (is_gathered c.loop-part.gathered r x) r x (omega (arith, c.loop-part-test.false)) (c.loop-part.invariant r x)
