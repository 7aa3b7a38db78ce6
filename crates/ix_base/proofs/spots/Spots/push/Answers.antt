use Rattle.std.proofs.Common.{◌∙◌, sym, ap, subst, List, []}
use Rattle.ix_base.specs.declared.postings.Posting.{Posting}
use Rattle.ix_base.specs.declared.spots.Spot.{Spot}
use Rattle.ix_base.specs.Grouped.{with_spot, IsAfter}
use Rattle.ix_base.specs.Inversion.{posted_at}
use Rattle.ix_base.proofs.GroupedLaws.{grouped_push, spot_exact}
use Rattle.ix_base.proofs.Ordering.{spots_more}
use Rattle.ix_base.proofs.spots.Spots.push.Goals as goal

pub invariant_of-self-2 : goal.invariant_of-self-2
invariant_of-self-2 c =
    let s : Spot = record { row = c.args.row; position = c.args.position } in
    let after = subst (λ (l : List Posting). IsAfter c.args.row c.args.position l) (sym c.self.view_is) c.requires in
    rw c.in_ok-push.ensures.ok (spots_more c.self.inside.spots.list.items s c.self.invariant after)

pub returns-clause-ok : goal.returns-clause-ok
returns-clause-ok c =
    let s : Spot = record { row = c.args.row; position = c.args.position } in
    rw c.in_ok-push.ensures.ok (grouped_push [] c.self.inside.spots.list.items s ∙ ap (λ (l : List Posting). with_spot l s) c.self.view_is)

pub returns-clause-exact : goal.returns-clause-exact
returns-clause-exact c =
    let s : Spot = record { row = c.args.row; position = c.args.position } in
    λ r x. ap (λ (l : List Posting). posted_at l r x) (returns-clause-ok c) ∙ spot_exact c.args.self.now s r x

pub returns-clause-ordered : goal.returns-clause-ordered
returns-clause-ordered c = (invariant_of-self-2 c).postings
