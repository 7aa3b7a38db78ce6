use Rattle.std.proofs.Common.{◌≡◌, ◌≢◌, ◌-◌, List, Some, true, length, sym, ap, ◌∙◌, subst}
use Rattle.std.specs.List.{slice_get}
use Rattle.ix_base.specs.declared.postings.Posting.{Posting}
use Rattle.ix_base.specs.declared.spots.Spot.{Spot}
use Rattle.ix_base.specs.Grouped.{IsAfter, IsUpto}
use Rattle.ix_base.specs.Posted.{posted_at}
use Rattle.ix_base.proofs.Ordering.{already, last_there, after_upto}
use Rattle.ix_base.proofs.spots.Spots.add.Goals as goal

pub returns-then-ends_at-clause-exact : goal.returns-then-ends_at-clause-exact
returns-then-ends_at-clause-exact c =
    let row = c.args.row in
    let position = c.args.position in
    let s : Spot = record { row = row; position = position } in
    let spots = c.self.inside.spots.list.items in
    let last : slice_get spots (length spots - 1) ≡ Some s = ap (λ (l : List Spot). slice_get l (length l - 1)) (sym c.as_slice.ensures) ∙ c.ends_at.ensures.0 c.if-ends_at.true in
    let there = subst (λ (l : List Posting). posted_at l row position ≡ true) c.self.view_is (last_there spots s last) in
    λ r x. already c.args.self.now row position r x there

pub push-requires : goal.push-requires
push-requires c =
    let s : Spot = record { row = c.args.row; position = c.args.position } in
    let spots = c.self.inside.spots.list.items in
    let upto = subst (λ (l : List Posting). IsUpto c.args.row c.args.position l) (sym c.self.view_is) c.requires in
    let other : slice_get spots (length spots - 1) ≢ Some s = λ e.
    let yes = c.ends_at.ensures.1 (ap (λ (l : List Spot). slice_get l (length l - 1)) c.as_slice.ensures ∙ e) in
    let no' = c.if-ends_at.false in
    cc in
    subst (λ (l : List Posting). IsAfter c.args.row c.args.position l) c.self.view_is (after_upto spots s c.self.invariant upto other)
