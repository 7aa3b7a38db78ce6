use Rattle.std.proofs.Common.{◌≡◌, ◌∙◌, [], ◌∷◌, ◌++◌, length, sym, ap, subst, arith}
use Rattle.std.specs.Vec.Iter.{into_iter_items}
use Rattle.worker_tasks.specs.declared.share.Share.{Share}
use Rattle.index_run.specs.Replied.{AreRepliesOf, Counts, Replies}
use Rattle.line_shares.proofs.LineLaws.{zip_more}
use Rattle.index_run.proofs.outcomes.replies_of.Goals as goal

pub loop-share-preserved : goal.loop-share-preserved
loop-share-preserved c =
    let at = c.loop-share in
    let own = c.into_iter.result in
    let items = c.into_iter.ensures.rest ∙ c.into_replies.ensures in
    let counts : Counts own =
    let len = c.into_iter.ensures.len in
    let ok = c.into_replies.result.ok in
    let rest = ap length c.into_iter.ensures.rest in
    omega arith in
    subst (AreRepliesOf (at.yielded ++ c.in-Some.share ∷ [])) (sym c.in_ok-push.ensures.items)
    (zip_more (λ (s : Share) (own : Replies). (into_iter_items own ≡ s.replies) × Counts own) at.yielded at.told.items
    c.in-Some.share own at.invariant (items, counts))
