use Rattle.std.proofs.Common.{ap, subst, sym}
use Rattle.merge_postings.specs.Tree.{IsKeyed, Queued}
use Rattle.merge_postings.proofs.KeysBeside.{key_of_first}
use Rattle.merge_postings.proofs.queue.Queue.first_key.Goals as goal

pub returns-then-place-len : goal.returns-then-place-len
returns-then-place-len c w first =
    let q = c.args.self.now in
    key_of_first c.self.inside.heads.items c.self.inside.keys.items q c.place-place.result w c.index.result.now
    (subst (λ (p : Queued). IsKeyed p.field c.self.inside.heads.items c.self.inside.keys.items) c.self.view_is c.self.invariant.2)
    (ap (λ (p : Queued). p.waiting) (sym c.self.view_is)) c.place-place.ensures c.index.ensures first
