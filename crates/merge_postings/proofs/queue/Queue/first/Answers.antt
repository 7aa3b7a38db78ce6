use Rattle.std.proofs.Common.{◌≡◌, ◌∙◌, ℕ, length, get_or, ap, subst, sym, arith, rules}
use Rattle.merge_postings.specs.Tree.{IsFirst, Queued}
use Rattle.merge_postings.proofs.FirstOfAll.{is_first, none_waits_here}
use Rattle.merge_postings.proofs.queue.Queue.first.Goals as goal

pub returns-then-place-len-clause-some : goal.returns-then-place-len-clause-some
returns-then-place-len-clause-some c =
    let q = c.self.inside in
    let heads = c.self.inside.heads.items in
    let w = c.index.result.now in
    let long : c.len.result ≡ length heads = search rules in
    let place : c.place-place.result ≡ q.place = c.place-place.ensures ∙ ap (λ (q : Queued). q.place) (sym c.self.view_is) in
    subst (λ (q : Queued). IsFirst q w) c.self.view_is
    (is_first heads q.losers.items q.place w q.field.now c.self.invariant.0 (omega (arith, c.if-place-len.true, long, place)) (c.index.ensures ∙ ap (λ (k : ℕ). get_or heads k w) place))

pub returns-else-place-len-clause-none : goal.returns-else-place-len-clause-none
returns-else-place-len-clause-none c =
    let q = c.self.inside in
    let heads = c.self.inside.heads.items in
    let long : c.len.result ≡ length heads = search rules in
    let place : c.place-place.result ≡ q.place = c.place-place.ensures ∙ ap (λ (q : Queued). q.place) (sym c.self.view_is) in
    ap (λ (q : Queued). q.waiting) (sym c.self.view_is)
    ∙ none_waits_here heads q.losers.items q.place c.self.invariant.0 (omega (arith, c.if-place-len.false, long, place))
