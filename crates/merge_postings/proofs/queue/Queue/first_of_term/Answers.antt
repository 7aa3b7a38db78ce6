use Rattle.std.proofs.Common.{◌≡◌, ◌∙◌, ℕ, length, get_or, inr, ap, subst, sym, arith, rules}
use Rattle.merge_postings.specs.Keys.{KeysTerm}
use Rattle.merge_postings.specs.Tree.{IsFirst, Queued}
use Rattle.merge_postings.proofs.FirstOfAll.{is_first}
use Rattle.merge_postings.proofs.KeysBeside.{keyed_at}
use Rattle.merge_postings.proofs.queue.Queue.first_of_term.Goals as goal

pub has_term-requires : goal.has_term-requires
has_term-requires c =
    let heads = c.self.inside.heads.items in
    let field = c.self.inside.field.now in
    let long : c.len.result ≡ length heads = search rules in (
      field,
      keyed_at field heads c.self.inside.keys.items c.place-place.result c.index-head.result.now c.index.result.now c.self.invariant.2 (omega (arith, c.if-place-len.false, long)) c.index-head.ensures c.index.ensures,
      subst (λ (q : Queued). KeysTerm q.field c.args.key c.args.term.now) (sym c.self.view_is) c.requires,
    )

pub returns-then-has_term-clause-some : goal.returns-then-has_term-clause-some
returns-then-has_term-clause-some c =
    let heads = c.self.inside.heads.items in
    let q = c.self.inside in
    let w = c.index-head.result.now in
    let long : c.len.result ≡ length heads = search rules in
    let place : c.place-place.result ≡ q.place = c.place-place.ensures ∙ ap (λ (q : Queued). q.place) (sym c.self.view_is) in (
      subst (λ (q : Queued). IsFirst q w) c.self.view_is
          (is_first heads q.losers.items q.place w q.field.now c.self.invariant.0 (omega (arith, c.if-place-len.false, long, place)) (c.index-head.ensures ∙ ap (λ (k : ℕ). get_or heads k w) place)),
      c.has_term.ensures.same c.if-has_term.true,
    )

pub returns-else-has_term-clause-none : goal.returns-else-has_term-clause-none
returns-else-has_term-clause-none c =
    let heads = c.self.inside.heads.items in
    let q = c.self.inside in
    let w = c.index-head.result.now in
    let long : c.len.result ≡ length heads = search rules in
    let place : c.place-place.result ≡ q.place = c.place-place.ensures ∙ ap (λ (q : Queued). q.place) (sym c.self.view_is) in
    inr (
      w,
      subst (λ (q : Queued). IsFirst q w) c.self.view_is
          (is_first heads q.losers.items q.place w q.field.now c.self.invariant.0 (omega (arith, c.if-place-len.false, long, place)) (c.index-head.ensures ∙ ap (λ (k : ℕ). get_or heads k w) place)),
      c.has_term.ensures.other c.if-has_term.false,
    )
