use Rattle.std.proofs.Common.{◌≡◌, ◌∙◌, ◌<◌, ℕ, List, length, get_or, ap, rules, subst, sym, arith}
use Rattle.std.specs.Cmp.Lexicographic.{slice_cmp}
use Rattle.std.specs.Ordering.{nat_cmp}
use Rattle.std.specs.declared.cmp.Ordering.TheVariants.{Less}
use Rattle.ix_base.specs.declared.document.Term.{Term}
use Rattle.merge_postings.specs.Tree.{Queued}
use Rattle.merge_postings.specs.Walk.{Waiting}
use Rattle.merge_postings.proofs.FirstOfAll.{fields_from}
use Rattle.merge_postings.proofs.queue.Queue.settle.Goals as goal

pub keys_beside-requires-clause-from : goal.keys_beside-requires-clause-from
keys_beside-requires-clause-from c =
    let q = c.self.inside in
    let heads = c.self.inside.heads.items in
    let w = c.index-then-is_highest.result.now in
    let long : c.len.result ≡ length heads = search rules in
    let place : c.place-place.result ≡ q.place = c.place-place.ensures ∙ ap (λ (q : Queued). q.place) (sym c.self.view_is) in
    let same : c.as_slice.result.now ≡ heads = c.as_slice.ensures.value in
    let from = fields_from heads q.losers.items q.place w c.as_str-field.result.now c.self.invariant.0 (omega (arith, c.if-place-len.false, long, place))
    (c.index-then-is_highest.ensures ∙ ap (λ (k : ℕ). get_or heads k w) place) (c.as_str-field.ensures.bytes ∙ ap (λ (t : Term). t.field) c.term.ensures) in
    subst (λ (hs : List Waiting). (k : ℕ) (d : Waiting) → k < length hs → slice_cmp nat_cmp (get_or hs k d).first.term.field c.as_str-field.result.now ≡ Less → ⊥) (sym same) from
