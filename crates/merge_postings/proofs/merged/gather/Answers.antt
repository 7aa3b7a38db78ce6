use Rattle.std.proofs.Common.{◌≡◌, ◌∙◌, List, ℕ, inl, inr, ap, refl, subst, sym}
use Rattle.merge_postings.specs.Keys.{KeysTerm}
use Rattle.merge_postings.specs.Parts.{any_part}
use Rattle.merge_postings.specs.Tree.{IsFirst, Queued}
use Rattle.merge_postings.specs.Walk.{IsBelow, IsPassed, Waiting}
use Rattle.merge_postings.proofs.Listing.{none_listed, part_listed}
use Rattle.merge_postings.proofs.Taking.{first_taken, less_left, more_taken, none_left, other_left}
use Rattle.merge_postings.proofs.FirstOfAll.{first_among, still_first}
use Rattle.merge_postings.proofs.merged.gather.Goals as goal

pub heads-init : goal.heads-init
heads-init c =
    let w : Waiting = c.args.first.now in
    let first : IsFirst c.settle.new.self w = still_first c.args.queue.now c.settle.new.self w c.settle.new.self.field c.settle.ensures c.requires in
    let waits : c.settle.new.self.waiting ≡ c.args.queue.now.waiting = ap (λ (q : Queued). q.waiting) c.settle.ensures in
    record {
      taken = first_taken w.first.term c.args.queue.now.waiting c.pass.new.self.waiting w (any_part c.clear.new.self.items) (any_part c.push.new.self.items)
          c.requires.from (none_listed c.clear.new.self.items c.clear.ensures.items) refl
          (part_listed w c.part.result c.clear.new.self.items c.push.new.self.items c.part.ensures c.in_ok-push.ensures.items)
          (subst (λ (ws : List Waiting). IsPassed w ws c.pass.new.self.waiting) waits (c.pass.ensures.passed w first));
      key = subst (λ (f : List ℕ). KeysTerm f c.first_key-key.result w.first.term) (sym c.pass.ensures.field) (c.first_key-key.ensures w first);
    }

pub returns-in_default : goal.returns-in_default
returns-in_default c =
    let u = c.args.first.now.first.term in
    let taken = c.heads.invariant.taken in
    elim c.in_default.ensures.none [
      | inl e ↦ none_left u c.args.queue.now.waiting c.heads.queue.waiting (any_part c.heads.parts.items) taken e
      | inr p ↦
          other_left u c.args.queue.now.waiting c.heads.queue.waiting p.0 (any_part c.heads.parts.items) taken p.1.from
          (first_among (λ (w : Waiting). IsBelow w.first.term u → ⊥) c.heads.queue p.0 p.1 taken.from)
          (λ e. p.2 (e ∙ sym c.term.ensures))
    ]

pub heads-smaller : goal.heads-smaller
heads-smaller c =
    less_left c.in-Some.next.now c.heads.queue.waiting c.pass-in-heads.new.self.waiting (c.pass-in-heads.ensures.passed c.in-Some.next.now c.in-Some.ensures.some.0)

pub heads-preserved : goal.heads-preserved
heads-preserved c =
    let u = c.args.first.now.first.term in
    let next = c.in-Some.next.now in
    record {
      taken = more_taken u c.args.queue.now.waiting c.heads.queue.waiting c.pass-in-heads.new.self.waiting next (any_part c.heads.parts.items) (any_part c.push-in-heads.new.self.items)
          c.heads.invariant.taken (c.in-Some.ensures.some.1 ∙ c.term.ensures)
          (part_listed next c.part-in-heads.result c.heads.parts.items c.push-in-heads.new.self.items c.part-in-heads.ensures c.in_ok-push-2.ensures.items)
          (c.pass-in-heads.ensures.passed next c.in-Some.ensures.some.0);
      key = subst (λ (f : List ℕ). KeysTerm f c.first_key-key.result u) (sym c.pass-in-heads.ensures.field) c.heads.invariant.key;
    }
