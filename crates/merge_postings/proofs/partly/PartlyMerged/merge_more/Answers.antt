use Rattle.std.proofs.Common.{◌≡◌, ◌∙◌, List, Some, refl, sym, subst}
use Rattle.merge_postings.specs.Renumbering.{Moving}
use Rattle.merge_postings.specs.Steps.{AreResumed, Walked, WalkedUpto}
use Rattle.merge_postings.proofs.Resuming.{walked_from, walked_upto}
use Rattle.merge_postings.proofs.partly.PartlyMerged.merge_more.Goals as goal

pub returns-in-Ok-clause-ok : goal.returns-in-Ok-clause-ok
returns-in-Ok-clause-ok c =
    let sources : List Moving = c.args.sources.items in
    let resumed = subst (λ (ss : List Moving). AreResumed c.args.self.now.upto ss c.in_ok-queue.queue.waiting) c.as_slice.ensures.value c.in_ok-queue.ensures in
    let taken : c.args.self.now.terms ≡ c.into_vec-terms.result.items = sym (c.into_vec-terms.ensures ∙ c.replace.ensures.value) in
    let from : Walked sources c.in_ok-queue.queue.waiting c.args.self.now.terms = walked_from sources c.args.self.now c.in_ok-queue.queue.waiting c.requires.upto resumed in
    let first = subst (Walked sources c.in_ok-queue.queue.waiting) taken from in
    let upto = c.in-Ok.ensures.ok sources first in
    walked_upto sources c.in-Ok.upto c.walk_on.new.queue.waiting (record { terms = c.from_vec.result; upto = Some c.in-Ok.upto; passed = c.passed.new.counts })
    (subst (WalkedUpto sources c.in-Ok.upto c.walk_on.new.queue.waiting) (sym c.from_vec.ensures) upto) refl
