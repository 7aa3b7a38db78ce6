use Rattle.std.proofs.Common.{List, subst, sym}
use Rattle.merge_postings.specs.Steps.{Walked}
use Rattle.merge_postings.specs.Tree.{IsFirst}
use Rattle.merge_postings.specs.Walk.{Waiting}
use Rattle.merge_postings.proofs.Fronts.{front_then}
use Rattle.merge_postings.proofs.Walking.{walk}
use Rattle.merge_postings.proofs.merged.walk_all.Goals as goal

pub returns-in_default-clause-ok : goal.returns-in_default-clause-ok
returns-in_default-clause-ok c sources was =
    subst (λ (queue : List Waiting). Walked sources queue c.terms.terms.items) c.in_default.ensures.none (c.terms.invariant.walked sources was)

pub terms-preserved : goal.terms-preserved
terms-preserved c = record {
  walked = λ sources was.
      walk sources c.terms.queue c.put_term.new.queue.waiting c.same-head.result c.terms.terms.items c.put_term.new.terms.items
      (subst (IsFirst c.terms.queue) (sym c.same-head.ensures) c.in-Some.ensures.some) (c.terms.invariant.walked sources was) c.in_ok-put_term.ensures.ok;
  front = front_then c.args.terms.now.items c.terms.terms.items c.put_term.new.terms.items c.terms.invariant.front c.put_term.ensures.front;
}
