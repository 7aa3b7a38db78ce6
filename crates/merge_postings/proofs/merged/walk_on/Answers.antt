use Rattle.std.proofs.Common.{◌∙◌, sym, subst}
use Rattle.ix_base.specs.declared.document.Term.{Term}
use Rattle.merge_postings.specs.Steps.{WalkedUpto}
use Rattle.merge_postings.specs.Tree.{IsFirst}
use Rattle.merge_postings.proofs.Fronts.{front_then}
use Rattle.merge_postings.proofs.Resuming.{walk_upto}
use Rattle.merge_postings.proofs.Walking.{walk}
use Rattle.merge_postings.proofs.merged.walk_on.Goals as goal

pub returns-then-passed-entries-clause-ok : goal.returns-then-passed-entries-clause-ok
returns-then-passed-entries-clause-ok c sources was =
    subst (λ (u : Term). WalkedUpto sources u c.put_term.new.queue.waiting c.put_term.new.terms.items) (sym (c.in_ok-upto.ensures ∙ c.term-term.ensures))
    (walk_upto sources c.terms.queue c.put_term.new.queue.waiting c.terms.head c.terms.terms.items c.put_term.new.terms.items c.terms.invariant.first (c.terms.invariant.walked sources was) c.in_ok-put_term.ensures.ok)

pub returns-in-None-clause-ok : goal.returns-in-None-clause-ok
returns-in-None-clause-ok c sources was =
    subst (λ (u : Term). WalkedUpto sources u c.put_term.new.queue.waiting c.put_term.new.terms.items) (sym (c.in_ok-upto-in-None.ensures ∙ c.term-term.ensures))
    (walk_upto sources c.terms.queue c.put_term.new.queue.waiting c.terms.head c.terms.terms.items c.put_term.new.terms.items c.terms.invariant.first (c.terms.invariant.walked sources was) c.in_ok-put_term.ensures.ok)

pub terms-preserved : goal.terms-preserved
terms-preserved c = record {
  first = subst (IsFirst c.put_term.new.queue) (sym c.same-head.ensures) c.in-Some.ensures.some;
  walked = λ sources was.
      walk sources c.terms.queue c.put_term.new.queue.waiting c.terms.head c.terms.terms.items c.put_term.new.terms.items c.terms.invariant.first (c.terms.invariant.walked sources was) c.in_ok-put_term.ensures.ok;
  front = front_then c.args.terms.now.items c.terms.terms.items c.put_term.new.terms.items c.terms.invariant.front c.put_term.ensures.front;
}
