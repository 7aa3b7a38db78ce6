use Rattle.std.proofs.Common.{◌∙◌, ◌<◌, ℕ, length, subst, arith}
use Rattle.ix_base.specs.declared.postings.TermPostings.{TermPostings}
use Rattle.merge_postings.specs.Walk.{IsBelow}
use Rattle.merge_postings.proofs.Resuming.{middle_above, middle_reached}
use Rattle.merge_postings.proofs.source.start_beyond.Goals as goal

pub halves-preserved-in-Less : goal.halves-preserved-in-Less
halves-preserved-in-Less c =
    let middle : ℕ = c.look_at-middle.result in
    let d : TermPostings = c.index-terms-middle.result in
    let lt : middle < length c.args.terms.now = omega (arith, c.look_at-middle.ensures.before, c.halves.invariant.within) in
    let less : IsBelow c.args.upto.now d.term = cc in
    record {
      order = c.look_at-middle.ensures.from;
      within = omega (arith, c.look_at-middle.ensures.before, c.halves.invariant.within);
      reached = c.halves.invariant.reached;
      beyond = middle_above c.args.upto.now c.args.terms.now middle d c.requires lt (subst (λ (e : TermPostings). IsBelow c.args.upto.now e.term) c.index-terms-middle.is less);
    }

pub halves-preserved : goal.halves-preserved
halves-preserved c =
    let middle : ℕ = c.look_at-middle.result in
    let d : TermPostings = c.index-terms-middle.result in
    let lt : middle < length c.args.terms.now = omega (arith, c.look_at-middle.ensures.before, c.halves.invariant.within) in
    record {
      order = omega (arith, c.look_at-middle.ensures.before);
      within = c.halves.invariant.within;
      reached = middle_reached c.args.upto.now c.args.terms.now middle d c.requires lt
          (λ l. c.in_default.not-Less (c.compare_terms.ensures ∙ l));
      beyond = c.halves.invariant.beyond;
    }
