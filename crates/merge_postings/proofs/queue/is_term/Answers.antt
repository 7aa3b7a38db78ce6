use Rattle.std.proofs.Common.{◌∙◌, ap, refl, sym}
use Rattle.ix_base.specs.Inversion.{term_cmp}
use Rattle.ix_base.proofs.TermOrder.{term_same}
use Rattle.merge_postings.proofs.Queued.{equal_itself}
use Rattle.merge_postings.proofs.queue.is_term.Goals as goal

pub returns-in-Equal : goal.returns-in-Equal
returns-in-Equal c = (λ _. term_same c.args.one.now c.args.other.now (sym c.compare_terms.ensures ∙ c.in-Equal.is), λ _. refl)

pub returns-in_default : goal.returns-in_default
returns-in_default c = (
  λ f. absurd (cc),
  λ e. absurd (c.in_default.not-Equal (c.compare_terms.ensures ∙ ap (term_cmp c.args.one.now) (sym e) ∙ equal_itself c.args.one.now)),
)
