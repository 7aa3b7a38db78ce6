use Rattle.std.proofs.Common.{ap}
use Rattle.std.proofs.lemmas.List.Sorted.{answers_always}
use Rattle.std.proofs.lemmas.List.MinMax.{ranks_by}
use Rattle.std.specs.Ordering.{is_lt}
use Rattle.ix_base.specs.Inversion.{term_cmp}
use Rattle.ix_base.specs.declared.postings.TermPostings.{TermPostings}
use Rattle.ix_base.proofs.TermOrder.{term_total}
use Rattle.ram_postings.proofs.FrozenTerms.{sorted_terms, posted_sorted}
use Rattle.ram_postings.proofs.freezing.sort_terms.Goals as goal

pub returns-clause-ordered : goal.returns-clause-ordered
returns-clause-ordered c =
    let up = c.sort_unstable_by.ensures.sorted (λ a b. is_lt (term_cmp a.term b.term)) (ranks_by term_total (λ (e : TermPostings). e.term)) (answers_always _ _ _ (λ f a r g k. ap is_lt k.met)) in
    sorted_terms c.args.terms.now.items c.sort_unstable_by.new.self.items c.requires.apart c.requires.each c.sort_unstable_by.ensures.permutation up

pub returns-clause-same : goal.returns-clause-same
returns-clause-same c = posted_sorted c.args.terms.now.items c.sort_unstable_by.new.self.items c.sort_unstable_by.ensures.permutation
