use Rattle.std.proofs.Common.{ℕ, List, subst}
use Rattle.std.specs.Prelude.{IsPermutation}
use Rattle.ix_base.specs.declared.postings.Posting.{Posting}
use Rattle.ix_base.specs.declared.postings.TermPostings.{TermPostings}
use Rattle.analysis.specs.Kept.{AreTermsOf}
use Rattle.analysis.proofs.SortedTerms.{terms_sorted}
use Rattle.analysis.proofs.word_lists.WordLists.into_terms.Goals as goal

pub returns : goal.returns
returns c =
    let field = c.args.field.now in
    let old = c.self.inside.lists.entries in
    let sorted = c.sort_by_bytes.new.terms.items in
    let same = subst (λ (l : List TermPostings). IsPermutation l sorted) c.in_ok-terms.ensures.terms c.sort_by_bytes.ensures.same in
    subst (λ (l : List (List ℕ × List Posting)). AreTermsOf field l sorted) c.self.view_is
    (terms_sorted (λ k. k) field old sorted c.self.invariant c.in_ok-terms.ensures.apart same c.sort_by_bytes.ensures.sorted)
