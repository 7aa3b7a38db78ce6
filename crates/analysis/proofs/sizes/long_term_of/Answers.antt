use Rattle.std.proofs.Common.{◌≡◌, List, false, length, nat_lt, sym, ap, ◌∙◌}
use Rattle.std.specs.List.{list_any}
use Rattle.ix_base.specs.declared.postings.TermPostings.{TermPostings}
use Rattle.analysis.proofs.PostedTerms.{none_long}
use Rattle.analysis.proofs.sizes.long_term_of.Goals as goal

pub returns-then-not-has_long_term : goal.returns-then-not-has_long_term
returns-then-not-has_long_term c =
    let none : c.has_long_term.result ≡ false = c.if-not-has_long_term.true in
    sym (none_long c.args.doc.now c.args.postings.now c.requires
    (ap (λ (l : List TermPostings). list_any (λ entry. nat_lt 32766 (length entry.term.bytes)) l) (sym c.as_slice.ensures) ∙ sym c.has_long_term.ensures ∙ none))
