use Rattle.std.proofs.Common.{◌≡◌, ◌∙◌, true, ap, sym, arith}
use Rattle.std.proofs.lemmas.Slice.Eq.{bytes_eq-Decides}
use Rattle.ix_base.specs.declared.postings.TermPostings.{TermPostings}
use Rattle.merge_postings.proofs.Alike.{alike_upto, none_alike}
use Rattle.merge_postings.proofs.head.reaches.Goals as goal

pub returns-clause-alike : goal.returns-clause-alike
returns-clause-alike c is =
    let same : c.as_str.result.now ≡ c.as_str-2.result.now = (bytes_eq-Decides c.as_str.result.now c.as_str-2.result.now).0 (sym c.eq.ensures ∙ is) in
    alike_upto c.args.first.now c.args.rest.now c.args.count c.index-rest-last.result c.requires (omega (arith, c.if-count-eq0.false)) (omega (arith, c.if-rest-count.false))
    c.index-rest-last.is (ap (λ (e : TermPostings). e.term.field) c.index-rest-last.is ∙ sym c.as_str.ensures.bytes ∙ same ∙ c.as_str-2.ensures.bytes)

pub returns-clause-none : goal.returns-clause-none
returns-clause-none c differs one e at same =
    let other : c.as_str.result.now ≡ c.as_str-2.result.now → ⊥ = λ f.
    let is : c.eq.result ≡ true = c.eq.ensures ∙ (bytes_eq-Decides c.as_str.result.now c.as_str-2.result.now).1 f in absurd (cc) in
    none_alike c.args.first.now c.args.rest.now c.args.count c.index-rest-last.result e one c.index-rest-last.is at same (λ f. other (c.as_str.ensures.bytes ∙ sym (ap (λ (p : TermPostings). p.term.field) c.index-rest-last.is) ∙ f ∙ sym c.as_str-2.ensures.bytes))
