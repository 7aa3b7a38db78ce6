use Rattle.std.proofs.Common.{◌≡◌, ℕ, ◌+◌, ◌-◌, ◌≤◌, true, get_or, refl, sym, subst, ◌∙◌, arith, is_lt}
use Rattle.std.specs.declared.cmp.Ordering.{Ordering}
use Rattle.std.specs.declared.cmp.Ordering.TheVariants.{Less, Equal, Greater}
use Rattle.ix_base.specs.Inversion.{term_cmp}
use Rattle.query_core.specs.Finding.{StandsNotBefore}
use Rattle.query_core.proofs.Windows.{after_less}
use Rattle.query_core.proofs.finding.is_behind.Goals as goal

only_less : (o : Ordering) → is_lt o ≡ true → o ≡ Less
only_less Less h = refl
only_less Equal h = cc
only_less Greater h = cc

pub returns-in-Some-clause-behind : goal.returns-in-Some-clause-behind
returns-in-Some-clause-behind c lt lawful =
    let entries = c.args.entries.now in
    let term = c.args.term.now in
    let last = c.in-Some.last in
    let less : term_cmp (get_or entries last c.index-entries-last.result).term term ≡ Less = sym c.compare_terms.ensures ∙ only_less c.compare_terms.result (sym c.is_lt.ensures ∙ lt) in
    let above : 1 ≤ c.args.place = c.in-Some.ensures.0 in
    let is : last ≡ c.args.place - 1 = c.in-Some.ensures.1 in
    let place : last + 1 ≡ c.args.place = omega arith in
    subst (λ (i : ℕ). StandsNotBefore entries term i) place (after_less entries lawful term last c.index-entries-last.result c.if-last-entries.true less)
