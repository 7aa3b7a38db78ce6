use Rattle.std.proofs.Common.{rules, ◌≡◌, sym, arith, get_or}
use Rattle.std.specs.declared.cmp.Ordering.TheVariants.{Less, Equal, Greater}
use Rattle.ix_base.specs.Inversion.{term_cmp}
use Rattle.query_core.proofs.Windows.{after_less, before_greater, at_equal}
use Rattle.query_core.proofs.finding.window.Goals as goal

pub loop-at-preserved : goal.loop-at-preserved
loop-at-preserved c =
    let entries = c.args.entries.now in
    let term = c.args.term.now in
    let at = c.loop-at.at in
    let less : term_cmp (get_or entries at c.index-entries-at.result).term term ≡ Less = sym c.in-Less.ensures in
    record {
      start = omega arith;
      low = search rules;
      within = omega arith;
      stands = λ lawful. after_less entries lawful term at c.index-entries-at.result c.loop-at-test.true less;
    }

pub returns-in-Equal-clause-stands : goal.returns-in-Equal-clause-stands
returns-in-Equal-clause-stands c =
    let entries = c.args.entries.now in
    let term = c.args.term.now in
    let at = c.loop-at.at in
    let equal : term_cmp (get_or entries at c.index-entries-at.result).term term ≡ Equal = sym c.in-Equal.ensures in
    λ lawful. at_equal entries lawful term at c.index-entries-at.result c.loop-at-test.true equal

pub returns-in-Greater-clause-stands : goal.returns-in-Greater-clause-stands
returns-in-Greater-clause-stands c =
    let entries = c.args.entries.now in
    let term = c.args.term.now in
    let at = c.loop-at.at in
    let greater : term_cmp (get_or entries at c.index-entries-at.result).term term ≡ Greater = sym c.in-Greater.ensures in
    λ lawful k d lt is. (c.loop-at.invariant.stands lawful k d lt is, before_greater entries lawful term at c.index-entries-at.result c.loop-at-test.true greater k d lt is)
