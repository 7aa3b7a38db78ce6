use Rattle.std.proofs.Common.{◌<◌, ℕ, List, sym, subst, arith}
use Rattle.ix_base.specs.Inversion.{IsInversion}
use Rattle.ix_base.specs.declared.postings.TermPostings.{TermPostings}
use Rattle.ram_postings.specs.Kept.{born_marks, ArePlaces}
use Rattle.ram_postings.proofs.FrozenRows.{docs_of, marks_all, marks_rise, marks_few, numbers_rise, rows_inverted}
use Rattle.ram_postings.proofs.freezing.postings_of.Goals as goal

pub numbers_of-requires-clause-rise : goal.numbers_of-requires-clause-rise
numbers_of-requires-clause-rise c = marks_rise c.args.staged.now c.requires.documents.rise

pub numbers_of-requires-clause-below : goal.numbers_of-requires-clause-below
numbers_of-requires-clause-below c = marks_all (λ m. m < c.args.next_mark) c.args.staged.now c.requires.documents.below

pub numbers_of-requires-clause-few : goal.numbers_of-requires-clause-few
numbers_of-requires-clause-few c = omega (arith, marks_few c.args.staged.now, c.requires.few)

pub terms_of-requires : goal.terms_of-requires
terms_of-requires c =
    let marks : List ℕ = born_marks c.args.staged.now in
    numbers_rise marks c.as_slice.result.now (subst (ArePlaces marks) (sym c.as_slice.ensures.value) c.in_ok-numbers.ensures) (marks_rise c.args.staged.now c.requires.documents.rise)

pub returns : goal.returns
returns c =
    let marks : List ℕ = born_marks c.args.staged.now in
    subst (λ (made : List TermPostings). IsInversion (docs_of c.args.staged.now) (record { terms = made })) (sym c.from_vec.ensures)
    (rows_inverted c.args.staged.now c.args.next_mark c.args.lists.now.entries c.as_slice.result.now c.in_ok-terms.terms.items c.requires
    (subst (ArePlaces marks) (sym c.as_slice.ensures.value) c.in_ok-numbers.ensures) c.in_ok-terms.ensures.ordered c.in_ok-terms.ensures.others c.in_ok-terms.ensures.ok)
