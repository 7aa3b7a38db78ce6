use Rattle.std.proofs.Common.{◌∙◌, sym}
use Rattle.std.specs.declared.cmp.Ordering.TheVariants.{Less, Equal, Greater}
use Rattle.merge_postings.proofs.FirstOfTwo.{equal_first, greater_first, least_of_two, less_first, order_by_texts}
use Rattle.merge_postings.proofs.tree.first_by_texts.Goals as goal

pub returns-in-Less : goal.returns-in-Less
returns-in-Less c =
    less_first c.args.heads.now c.args.one c.args.other
    (order_by_texts c.args.heads.now c.args.one c.args.other c.index-heads-one.result c.index-heads-other.result c.term.result.now c.term-2.result.now Less
    c.requires.one c.requires.other c.index-heads-one.is c.index-heads-other.is c.term.ensures c.term-2.ensures (sym c.in-Less.is ∙ c.compare_terms.ensures))

pub returns-in-Equal : goal.returns-in-Equal
returns-in-Equal c =
    equal_first c.args.heads.now c.args.one c.args.other c.min.result
    (order_by_texts c.args.heads.now c.args.one c.args.other c.index-heads-one.result c.index-heads-other.result c.term.result.now c.term-2.result.now Equal
    c.requires.one c.requires.other c.index-heads-one.is c.index-heads-other.is c.term.ensures c.term-2.ensures (sym c.in-Equal.is ∙ c.compare_terms.ensures))
    (least_of_two c.args.one c.args.other c.min.result c.min.ensures)

pub returns-in-Greater : goal.returns-in-Greater
returns-in-Greater c =
    greater_first c.args.heads.now c.args.one c.args.other
    (order_by_texts c.args.heads.now c.args.one c.args.other c.index-heads-one.result c.index-heads-other.result c.term.result.now c.term-2.result.now Greater
    c.requires.one c.requires.other c.index-heads-one.is c.index-heads-other.is c.term.ensures c.term-2.ensures (sym c.in-Greater.is ∙ c.compare_terms.ensures))
