use Rattle.merge_postings.proofs.FirstOfTwo.{equal_first, greater_first, least_of_two, less_first, order_by_keyed}
use Rattle.std.specs.declared.cmp.Ordering.TheVariants.{Less, Equal, Greater}
use Rattle.merge_postings.proofs.tree.first_of.Goals as goal

pub returns-in-Some-Less : goal.returns-in-Some-Less
returns-in-Some-Less c =
    less_first c.args.heads.now c.args.one c.args.other
    (order_by_keyed c.args.heads.now c.args.keys.now c.requires.keyed.0 c.args.one c.args.other _ _ c.order_by_keys.result c.requires.keyed.1 c.requires.one c.requires.other
    c.order_by_keys.ensures c.in-Some-Less.field-0 Less c.in-Some-Less.is c.in-Some-Less.field-0-is)

pub returns-in-Some-Equal : goal.returns-in-Some-Equal
returns-in-Some-Equal c =
    equal_first c.args.heads.now c.args.one c.args.other c.min.result
    (order_by_keyed c.args.heads.now c.args.keys.now c.requires.keyed.0 c.args.one c.args.other _ _ c.order_by_keys.result c.requires.keyed.1 c.requires.one c.requires.other
    c.order_by_keys.ensures c.in-Some-Equal.field-0 Equal c.in-Some-Equal.is c.in-Some-Equal.field-0-is)
    (least_of_two c.args.one c.args.other c.min.result c.min.ensures)

pub returns-in-Some-Greater : goal.returns-in-Some-Greater
returns-in-Some-Greater c =
    greater_first c.args.heads.now c.args.one c.args.other
    (order_by_keyed c.args.heads.now c.args.keys.now c.requires.keyed.0 c.args.one c.args.other _ _ c.order_by_keys.result c.requires.keyed.1 c.requires.one c.requires.other
    c.order_by_keys.ensures c.in-Some-Greater.field-0 Greater c.in-Some-Greater.is c.in-Some-Greater.field-0-is)
