use Rattle.analysis.proofs.FieldsInOrder.{next_below}
use Rattle.analysis.proofs.field_lists.add_fields.Goals as goal

pub add_field-requires : goal.add_field-requires
add_field-requires c =
    next_below c.args.row c.args.cut c.args.pairs.now c.loop-name.name-index c.loop-name-item.result c.args.fields.now.entries c.loop-name.fields.entries
    c.loop-name-test.true c.loop-name-item.is c.requires.rise c.requires.below c.loop-name.invariant
