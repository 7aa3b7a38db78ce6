use Rattle.std.proofs.Common.{◌∙◌, ◌<◌, List, get_or, length, arith}
use Rattle.std.specs.List.{filter_map, slice_get}
use Rattle.segment_core.specs.LiveRows.{Lived}
use Rattle.merge_core.specs.declared.origin.Origin.{Origin}
use Rattle.merge_core.proofs.Finding.{chosen_length}
use Rattle.merge_core.proofs.NumbersUpto.{all_upto, none_upto, one_upto, row_within}
use Rattle.merge_core.proofs.numbering.all_numbers.Goals as goal

pub loop-place-init : goal.loop-place-init
loop-place-init c = none_upto (filter_map (slice_get c.args.segments.now) c.args.places.now) c.args.origins.now c.in_ok-numbers.numbers.items c.in_ok-numbers.ensures

pub set_number-requires-clause-source : goal.set_number-requires-clause-source
set_number-requires-clause-source c =
    let d : Origin = record { source = 0; row = 0 } in
    let long = chosen_length c.args.segments.now c.args.places.now c.requires.places in
    omega (arith, c.loop-place.invariant.count, long, c.requires.sources c.loop-place.place d c.loop-place-test.true)

pub set_number-requires-clause-row : goal.set_number-requires-clause-row
set_number-requires-clause-row c =
    let d : Origin = record { source = 0; row = 0 } in
    let ss : List Lived = filter_map (slice_get c.args.segments.now) c.args.places.now in
    let long = chosen_length c.args.segments.now c.args.places.now c.requires.places in
    let within : (get_or c.args.origins.now c.loop-place.place d).source < length ss = omega (arith, long, c.requires.sources c.loop-place.place d c.loop-place-test.true) in
    row_within ss c.args.origins.now c.loop-place.place d c.loop-place.numbers.items c.loop-place.invariant c.requires.rows c.loop-place-test.true within

pub loop-place-preserved : goal.loop-place-preserved
loop-place-preserved c =
    let d : Origin = record { source = 0; row = 0 } in
    let ss : List Lived = filter_map (slice_get c.args.segments.now) c.args.places.now in
    let long = chosen_length c.args.segments.now c.args.places.now c.requires.places in
    let within : (get_or c.args.origins.now c.loop-place.place d).source < length ss = omega (arith, long, c.requires.sources c.loop-place.place d c.loop-place-test.true) in
    one_upto ss c.args.origins.now c.loop-place.place d c.loop-place.numbers.items c.set_number.new.numbers.items c.loop-place.invariant c.requires.apart c.requires.rows
    c.loop-place-test.true within c.set_number.ensures

pub returns-clause-count : goal.returns-clause-count
returns-clause-count c = c.loop-place.invariant.count ∙ chosen_length c.args.segments.now c.args.places.now c.requires.places

pub returns-clause-numbers : goal.returns-clause-numbers
returns-clause-numbers c =
    all_upto (filter_map (slice_get c.args.segments.now) c.args.places.now) c.args.origins.now c.loop-place.place c.loop-place.numbers.items c.loop-place.invariant
    (omega (arith, c.loop-place-test.false, c.loop-place.auto.place-end))
