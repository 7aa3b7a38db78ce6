use Rattle.std.proofs.Common.{◌∙◌, ℕ, List, sym, subst, arith}
use Rattle.std.specs.List.{slice_get, filter_map}
use Rattle.segment_core.specs.LiveRows.{Lived}
use Rattle.merge_core.specs.Choosing.{AreBirths}
use Rattle.merge_core.proofs.Finding.{chosen_length, row_at_source}
use Rattle.merge_core.proofs.NextBirths.{births_taken}
use Rattle.merge_core.proofs.Taking.{can_take, taken, all_read}
use Rattle.merge_core.proofs.order.Order.take_next.Goals as goal

pub source_at-requires-clause-source : goal.source_at-requires-clause-source
source_at-requires-clause-source c =
    let ss : List Lived = filter_map (slice_get c.args.segments.now) c.args.places.now in
    let are = subst (AreBirths ss c.args.self.now.next.items) (sym c.as_slice.ensures.value) c.requires.births in
    omega (arith, (c.in-Some.ensures ss c.args.self.now.next.items are).0, chosen_length c.args.segments.now c.args.places.now c.requires.places)

pub take_row-requires-clause-take : goal.take_row-requires-clause-take
take_row-requires-clause-take c =
    let ss : List Lived = filter_map (slice_get c.args.segments.now) c.args.places.now in
    let are = subst (AreBirths ss c.args.self.now.next.items) (sym c.as_slice.ensures.value) c.requires.births in
    can_take c.args.self.now ss c.requires.seen.0 c.in-Some.source c.source_at.result.now c.requires.seen.1
    (c.in-Some.ensures ss c.args.self.now.next.items are).1 c.source_at.ensures

pub take_row-requires-clause-births : goal.take_row-requires-clause-births
take_row-requires-clause-births c = c.requires.births.count ∙ sym c.requires.seen.1.found.count

pub returns-in-None-clause-one : goal.returns-in-None-clause-one
returns-in-None-clause-one c count seen =
    let ss : List Lived = filter_map (slice_get c.args.segments.now) c.args.places.now in
    let are = subst (AreBirths ss c.args.self.now.next.items) (sym c.as_slice.ensures.value) c.requires.births in
    (seen, all_read c.args.self.now ss count seen (c.in-None.ensures ss c.args.self.now.next.items are))

pub returns-in_ok-take_row-in-Some-clause-one : goal.returns-in_ok-take_row-in-Some-clause-one
returns-in_ok-take_row-in-Some-clause-one c count seen =
    let ss : List Lived = filter_map (slice_get c.args.segments.now) c.args.places.now in
    let are = subst (AreBirths ss c.args.self.now.next.items) (sym c.as_slice.ensures.value) c.requires.births in
    taken c.args.self.now c.take_row.new.self ss count c.in-Some.source c.source_at.result.now seen
    (c.in-Some.ensures ss c.args.self.now.next.items are).1 c.source_at.ensures c.in_ok-take_row-in-Some.ensures.takes

pub returns-in_ok-take_row-in-Some-clause-births : goal.returns-in_ok-take_row-in-Some-clause-births
returns-in_ok-take_row-in-Some-clause-births c =
    let ss : List Lived = filter_map (slice_get c.args.segments.now) c.args.places.now in
    let k : ℕ = c.in-Some.source in
    let s : Lived = c.source_at.result.now in
    let are = subst (AreBirths ss c.args.self.now.next.items) (sym c.as_slice.ensures.value) c.requires.births in
    let first = c.in-Some.ensures ss c.args.self.now.next.items are in
    let takes = c.in_ok-take_row-in-Some.ensures.takes first.1.row (sym (row_at_source ss k _ s c.source_at.ensures) ∙ first.1.is) in
    births_taken ss c.args.self.now.next.items c.take_row.new.self.next.items c.args.self.now.births.items c.take_row.new.self.births.items k _ s c.requires.births
    c.requires.seen.1.found.count first.0 c.source_at.ensures takes.next c.in_ok-take_row-in-Some.ensures.births
