use Rattle.std.proofs.Common.{◌≡◌, ◌∙◌, List, length, sym, ap, subst, arith, rules}
use Rattle.std.specs.Prelude.{Option, Some}
use Rattle.std.proofs.lemmas.List.{length-map}
use Rattle.door_pool.specs.declared.view.DoorSeen.{DoorSeen}
use Rattle.door_pool.specs.Passes.{ArePassesAt, AreFresh}
use Rattle.door_pool.specs.Views.{taken_at}
use Rattle.door_pool.proofs.Moving.{doors_first}
use Rattle.door_pool.proofs.Beginning.{fresh_in_slots, none_taken, known}
use Rattle.door_pool.proofs.doors.Doors.make.Goals as goal

pub new_table-requires-clause-fresh : goal.new_table-requires-clause-fresh
new_table-requires-clause-fresh g c =
    subst (λ (slots : List (Option g.row.H.Denot)). AreFresh g.H.Held.told slots) (sym c.wrap-slots.ensures)
    (fresh_in_slots g.H.Held.told c.args.hands.items c.requires.fresh)

pub split_all-seat-requires-clause-count : goal.split_all-seat-requires-clause-count
split_all-seat-requires-clause-count g c =
    let many : c.len-count.result ≡ length c.args.hands.items = search rules in (
      ap (λ m. length m.0.doors) c.in-Ok-new_table.ensures.seat ∙ doors_first g.H.Held.deed g.H.Held.told c.wrap-slots.result.items
          ∙ ap length c.wrap-slots.ensures ∙ length-map c.args.hands.items (λ h. Some h) ∙ sym many,
      (let few = c.requires.few in omega (arith, many, few)),
    )

pub returns-in-Ok-new_table-clause-doors : goal.returns-in-Ok-new_table-clause-doors
returns-in-Ok-new_table-clause-doors g c =
    known g.H.Held.deed _ _ _ c.args.hands.items c.split_all-seat.ensures.doors (ap (λ m. m.0.doors) c.in-Ok-new_table.ensures.seat) c.wrap-slots.ensures

pub returns-in-Ok-new_table-clause-free : goal.returns-in-Ok-new_table-clause-free
returns-in-Ok-new_table-clause-free g c door =
    ap (λ (ds : List (DoorSeen g.row.H-Deed.Denot)). taken_at ds door)
    (known g.H.Held.deed _ _ _ c.args.hands.items c.split_all-seat.ensures.doors (ap (λ m. m.0.doors) c.in-Ok-new_table.ensures.seat) c.wrap-slots.ensures)
    ∙ none_taken g.H.Held.deed c.args.hands.items door

pub returns-in-Ok-new_table-clause-passes : goal.returns-in-Ok-new_table-clause-passes
returns-in-Ok-new_table-clause-passes g c =
    subst (λ (ds : List (DoorSeen g.row.H-Deed.Denot)). ArePassesAt c.in-Ok-new_table.table.shared.table_id ds c.split_all-seat.result.1.items)
    (sym c.split_all-seat.ensures.doors) c.split_all-seat.ensures.passes
