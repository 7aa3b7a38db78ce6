use Rattle.std.proofs.Common.{arith, refl}
use Rattle.std.specs.Prelude.{Some}
use Rattle.door_pool.proofs.Facts.{opened}
use Rattle.door_pool.proofs.Moving.{leaves}
use Rattle.door_pool.proofs.doors.Doors.go_out.Goals as goal

pub overflow_add-word : goal.overflow_add-word
overflow_add-word g c = let few = c.requires.laden.seat.few in omega (arith, few)

pub store-requires : goal.store-requires
store-requires g c =
    let laden = c.requires.laden in
    let p = laden.seat in (
      p.table,
      p.words,
      leaves g.H.Held.deed g.H.Held.told _ _ _ c.args.pass.now.seat.me c.args.pass.now.door c.args.laid.now.value p.is_pass p.no_keeper
          laden.inside p.door (opened c.args.pass.now.seat.me.1 _ c.args.pass.now.door (Some c.args.laid.now.value) _ laden.slot refl) laden.deed,
    )
