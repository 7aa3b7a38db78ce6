use Rattle.std.proofs.Common.{ap, ◌∙◌}
use Rattle.std.specs.Prelude.{Some}
use Rattle.door_pool.proofs.Facts.{entered, opened}
use Rattle.door_pool.proofs.doors.Doors.enter.Goals as goal

pub exchange-requires : goal.exchange-requires
exchange-requires g c =
    let p = c.requires.pass.seat in
    let try = c.try_enter-found in
    let e = entered g.H.Held.deed g.H.Held.told c.args.pass.now.seat.me try.result try.new.pass.seat.me try.ensures.tried c.if-found-eq0.true in (
      try.ensures.table ∙ p.table,
      (Some e.0, opened try.new.pass.seat.me.1 _ c.args.pass.now.door (Some e.0) _ (ap (λ m. m.1) e.3) p.door),
    )
