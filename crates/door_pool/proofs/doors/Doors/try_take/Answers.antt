use Rattle.std.proofs.Common.{arith, refl}
use Rattle.door_pool.proofs.Moving.{tries_to_take}
use Rattle.door_pool.proofs.doors.Doors.try_take.Goals as goal

pub overflow_add-door : goal.overflow_add-door
overflow_add-door g c = let few = c.requires.keeper.few in let door = c.requires.door in omega (arith, few, door)

pub compare_exchange-requires : goal.compare_exchange-requires
compare_exchange-requires g c =
    let k = c.requires.keeper in (
      k.table,
      (let words = k.words in let door = c.requires.door in omega (arith, words, door)),
      tries_to_take g.H.Held.deed g.H.Held.told _ _ _ _ _ _ k.is_keeper k.no_pass c.requires.door c.requires.free refl,
    )
