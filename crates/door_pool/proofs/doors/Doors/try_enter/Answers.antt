use Rattle.std.proofs.Common.{arith}
use Rattle.door_pool.proofs.Moving.{enters}
use Rattle.door_pool.proofs.doors.Doors.try_enter.Goals as goal

pub overflow_add-word : goal.overflow_add-word
overflow_add-word g c = let few = c.requires.pass.seat.few in omega (arith, few)

pub compare_exchange-requires : goal.compare_exchange-requires
compare_exchange-requires g c =
    let p = c.requires.pass.seat in
    (p.table, p.words, enters g.H.Held.deed g.H.Held.told _ _ _ _ _ p.is_pass p.no_keeper c.requires.outside p.door)
