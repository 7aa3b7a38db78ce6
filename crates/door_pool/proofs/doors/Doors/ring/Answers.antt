use Rattle.std.proofs.Common.{arith, ℕ}
use Rattle.door_pool.proofs.Moving.{keeps_doors}
use Rattle.door_pool.proofs.doors.Doors.ring.Goals as goal

pub store-requires : goal.store-requires
store-requires g c =
    let p = c.requires.pass.seat in
    (p.table, (let words = p.words in omega (arith, words)), keeps_doors g.H.Held.deed g.H.Held.told _ _ _ _ (λ (x : ℕ). 1) _ (omega arith))
