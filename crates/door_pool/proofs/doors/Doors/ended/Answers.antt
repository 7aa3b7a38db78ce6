use Rattle.std.proofs.Common.{arith, ℕ}
use Rattle.door_pool.proofs.Moving.{keeps_doors}
use Rattle.door_pool.proofs.doors.Doors.ended.Goals as goal

pub load-requires : goal.load-requires
load-requires g c =
    let k = c.requires.keeper in
    (k.table, (let words = k.words in omega (arith, words)), keeps_doors g.H.Held.deed g.H.Held.told _ _ _ _ (λ (x : ℕ). x) _ (omega arith))
