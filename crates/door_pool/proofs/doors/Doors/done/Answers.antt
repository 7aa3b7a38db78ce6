use Rattle.std.proofs.Common.{arith, ℕ, ◌+◌, ◌%◌, ◌^◌}
use Rattle.door_pool.proofs.Moving.{keeps_doors}
use Rattle.door_pool.proofs.doors.Doors.done.Goals as goal

pub fetch_add-requires : goal.fetch_add-requires
fetch_add-requires g c =
    let p = c.requires.pass.seat in
    (p.table, (let words = p.words in omega (arith, words)), keeps_doors g.H.Held.deed g.H.Held.told _ _ _ _ (λ (x : ℕ). (x + 1) % 2 ^ 64) _ (omega arith))
