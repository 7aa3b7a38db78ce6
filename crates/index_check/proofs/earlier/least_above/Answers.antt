use Rattle.std.proofs.Common.{◌≡◌, inl, inr, ◌+◌, ◌-◌, length, Some, sym, arith}
use Rattle.std.specs.List.{slice_get}
use Rattle.std.proofs.lemmas.Bool.{cases_lt}
use Rattle.index_check.proofs.LastId.{last_below, least_of}
use Rattle.index_check.proofs.earlier.least_above.Goals as goal

pub overflow_add-last : goal.overflow_add-last
overflow_add-last c =
    let es = c.args.entries.now in
    let is : slice_get es (length es - 1) ≡ Some c.in-Some.last.now = sym c.in-Some.ensures.value in
    let below = last_below c.requires.0 es (length es - 1) c.in-Some.last.now c.requires.2 is in
    omega (arith, below, c.requires.1)

pub returns-in-Some : goal.returns-in-Some
returns-in-Some c =
    let es = c.args.entries.now in
    let last = c.in-Some.last.now in
    let is : slice_get es (length es - 1) ≡ Some last = sym c.in-Some.ensures.value in
    least_of c.args.low c.requires.0 c.max.result es last c.requires.2 is (elim (cases_lt c.args.low (last.id + 1)) [
      | inl lt ↦ inl (omega arith, omega (arith, c.max.ensures, lt))
      | inr ge ↦ inr (ge, omega (arith, c.max.ensures, ge))
    ])
