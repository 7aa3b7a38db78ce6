use Rattle.std.proofs.Common.{◌≡◌, ◌∙◌, ◌+◌, ◌*◌, ℕ, List, refl, arith}
use Rattle.merge_postings.specs.Keys.{key}
use Rattle.merge_postings.proofs.KeyOrder.{beyond, key_eight, key_seven}
use Rattle.merge_postings.proofs.key.first_eight.Goals as goal

pub returns-in-len8-up : goal.returns-in-len8-up
returns-in-len8-up c =
    let bytes : List ℕ = c.args.bytes.now in
    let seven : c.seven_of.result ≡ key 7 bytes = c.seven_of.ensures.value ∙ key_seven _ bytes refl refl refl refl refl refl refl in
    key_eight bytes c.seven_of.result c.from.result seven c.from.ensures

pub returns-in_default : goal.returns-in_default
returns-in_default c =
    let bytes : List ℕ = c.args.bytes.now in
    let sum : c.first_seven.result * 256 + 0 ≡ key 8 bytes = key_eight bytes c.first_seven.result 0 c.first_seven.ensures.value (beyond bytes 7 (omega (arith, c.in_default.len_below))) in
    omega (arith, sum)
