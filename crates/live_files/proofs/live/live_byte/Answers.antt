use Rattle.std.proofs.Common.{◌≡◌, ◌+◌, ◌-◌, ◌≤◌, ℕ, take, drop, ap, ◌∙◌, arith}
use Rattle.std.specs.Int.{from_bool}
use Rattle.live_files.specs.LiveSpelling.{bit_value, live_bits}
use Rattle.live_files.proofs.LiveWrite.{one_row, from_small, seven_below, rows_of_byte}
use Rattle.live_files.proofs.live.live_byte.Goals as goal

pub overflow_mul-byte : goal.overflow_mul-byte
overflow_mul-byte c =
    let few : c.args.first + c.min.result - c.loop-row.row ≤ 7 = omega (arith, c.min.ensures) in
    let below = seven_below (c.args.first + c.min.result - c.loop-row.row) (drop c.loop-row.row (live_bits c.args.live.now.marks)) few in
    omega (arith, below, c.loop-row.invariant.byte)

pub overflow_add-byte : goal.overflow_add-byte
overflow_add-byte c =
    let few : c.args.first + c.min.result - c.loop-row.row ≤ 7 = omega (arith, c.min.ensures) in
    let below = seven_below (c.args.first + c.min.result - c.loop-row.row) (drop c.loop-row.row (live_bits c.args.live.now.marks)) few in
    omega (arith, below, c.loop-row.invariant.byte, c.from.ensures, from_small c.is_live.result)

pub loop-row-preserved : goal.loop-row-preserved
loop-row-preserved c =
    let follows : c.loop-row.row ≡ c.loop-row.row - 1 + 1 = omega arith in
    record {
      last = c.loop-row.invariant.last;
      from = omega arith;
      up_to = omega arith;
      byte = one_row c.args.live.now.marks (c.args.first + c.min.result) c.loop-row.row (c.loop-row.row - 1) c.loop-row.byte c.from.result follows c.loop-row.invariant.up_to (omega (arith, c.min.ensures)) c.loop-row.invariant.byte
          (c.from.ensures ∙ ap from_bool c.is_live.ensures);
    }

pub returns : goal.returns
returns c =
    let end : c.loop-row.row ≡ c.args.first = omega arith in
    c.loop-row.invariant.byte
    ∙ ap (λ (i : ℕ). bit_value (take (c.args.first + c.min.result - i) (drop i (live_bits c.args.live.now.marks)))) end
    ∙ rows_of_byte c.args.live.now.marks c.args.rows c.args.first (c.args.first + c.min.result) c.requires.rows c.requires.first c.loop-row.invariant.last
