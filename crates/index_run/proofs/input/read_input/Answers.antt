use Rattle.std.proofs.Common.{◌≤◌, ◌+◌, length, arith}
use Rattle.std.proofs.lemmas.Grind.{common_steps}
use Rattle.index_run.proofs.Inputs.{takes_kept, takes_more, consumes_none}
use Rattle.index_run.proofs.input.read_input.Goals as goal

pub returns-in_default-clause-bound : goal.returns-in_default-clause-bound
returns-in_default-clause-bound g c =
    takes_kept 67108865 _ _ _ c.loop-buffer.bytes.items c.loop-buffer.invariant.few c.loop-buffer.invariant.read c.in_default.ensures.bytes

pub returns-then-count-eq0-clause-bytes : goal.returns-then-count-eq0-clause-bytes
returns-then-count-eq0-clause-bytes g c =
    consumes_none _ _ _ c.loop-buffer.bytes.items _ c.in-Ok.count c.if-count-eq0.true c.loop-buffer.invariant.read c.in-Ok.ensures.bytes.0

pub returns-then-count-eq0-clause-bound : goal.returns-then-count-eq0-clause-bound
returns-then-count-eq0-clause-bound g c = record {
  taken = c.loop-buffer.bytes.items;
  few = c.loop-buffer.invariant.few;
  prefix = consumes_none _ _ _ c.loop-buffer.bytes.items _ c.in-Ok.count c.if-count-eq0.true c.loop-buffer.invariant.read c.in-Ok.ensures.bytes.0;
}

pub returns-in_err-extend_from_slice-clause-bound : goal.returns-in_err-extend_from_slice-clause-bound
returns-in_err-extend_from_slice-clause-bound g c =
    let few : length c.loop-buffer.bytes.items + c.in-Ok.count ≤ 67108865 = grind (arith, common_steps) in
    takes_more 67108865 c.in-Ok.count _ _ _ c.loop-buffer.bytes.items c.read.new.buffer few c.loop-buffer.invariant.read c.in-Ok.ensures.bytes.0
