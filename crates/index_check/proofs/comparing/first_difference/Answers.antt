use Rattle.std.proofs.Common.{◌∙◌, refl, sym, arith}
use Rattle.index_check.proofs.Bytes.{same_before, same_bytes}
use Rattle.index_check.proofs.comparing.first_difference.Goals as goal

pub returns-then-byte-other : goal.returns-then-byte-other
returns-then-byte-other c = record {
  file_is = refl;
  before = same_before c.args.found.now c.args.wanted.now c.loop-at.at (λ k lt. omega (arith, c.type_inv.found k)) (λ k lt. omega (arith, c.type_inv.wanted k)) c.loop-at.invariant;
  differ = λ e. c.if-byte-other.true (c.byte_at-byte.ensures ∙ e ∙ sym c.byte_at-other.ensures);
  found_is = c.byte_at-byte.ensures;
  wanted_is = c.byte_at-other.ensures;
}

pub returns : goal.returns
returns c =
    same_bytes c.args.found.now c.args.wanted.now c.loop-at.at (λ k lt. omega (arith, c.type_inv.found k)) (λ k lt. omega (arith, c.type_inv.wanted k))
    (omega (arith, c.max-at-end.ensures, c.loop-at-test.false)) (omega (arith, c.max-at-end.ensures, c.loop-at-test.false)) c.loop-at.invariant
