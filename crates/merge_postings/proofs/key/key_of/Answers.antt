use Rattle.std.proofs.Common.{◌<◌, ℕ, get_or, arith}
use Rattle.merge_postings.proofs.KeyOrder.{long_key, short_key}
use Rattle.merge_postings.proofs.key.key_of.Goals as goal

pub returns-then-bytes-lt16 : goal.returns-then-bytes-lt16
returns-then-bytes-lt16 c =
    let fit : (i : ℕ) → get_or c.as_bytes-bytes.result.now i 0 < 256 = λ i. omega (arith, c.as_bytes-bytes.items_fit i) in
    short_key c.as_bytes-bytes.result.now c.args.text.now c.first_eight-high.result c.next_seven-next.result c.as_bytes-bytes.ensures.value c.first_eight-high.ensures c.next_seven-next.ensures.value fit c.if-bytes-lt16.true

pub returns-else-bytes-lt16 : goal.returns-else-bytes-lt16
returns-else-bytes-lt16 c =
    let fit : (i : ℕ) → get_or c.as_bytes-bytes.result.now i 0 < 256 = λ i. omega (arith, c.as_bytes-bytes.items_fit i) in
    long_key c.as_bytes-bytes.result.now c.args.text.now c.first_eight-high.result c.next_seven-next.result c.as_bytes-bytes.ensures.value c.first_eight-high.ensures c.next_seven-next.ensures.value fit c.if-bytes-lt16.false
