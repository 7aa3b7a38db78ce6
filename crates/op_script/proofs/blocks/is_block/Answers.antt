use Rattle.std.proofs.Common.{◌≡◌, ◌∙◌, ◌≤◌, sym, ap, length, option_and_then, is_some, true, false, rules, arith}
use Rattle.op_script.specs.Documents.{documents_of, block_by}
use Rattle.op_script.proofs.BlockLists.{block_some, block_none}
use Rattle.op_script.proofs.blocks.is_block.Goals as goal

pub returns-then-are_few : goal.returns-then-are_few
returns-then-are_few c =
    let items = c.in-Some.items.now.items in
    let len : c.len.result ≡ length items = search rules in
    let few : (1 ≤ c.len.result) × (c.len.result ≤ 64) = c.are_few.ensures.0 c.if-are_few.true in
    c.are_documents.ensures ∙ sym (block_some items (omega (arith, few.0)) (omega (arith, few.1)))
    ∙ ap (λ ds. is_some (option_and_then block_by (option_and_then documents_of ds))) c.in-Some.ensures

pub returns-else-are_few : goal.returns-else-are_few
returns-else-are_few c =
    let items = c.in-Some.items.now.items in
    let len : c.len.result ≡ length items = search rules in
    let other : 1 ≤ length items → length items ≤ 64 → ⊥ = λ one most.
    let is : c.are_few.result ≡ true = c.are_few.ensures.1 (omega arith, omega arith) in
    let not : c.are_few.result ≡ false = c.if-are_few.false in
    cc in
    c.if-are_few.false ∙ sym (ap is_some (block_none items other)) ∙ ap (λ ds. is_some (option_and_then block_by (option_and_then documents_of ds))) c.in-Some.ensures
