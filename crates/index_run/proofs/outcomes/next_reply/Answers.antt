use Rattle.std.proofs.Common.{◌≡◌, ◌<◌, ◌%◌, ◌∙◌, ℕ, length, sym, ap, arith}
use Rattle.index_run.proofs.Left.{left_next, none_left, reply_is}
use Rattle.index_run.proofs.outcomes.next_reply.Goals as goal

pub unreachable-requires : goal.unreachable-requires
unreachable-requires c =
    let told = c.args.told.now.items in
    let n = c.len.result in
    let left = c.requires.left in
    let many : n ≡ length told = let len = c.len.ensures in let ok = c.args.told.now.ok in omega arith in
    let at : c.args.caller % n ≡ left.2.caller % length told =
    ap (λ (m : ℕ). c.args.caller % m) many ∙ ap (λ (k : ℕ). k % length told) (sym left.4) in
    let some = left.6.some in
    let inside : c.args.caller % n < length told = omega (arith, many, some) in
    none_left left.0 left.1 left.2 left.3 told (c.args.caller % n) c.index_mut.result.now left.5 at
    (sym c.index_mut.ensures.value) left.6 inside c.in-None.ensures.cases.0

pub returns-clause-reply : goal.returns-clause-reply
returns-clause-reply c = λ base log l rest of doing are.
    let told = c.args.told.now.items in
    let n = c.len.result in
    let many : n ≡ length told = let len = c.len.ensures in let ok = c.args.told.now.ok in omega arith in
    let at : c.args.caller % n ≡ l.caller % length told =
    ap (λ (m : ℕ). c.args.caller % m) many ∙ ap (λ (k : ℕ). k % length told) (sym of) in
    let some = are.some in
    let inside : c.args.caller % n < length told = omega (arith, many, some) in
    reply_is base log l rest told (c.args.caller % n) c.index_mut.result.now c.next.new.self c.in-Some.reply doing at
    (sym c.index_mut.ensures.value) are inside
    (record { items = c.in-Some.ensures.cases.0; count = c.in-Some.ensures.cases.1 })

pub returns-clause-left : goal.returns-clause-left
returns-clause-left c = λ base log l rest of doing are.
    let told = c.args.told.now.items in
    let n = c.len.result in
    let many : n ≡ length told = let len = c.len.ensures in let ok = c.args.told.now.ok in omega arith in
    let at : c.args.caller % n ≡ l.caller % length told =
    ap (λ (m : ℕ). c.args.caller % m) many ∙ ap (λ (k : ℕ). k % length told) (sym of) in
    let some = are.some in
    let inside : c.args.caller % n < length told = omega (arith, many, some) in
    left_next base log l rest told (c.args.caller % n) c.index_mut.result.now c.next.new.self c.in-Some.reply doing at
    (sym c.index_mut.ensures.value) are inside
    (record { items = c.in-Some.ensures.cases.0; count = c.in-Some.ensures.cases.1 })
