use Rattle.std.proofs.Common.{ℕ, ◌+◌, ap, ◌∙◌, arith}
use Rattle.std.proofs.lemmas.Result.{err_from_is_err_and}
use Rattle.ix_base.specs.Query.{trees_of}
use Rattle.ix_base.specs.QueryBytes.{queries_bytes}
use Rattle.node_words.proofs.Reading.{byte_fails, term_fails, phrase_fails, range_fails, bool_fails, must_fails, should_fails, must_not_fails, other_fails, list_fails, one_read, left_le, count_taken}
use Rattle.node_words.specs.declared.fault.ReadError.TheVariants.{Foreign}
use Rattle.node_words.proofs.query_read.+read_query.Goals as goal

pub read_list-read_query-requires : goal.read_list-read_query-requires
read_list-read_query-requires t c =
    let after_count = count_taken c.in_ok-count.count c.args.reader.now c.number.new.self c.in_ok-count.ensures.1 in
    let left = left_le (queries_bytes (trees_of c.loop.items.items)) c.number.new.self c.loop.reader c.loop.invariant.bytes in
    (omega (arith, after_count, left, c.decreases), omega (arith, after_count, left, c.requires))

pub read_list-returns-in_err-read_query : goal.read_list-returns-in_err-read_query
read_list-returns-in_err-read_query t c =
    let p = err_from_is_err_and c.from_residual-in_err-read_query.result c.from_residual-in_err-read_query.ensures.1 in
    rw (p.1, p.2) (list_fails c.in_err-read_query.field-0.0 c.args.reader.now c.number.new.self c.loop.reader c.in_ok-count.count (trees_of c.loop.items.items)
    c.in_ok-count.ensures c.loop.invariant.fits (omega arith) c.loop.invariant.bytes c.in_err-read_query.ensures)

pub read_list-loop-preserved : goal.read_list-loop-preserved
read_list-loop-preserved t c =
    let one = one_read c.loop.items.items c.push.new.self.items c.in_ok-read_query.field-0 c.number.new.self c.loop.reader c.read_query.new.reader
    c.in_ok-push.ensures.items c.loop.invariant.fits c.in_ok-read_query.ensures.0 c.loop.invariant.bytes c.in_ok-read_query.ensures.1 in
    record { fits = one.0; count = one.1 ∙ ap (λ (n : ℕ). n + 1) c.loop.invariant.count; bytes = one.2 }

pub read_query-returns-in_err-byte : goal.read_query-returns-in_err-byte
read_query-returns-in_err-byte t c =
    let p = err_from_is_err_and c.from_residual.result c.from_residual.ensures.1 in
    rw (p.1, p.2) (byte_fails Foreign c.args.reader.now c.in_err-byte.ensures)

pub read_query-returns-in_err-pair-in-1 : goal.read_query-returns-in_err-pair-in-1
read_query-returns-in_err-pair-in-1 t c =
    let p = err_from_is_err_and c.from_residual-in_err-pair-in-1.result c.from_residual-in_err-pair-in-1.ensures.1 in
    rw (p.1, p.2) (term_fails Foreign c.args.reader.now c.byte.new.self c.in_ok-byte.field-0 c.in-1.is c.in_ok-byte.ensures.1 c.in_err-pair-in-1.ensures)

pub read_query-returns-in_err-pair-in-2 : goal.read_query-returns-in_err-pair-in-2
read_query-returns-in_err-pair-in-2 t c =
    let p = err_from_is_err_and c.from_residual-in_err-pair-in-2.result c.from_residual-in_err-pair-in-2.ensures.1 in
    rw (p.1, p.2) (phrase_fails Foreign c.args.reader.now c.byte.new.self c.in_ok-byte.field-0 c.in-2.is c.in_ok-byte.ensures.1 c.in_err-pair-in-2.ensures)

pub read_query-returns-in_err-parts-in-4 : goal.read_query-returns-in_err-parts-in-4
read_query-returns-in_err-parts-in-4 t c =
    let p = err_from_is_err_and c.from_residual-in_err-parts-in-4.result c.from_residual-in_err-parts-in-4.ensures.1 in
    rw (p.1, p.2) (range_fails Foreign c.args.reader.now c.byte.new.self c.in_ok-byte.field-0 c.in-4.is c.in_ok-byte.ensures.1 c.in_err-parts-in-4.ensures)

pub read_query-returns-in_err-must-in-3 : goal.read_query-returns-in_err-must-in-3
read_query-returns-in_err-must-in-3 t c =
    let p = err_from_is_err_and c.from_residual-in_err-must-in-3.result c.from_residual-in_err-must-in-3.ensures.1 in
    rw (p.1, p.2) (bool_fails c.in_err-must-in-3.field-0.0 c.args.reader.now c.byte.new.self c.in_ok-byte.field-0 c.in-3.is c.in_ok-byte.ensures.1
    (must_fails c.in_err-must-in-3.field-0.0 c.byte.new.self c.in_err-must-in-3.ensures))

pub read_query-returns-in_err-should-in-3 : goal.read_query-returns-in_err-should-in-3
read_query-returns-in_err-should-in-3 t c =
    let p = err_from_is_err_and c.from_residual-in_err-should-in-3.result c.from_residual-in_err-should-in-3.ensures.1 in
    rw (p.1, p.2) (bool_fails c.in_err-should-in-3.field-0.0 c.args.reader.now c.byte.new.self c.in_ok-byte.field-0 c.in-3.is c.in_ok-byte.ensures.1
    (should_fails c.in_err-should-in-3.field-0.0 c.in_ok-must-in-3.must c.byte.new.self c.read_list.new.reader c.in_ok-must-in-3.ensures c.in_err-should-in-3.ensures))

pub read_query-returns-in_err-must_not-in-3 : goal.read_query-returns-in_err-must_not-in-3
read_query-returns-in_err-must_not-in-3 t c =
    let p = err_from_is_err_and c.from_residual-in_err-must_not-in-3.result c.from_residual-in_err-must_not-in-3.ensures.1 in
    rw (p.1, p.2) (bool_fails c.in_err-must_not-in-3.field-0.0 c.args.reader.now c.byte.new.self c.in_ok-byte.field-0 c.in-3.is c.in_ok-byte.ensures.1
    (must_not_fails c.in_err-must_not-in-3.field-0.0 c.in_ok-must-in-3.must c.in_ok-should-in-3.should c.byte.new.self c.read_list.new.reader c.read_list-in-3.new.reader c.in_ok-must-in-3.ensures c.in_ok-should-in-3.ensures c.in_err-must_not-in-3.ensures))

pub read_query-returns-in_default : goal.read_query-returns-in_default
read_query-returns-in_default t c = other_fails c.args.reader.now c.byte.new.self c.in_ok-byte.field-0 (omega arith) c.in_ok-byte.ensures.1
