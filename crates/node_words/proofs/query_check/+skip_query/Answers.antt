use Rattle.std.proofs.Common.{refl, arith}
use Rattle.std.proofs.lemmas.Result.{err_from_is_err_and}
use Rattle.ix_base.specs.Tree.{no_trees}
use Rattle.node_words.proofs.Passing.{one_passed, all_passed, term_passed, phrase_passed, range_passed, bool_passed}
use Rattle.node_words.proofs.Reading.{byte_fails, term_fails, phrase_fails, range_fails, bool_fails, must_fails, should_fails, must_not_fails, other_fails, list_fails}
use Rattle.node_words.specs.Reads.{pair_in, range_in}
use Rattle.node_words.specs.declared.fault.ReadError.TheVariants.{Foreign}
use Rattle.node_words.proofs.query_check.+skip_query.Goals as goal

pub skip_list-loop-init : goal.skip_list-loop-init
skip_list-loop-init t c = (no_trees, tt, refl, refl)

pub skip_list-returns-in_err-skip_query : goal.skip_list-returns-in_err-skip_query
skip_list-returns-in_err-skip_query t c =
    let p = err_from_is_err_and c.from_residual-in_err-skip_query.result c.from_residual-in_err-skip_query.ensures.1 in
    let passed = c.loop.invariant in
    rw (p.1) (list_fails Foreign c.args.reader.now c.number.new.self c.loop.reader c.in_ok-count.count passed.0 c.in_ok-count.ensures passed.1 (omega (arith, passed.2, c.loop-test.true)) passed.3 c.in_err-skip_query.ensures)

pub skip_list-loop-preserved : goal.skip_list-loop-preserved
skip_list-loop-preserved t c = one_passed c.loop.counter c.number.new.self c.loop.reader c.skip_query.new.reader c.loop.invariant c.in_ok-skip_query.ensures

pub skip_query-returns-in_err-byte : goal.skip_query-returns-in_err-byte
skip_query-returns-in_err-byte t c =
    let p = err_from_is_err_and c.from_residual.result c.from_residual.ensures.1 in
    rw (p.1) (byte_fails Foreign c.args.reader.now c.in_err-byte.ensures)

pub skip_query-returns-in_err-pair-in-1 : goal.skip_query-returns-in_err-pair-in-1
skip_query-returns-in_err-pair-in-1 t c =
    let p = err_from_is_err_and c.from_residual-in_err-pair-in-1.result c.from_residual-in_err-pair-in-1.ensures.1 in
    rw (p.1) (term_fails Foreign c.args.reader.now c.byte.new.self c.in_ok-byte.field-0 c.in-1.is c.in_ok-byte.ensures.1 c.in_err-pair-in-1.ensures)

pub skip_query-returns-in_err-pair-in-2 : goal.skip_query-returns-in_err-pair-in-2
skip_query-returns-in_err-pair-in-2 t c =
    let p = err_from_is_err_and c.from_residual-in_err-pair-in-2.result c.from_residual-in_err-pair-in-2.ensures.1 in
    rw (p.1) (phrase_fails Foreign c.args.reader.now c.byte.new.self c.in_ok-byte.field-0 c.in-2.is c.in_ok-byte.ensures.1 c.in_err-pair-in-2.ensures)

pub skip_query-returns-in_err-range-in-4 : goal.skip_query-returns-in_err-range-in-4
skip_query-returns-in_err-range-in-4 t c =
    let p = err_from_is_err_and c.from_residual-in_err-range-in-4.result c.from_residual-in_err-range-in-4.ensures.1 in
    rw (p.1) (range_fails Foreign c.args.reader.now c.byte.new.self c.in_ok-byte.field-0 c.in-4.is c.in_ok-byte.ensures.1 c.in_err-range-in-4.ensures)

pub skip_query-returns-in_err-skip_list-in-3 : goal.skip_query-returns-in_err-skip_list-in-3
skip_query-returns-in_err-skip_list-in-3 t c =
    let p = err_from_is_err_and c.from_residual-in_err-skip_list-in-3.result c.from_residual-in_err-skip_list-in-3.ensures.1 in
    rw (p.1) (bool_fails Foreign c.args.reader.now c.byte.new.self c.in_ok-byte.field-0 c.in-3.is c.in_ok-byte.ensures.1
    (must_fails Foreign c.byte.new.self c.in_err-skip_list-in-3.ensures))

pub skip_query-returns-in_err-skip_list-in-3-2 : goal.skip_query-returns-in_err-skip_list-in-3-2
skip_query-returns-in_err-skip_list-in-3-2 t c =
    let p = err_from_is_err_and c.from_residual-in_err-skip_list-in-3-2.result c.from_residual-in_err-skip_list-in-3-2.ensures.1 in
    let must = c.in_ok-skip_list-in-3.ensures in
    rw (p.1) (bool_fails Foreign c.args.reader.now c.byte.new.self c.in_ok-byte.field-0 c.in-3.is c.in_ok-byte.ensures.1
    (should_fails Foreign must.0 c.byte.new.self c.skip_list.new.reader must.1 c.in_err-skip_list-in-3-2.ensures))

pub skip_query-returns-in_err-skip_list-in-3-3 : goal.skip_query-returns-in_err-skip_list-in-3-3
skip_query-returns-in_err-skip_list-in-3-3 t c =
    let p = err_from_is_err_and c.from_residual-in_err-skip_list-in-3-3.result c.from_residual-in_err-skip_list-in-3-3.ensures.1 in
    let must = c.in_ok-skip_list-in-3.ensures in
    let should = c.in_ok-skip_list-in-3-2.ensures in
    rw (p.1) (bool_fails Foreign c.args.reader.now c.byte.new.self c.in_ok-byte.field-0 c.in-3.is c.in_ok-byte.ensures.1
    (must_not_fails Foreign must.0 should.0 c.byte.new.self c.skip_list.new.reader c.skip_list-in-3.new.reader must.1 should.1 c.in_err-skip_list-in-3-3.ensures))

pub skip_query-returns-in-0 : goal.skip_query-returns-in-0
skip_query-returns-in-0 t c = all_passed c.in_ok-byte.field-0 c.args.reader.now c.byte.new.self c.in-0.is c.in_ok-byte.ensures.1

pub skip_query-returns-in_ok-pair-in-1 : goal.skip_query-returns-in_ok-pair-in-1
skip_query-returns-in_ok-pair-in-1 t c = term_passed c.in_ok-byte.field-0 (pair_in c.in_ok-pair-in-1.field-0) c.args.reader.now c.byte.new.self c.pair.new.self c.in-1.is c.in_ok-byte.ensures.1 c.in_ok-pair-in-1.ensures

pub skip_query-returns-in_ok-pair-in-2 : goal.skip_query-returns-in_ok-pair-in-2
skip_query-returns-in_ok-pair-in-2 t c = phrase_passed c.in_ok-byte.field-0 (pair_in c.in_ok-pair-in-2.field-0) c.args.reader.now c.byte.new.self c.pair-in-2.new.self c.in-2.is c.in_ok-byte.ensures.1 c.in_ok-pair-in-2.ensures

pub skip_query-returns-in_ok-skip_list-in-3-3 : goal.skip_query-returns-in_ok-skip_list-in-3-3
skip_query-returns-in_ok-skip_list-in-3-3 t c =
    bool_passed c.in_ok-byte.field-0 c.args.reader.now c.byte.new.self c.skip_list.new.reader c.skip_list-in-3.new.reader c.skip_list-in-3-2.new.reader c.in-3.is c.in_ok-byte.ensures.1
    c.in_ok-skip_list-in-3.ensures c.in_ok-skip_list-in-3-2.ensures c.in_ok-skip_list-in-3-3.ensures

pub skip_query-returns-in_ok-range-in-4 : goal.skip_query-returns-in_ok-range-in-4
skip_query-returns-in_ok-range-in-4 t c = range_passed c.in_ok-byte.field-0 (range_in c.in_ok-range-in-4.field-0) c.args.reader.now c.byte.new.self c.range.new.self c.in-4.is c.in_ok-byte.ensures.1 c.in_ok-range-in-4.ensures

pub skip_query-returns-in_default : goal.skip_query-returns-in_default
skip_query-returns-in_default t c = other_fails c.args.reader.now c.byte.new.self c.in_ok-byte.field-0 (omega arith) c.in_ok-byte.ensures.1
