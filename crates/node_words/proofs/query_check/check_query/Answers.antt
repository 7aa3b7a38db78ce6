use Rattle.std.proofs.lemmas.Result.{err_from_is_err_and}
use Rattle.ix_base.specs.QueryBytes.{query_bytes, IsQuery}
use Rattle.node_words.proofs.Entries.{no_spelling, more_behind, all_read}
use Rattle.node_words.proofs.QueryForms.{one_query}
use Rattle.node_words.proofs.query_check.check_query.Goals as goal

pub returns-in_err-skip_query : goal.returns-in_err-skip_query
returns-in_err-skip_query c =
    let p = err_from_is_err_and c.from_residual.result c.from_residual.ensures.1 in
    rw (p.1) (no_spelling IsQuery query_bytes c.new-reader.result c.args.bytes.now c.new-reader.ensures c.in_err-skip_query.ensures)

pub returns-in_err-end : goal.returns-in_err-end
returns-in_err-end c =
    let p = err_from_is_err_and c.from_residual-in_err-end.result c.from_residual-in_err-end.ensures.1 in
    let passed = c.in_ok-skip_query.ensures in
    rw (p.1) (more_behind IsQuery query_bytes one_query passed.0 c.new-reader.result c.args.bytes.now c.skip_query.new.reader c.new-reader.ensures passed.1 c.in_err-end.ensures.some)

pub returns : goal.returns
returns c =
    let passed = c.in_ok-skip_query.ensures in
    (passed.0, passed.1.0, all_read query_bytes passed.0 c.new-reader.result c.args.bytes.now c.skip_query.new.reader c.new-reader.ensures passed.1.1 c.in_ok-end.ensures.none)
