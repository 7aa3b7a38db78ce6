use Rattle.std.proofs.lemmas.Result.{err_from_is_err_and}
use Rattle.node_words.proofs.Entries.{update_fails, delete_fails, query_fails}
use Rattle.node_words.proofs.decoding.read_fields.Goals as goal

pub returns-in_err-read_own_term-in-2 : goal.returns-in_err-read_own_term-in-2
returns-in_err-read_own_term-in-2 c =
    let p = err_from_is_err_and c.from_residual.result c.from_residual.ensures.1 in
    rw (p.1, p.2) (update_fails c.in_err-read_own_term-in-2.field-0.0 c.args.bytes.now c.args.kind c.in-2.is c.in_err-read_own_term-in-2.ensures)

pub returns-in_err-read_own_term-in-3 : goal.returns-in_err-read_own_term-in-3
returns-in_err-read_own_term-in-3 c =
    let p = err_from_is_err_and c.from_residual-in_err-read_own_term-in-3.result c.from_residual-in_err-read_own_term-in-3.ensures.1 in
    rw (p.1, p.2) (delete_fails c.in_err-read_own_term-in-3.field-0.0 c.args.bytes.now c.args.kind c.in-3.is c.in_err-read_own_term-in-3.ensures)

pub returns-in_err-read_whole_query-in-4 : goal.returns-in_err-read_whole_query-in-4
returns-in_err-read_whole_query-in-4 c =
    let p = err_from_is_err_and c.from_residual-in_err-read_whole_query-in-4.result c.from_residual-in_err-read_whole_query-in-4.ensures.1 in
    rw (p.1, p.2) (query_fails c.in_err-read_whole_query-in-4.field-0.0 c.args.bytes.now c.args.kind c.in-4.is c.requires.short c.in_err-read_whole_query-in-4.ensures)
