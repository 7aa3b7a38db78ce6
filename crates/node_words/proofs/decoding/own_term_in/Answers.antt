use Rattle.std.proofs.lemmas.Result.{err_from_is_err_and}
use Rattle.ix_base.specs.Entry.{term_bytes, IsOwnTerm}
use Rattle.node_words.proofs.Entries.{more_behind, one_own_term}
use Rattle.node_words.specs.Reads.{term_in}
use Rattle.node_words.proofs.decoding.own_term_in.Goals as goal

pub returns-in_err-end : goal.returns-in_err-end
returns-in_err-end c =
    let p = err_from_is_err_and c.from_residual-in_err-end.result c.from_residual-in_err-end.ensures.1 in
    rw (p.1) (more_behind IsOwnTerm term_bytes one_own_term (term_in c.in_ok-pair.pair) c.new-reader.result c.args.bytes.now c.own_term.new.self c.new-reader.ensures c.in_ok-pair.ensures c.in_err-end.ensures.some)
