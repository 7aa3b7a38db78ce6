use Rattle.std.proofs.Common.{arith}
use Rattle.std.proofs.lemmas.Result.{err_from_is_err_and}
use Rattle.node_words.proofs.Entries.{no_pair_begins, too_long_term}
use Rattle.node_words.specs.Reads.{pair_in}
use Rattle.node_words.proofs.reader.Reader.own_term.Goals as goal

pub returns-in_err-term : goal.returns-in_err-term
returns-in_err-term c = rw ((err_from_is_err_and c.from_residual.result c.from_residual.ensures.1).1) (no_pair_begins c.args.self.now c.in_err-term.ensures)

pub returns-then-term-gt-MOST_TERM_BYTES : goal.returns-then-term-gt-MOST_TERM_BYTES
returns-then-term-gt-MOST_TERM_BYTES c = too_long_term (pair_in c.in_ok-term.term) c.args.self.now c.pair.new.self c.in_ok-term.ensures (omega arith)
