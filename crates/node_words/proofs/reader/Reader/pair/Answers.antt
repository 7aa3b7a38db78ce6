use Rattle.std.proofs.lemmas.Result.{err_from_is_err_and}
use Rattle.ix_base.specs.Spelling.{text_bytes, IsText, IsName}
use Rattle.node_words.proofs.Both.{second_fails}
use Rattle.node_words.proofs.Forms.{one_name}
use Rattle.node_words.specs.Reads.{Pair}
use Rattle.node_words.specs.declared.fault.ReadError.TheVariants.{Foreign}
use Rattle.node_words.proofs.reader.Reader.pair.Goals as goal

pub returns-in_err-text : goal.returns-in_err-text
returns-in_err-text c =
    let p = err_from_is_err_and c.from_residual-in_err-text.result c.from_residual-in_err-text.ensures.1 in
    rw (p.1) (second_fails IsName text_bytes IsText text_bytes (λ (pair : Pair). pair.0) (λ (pair : Pair). pair.1) one_name Foreign c.in_ok-name.name.now c.args.self.now c.name.new.self c.in_ok-name.ensures c.in_err-text.ensures)
