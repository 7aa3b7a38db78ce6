use Rattle.std.proofs.lemmas.Result.{err_from_is_err_and}
use Rattle.ix_base.specs.Codec.{text_at}
use Rattle.ix_base.specs.Spelling.{text_bytes, IsText}
use Rattle.node_words.proofs.Forms.{text_codec, found, rest_fits, not_found}
use Rattle.node_words.proofs.reader.Reader.text.Goals as goal

pub returns-in_err-text : goal.returns-in_err-text
returns-in_err-text c = rw ((err_from_is_err_and c.from_residual.result c.from_residual.ensures.1).1) (not_found IsText text_bytes text_at text_codec c.self.inside.rest.now c.args.self.now c.in_err-text.field-0.0.left c.self.view_is c.in_err-text.ensures)

pub invariant_of-self : goal.invariant_of-self
invariant_of-self c = rest_fits IsText text_bytes text_at text_codec c.self.inside.rest.now c.in_ok-text.text.now c.in_ok-text.rest.now c.self.invariant c.in_ok-text.ensures

pub returns : goal.returns
returns c = found IsText text_bytes text_at text_codec c.self.inside.rest.now c.args.self.now c.in_ok-text.text.now c.in_ok-text.rest.now c.self.view_is c.self.invariant c.in_ok-text.ensures
