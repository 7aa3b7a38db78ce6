use Rattle.std.proofs.lemmas.Result.{err_from_is_err_and}
use Rattle.ix_base.specs.Codec.{name_at}
use Rattle.ix_base.specs.Spelling.{text_bytes, IsName}
use Rattle.node_words.proofs.Forms.{name_codec, found, rest_fits, not_found}
use Rattle.node_words.proofs.reader.Reader.name.Goals as goal

pub returns-in_err-name : goal.returns-in_err-name
returns-in_err-name c = rw ((err_from_is_err_and c.from_residual.result c.from_residual.ensures.1).1) (not_found IsName text_bytes name_at name_codec c.self.inside.rest.now c.args.self.now c.in_err-name.field-0.0.left c.self.view_is c.in_err-name.ensures)

pub invariant_of-self : goal.invariant_of-self
invariant_of-self c = rest_fits IsName text_bytes name_at name_codec c.self.inside.rest.now c.in_ok-name.name.now c.in_ok-name.rest.now c.self.invariant c.in_ok-name.ensures

pub returns : goal.returns
returns c = found IsName text_bytes name_at name_codec c.self.inside.rest.now c.args.self.now c.in_ok-name.name.now c.in_ok-name.rest.now c.self.view_is c.self.invariant c.in_ok-name.ensures
