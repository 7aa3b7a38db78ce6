use Rattle.std.proofs.Common.{◌<◌, ◌^◌}
use Rattle.std.specs.Int.{w32}
use Rattle.std.proofs.lemmas.Result.{err_from_is_err_and}
use Rattle.ix_base.specs.Codec.{number_at}
use Rattle.ix_base.specs.Spelling.{be32}
use Rattle.node_words.proofs.Forms.{number_codec, found, rest_fits, not_found}
use Rattle.node_words.proofs.reader.Reader.number.Goals as goal

pub returns-in_err-number : goal.returns-in_err-number
returns-in_err-number c = rw ((err_from_is_err_and c.from_residual.result c.from_residual.ensures.1).1) (not_found (λ n. n < 2 ^ 32) be32 (number_at w32) number_codec c.self.inside.rest.now c.args.self.now c.in_err-number.field-0.0.left c.self.view_is c.in_err-number.ensures)

pub invariant_of-self : goal.invariant_of-self
invariant_of-self c = rest_fits (λ n. n < 2 ^ 32) be32 (number_at w32) number_codec c.self.inside.rest.now c.in_ok-number.number c.in_ok-number.rest.now c.self.invariant c.in_ok-number.ensures

pub returns : goal.returns
returns c = found (λ n. n < 2 ^ 32) be32 (number_at w32) number_codec c.self.inside.rest.now c.args.self.now c.in_ok-number.number c.in_ok-number.rest.now c.self.view_is c.self.invariant c.in_ok-number.ensures
