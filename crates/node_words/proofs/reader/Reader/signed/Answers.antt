use Rattle.std.proofs.Common.{sym, subst}
use Rattle.std.proofs.lemmas.Int.{to_z-of_z}
use Rattle.std.specs.Int.{w64}
use Rattle.std.specs.Prelude.{FitsSigned}
use Rattle.std.proofs.lemmas.Result.{err_from_is_err_and}
use Rattle.ix_base.specs.Codec.{signed_at}
use Rattle.ix_base.specs.Spelling.{signed64}
use Rattle.node_words.proofs.Forms.{signed_codec, found, rest_fits, not_found}
use Rattle.node_words.specs.Reads.{StandsAtStart}
use Rattle.node_words.proofs.reader.Reader.signed.Goals as goal

pub returns-in_err-number : goal.returns-in_err-number
returns-in_err-number c = rw ((err_from_is_err_and c.from_residual.result c.from_residual.ensures.1).1) (not_found (FitsSigned w64) signed64 signed_at signed_codec c.self.inside.rest.now c.args.self.now c.in_err-number.field-0.0.left c.self.view_is c.in_err-number.ensures)

pub invariant_of-self : goal.invariant_of-self
invariant_of-self c = rest_fits (FitsSigned w64) signed64 signed_at signed_codec c.self.inside.rest.now c.in_ok-number.number c.in_ok-number.rest.now c.self.invariant c.in_ok-number.ensures

pub returns : goal.returns
returns c =
    let there = found (FitsSigned w64) signed64 signed_at signed_codec c.self.inside.rest.now c.args.self.now c.in_ok-number.number c.in_ok-number.rest.now c.self.view_is c.self.invariant c.in_ok-number.ensures in
    subst (λ n. StandsAtStart (FitsSigned w64) signed64 n c.args.self.now c.in_ok-number.rest.now) (sym (to_z-of_z w64 c.in_ok-number.number there.0)) there
