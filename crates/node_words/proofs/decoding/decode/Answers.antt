use Rattle.std.proofs.Common.{ap, subst, refl}
use Rattle.node_words.proofs.decoding.decode.Goals as goal
use Rattle.std.specs.Prelude.{Some, Err}
use Rattle.ix_base.specs.Entry as spec
use Rattle.node_words.specs.Entry.{value_of}
use Rattle.node_words.specs.Packed.{ReadsEntry}
use Rattle.node_words.specs.declared.fault.ReadError.{ReadError}
use Rattle.node_words.proofs.Spelled.{spelled_once, is_spelled, none_spelled}

pub returns-in-Ok-clause-only : goal.returns-in-Ok-clause-only
returns-in-Ok-clause-only c = λ e s. ap (λ (v : spec.Entry). Some v) (spelled_once c.args.words.now (value_of c.in-Ok.entry) e c.in-Ok.ensures s)

pub returns-in-Ok-clause-some : goal.returns-in-Ok-clause-some
returns-in-Ok-clause-some c = (λ h. is_spelled c.args.words.now (value_of c.in-Ok.entry) c.in-Ok.ensures, λ h. refl)

pub returns-in-Err-Foreign-clause-some : goal.returns-in-Err-Foreign-clause-some
returns-in-Err-Foreign-clause-some c =
    let fails = subst (λ (e : ReadError). ReadsEntry c.args.words.now (Err e)) c.in-Err-Foreign.field-0-is c.in-Err-Foreign.ensures in
    (λ h. absurd (cc h), λ h. absurd (none_spelled c.args.words.now fails h))
