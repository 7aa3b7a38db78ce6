use Rattle.std.proofs.Common.{ℕ, ◌<◌, List, [], length, sym, subst, ◌∙◌, arith, inl, inr}
use Rattle.std.proofs.lemmas.Result.{err_from_is_err_and}
use Rattle.node_words.proofs.Entries.{other_fails}
use Rattle.node_words.proofs.Spelled.{none_read, plain_held, fields_held, entry_absent, entry_read}
use Rattle.node_words.specs.Packed.{HoldsBytes, bytes_in}
use Rattle.node_words.proofs.decoding.read_words.Goals as goal

pub returns-in_err-held : goal.returns-in_err-held
returns-in_err-held c =
    let p = err_from_is_err_and c.from_residual.result c.from_residual.ensures.1 in
    rw (p.1, p.2) (none_read c.args.words.now c.in_err-held.ensures)

pub returns-in_err-plain_entry : goal.returns-in_err-plain_entry
returns-in_err-plain_entry c =
    let p = err_from_is_err_and c.from_residual-in_err-plain_entry.result c.from_residual-in_err-plain_entry.ensures.1 in
    let held = c.in_ok-held.held in
    let plain = plain_held c.args.words.now held.kind (bytes_in held) c.in_ok-held.ensures.0 (omega (arith, c.in_ok-held.ensures.1)) in
    rw (p.1, p.2) (entry_absent c.args.words.now held.kind [] plain c.in_err-plain_entry.ensures)

pub returns-then-held-lt2 : goal.returns-then-held-lt2
returns-then-held-lt2 c =
    let held = c.in_ok-held.held in
    entry_absent c.args.words.now held.kind (bytes_in held) c.in_ok-held.ensures.0 (other_fails held.kind (bytes_in held) (omega (arith, c.in_ok-held.ensures.1, c.if-held-eq0.false)) (λ low high.
    elim c.then-held-lt2.either [
      | inl below ↦ omega (arith, below, low)
      | inr above ↦ omega (arith, above.1, high)
    ]))

pub returns-in_err-bytes : goal.returns-in_err-bytes
returns-in_err-bytes c =
    let p = err_from_is_err_and c.from_residual-in_err-bytes.result c.from_residual-in_err-bytes.ensures.1 in
    let held = c.in_ok-held.held in
    rw (p.1, p.2) (fields_held c.args.words.now held.kind (bytes_in held) c.in_ok-held.ensures.0 c.if-held-lt2.false c.if-held-gt5.false (omega (arith, c.in_ok-held.ensures.1, c.if-held-eq0.false)))

pub returns : goal.returns
returns c =
    let held = c.in_ok-held.held in
    let same = sym (c.deref.ensures.value ∙ c.in_ok-bytes.ensures) in
    entry_read c.args.words.now held.kind c.deref.result.now c.read_fields.result (subst (λ (t : List ℕ). HoldsBytes c.args.words.now held.kind t) same c.in_ok-held.ensures.0) c.if-held-lt2.false c.if-held-gt5.false
    (subst (λ (t : List ℕ). 0 < length t) same (omega (arith, c.in_ok-held.ensures.1, c.if-held-eq0.false))) c.read_fields.ensures
