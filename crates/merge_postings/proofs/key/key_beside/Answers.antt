use Rattle.std.proofs.Common.{◌≡◌, ◌∙◌, true, inr}
use Rattle.std.proofs.lemmas.Slice.Eq.{bytes_eq-Decides}
use Rattle.merge_postings.proofs.TermKeys.{behind}
use Rattle.merge_postings.proofs.key.key_beside.Goals as goal

pub returns-else-eq : goal.returns-else-eq
returns-else-eq c =
    let other : c.args.term.now.field ≡ c.args.field.now → ⊥ = λ e.
    let is : c.eq.result ≡ true = c.eq.ensures ∙ (bytes_eq-Decides c.as_str.result.now c.args.field.now).1 (c.as_str.ensures.bytes ∙ e) in absurd (cc) in
    inr (c.highest_key.ensures, behind c.args.term.now.field c.args.field.now c.requires other)
