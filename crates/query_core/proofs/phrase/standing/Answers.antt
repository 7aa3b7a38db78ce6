use Rattle.std.proofs.Common.{◌≡◌, ℕ, Bool, List, ap, ◌∙◌, refl}
use Rattle.std.specs.List.{filter}
use Rattle.ix_base.specs.Inversion.{at_row, rows_where}
use Rattle.ix_base.specs.declared.document.Term.{Term}
use Rattle.query_core.specs.Answers.{holds_all, terms_stand}
use Rattle.query_core.proofs.Documents.{filter_rows}
use Rattle.query_core.proofs.Joining.{all_taken}
use Rattle.query_core.proofs.Phrases.{standing_rows}
use Rattle.query_core.proofs.phrase.standing.Goals as goal

pub returns : goal.returns
returns g c = λ list are docs inverts.
    let keys = c.args.words.now.terms.keys in
    let keep : ℕ → Bool = λ r. at_row (terms_stand list) docs r in
    let xs = c.deref-row-items.result.now in
    let all : c.loop-row.kept.items ≡ filter keep xs = all_taken (λ (l : List ℕ). c.loop-row.kept.items ≡ filter keep l) xs c.loop-row.row-index c.loop-row-test.false (c.loop-row.invariant docs inverts list are) in
    all ∙ ap (filter keep) (c.deref-row-items.ensures.value ∙ c.in_ok-rows.ensures docs inverts ∙ ap (λ (l : List Term). rows_where (holds_all l) docs) c.as_slice.ensures.keys)
    ∙ filter_rows (holds_all keys) (terms_stand list) keep docs (λ r lt. refl) ∙ standing_rows keys list docs are.needed
