use Rattle.std.proofs.Common.{List, ℕ, map, ap, sym, ◌∙◌}
use Rattle.segment_files.specs.Fields.{fields_at}
use Rattle.segment_files.proofs.DocumentLaws.{read_apart}
use Rattle.segment_files.proofs.read_documents.document_of.Goals as goal

pub invariant_of-doc : goal.invariant_of-doc
invariant_of-doc c =
    let bytes = c.in_ok-key.rest.now in
    let taken : List (List ℕ × List ℕ) → List (List ℕ) = λ pairs. map (λ (pair : List ℕ × List ℕ). pair.0) pairs in
    let first = ap (λ (pairs : List (List ℕ × List ℕ)). fields_at (taken pairs) bytes) (sym c.none.ensures) ∙ c.in_ok-text.ensures in
    read_apart bytes c.in_ok-text.rest.now (c.in_ok-text.text, c.in_ok-text.rest.now) (c.in_ok-exact.exact, c.in_ok-exact.rest.now) first c.in_ok-exact.ensures
