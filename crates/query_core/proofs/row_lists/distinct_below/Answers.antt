use Rattle.std.proofs.Common.{◌≡◌, ◌<◌, ◌∙◌, ℕ, List, All, false, get_or, ap}
use Rattle.ix_base.specs.Inversion.{has_number}
use Rattle.query_core.proofs.Unions.{same_marked, IfOk-both}
use Rattle.query_core.proofs.row_lists.distinct_below.Goals as goal

pub returns-clause-same : goal.returns-clause-same
returns-clause-same c =
    let numbers = c.args.numbers.items in
    let marks = c.in_ok-marks.marks.items in
    let end = c.args.end in
    let slice = c.as_slice-2.ensures.value in
    IfOk-both c.marked.result (λ kept. All (λ x. x < end) kept.items) (λ kept. (x : ℕ) → x < end → has_number kept.items x ≡ get_or c.as_slice-2.result.now x false)
    (λ kept. All (λ x. x < end) numbers → (x : ℕ) → has_number kept.items x ≡ has_number numbers x)
    (λ kept below same within. same_marked kept.items numbers marks end below (λ x lt. same x lt ∙ ap (λ l. get_or l x false) slice)
    (λ x lt. c.in_ok-marks.ensures.marked x lt ∙ ap (λ (l : List ℕ). has_number l x) c.as_slice.ensures.value) within) c.marked.ensures.below c.marked.ensures.same
