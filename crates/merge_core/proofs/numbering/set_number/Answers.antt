use Rattle.std.proofs.Common.{◌≡◌, ◌∙◌, ℕ, List, Option, Some, [], ap, get_or, set}
use Rattle.std.proofs.lemmas.List.{set-set}
use Rattle.merge_core.proofs.Finding.{in_range}
use Rattle.merge_core.proofs.numbering.set_number.Goals as goal

pub returns : goal.returns
returns c =
    let xs : List (List (Option ℕ)) = c.args.numbers.now.items in
    let k : ℕ = c.args.origin.source in
    let own : c.into_vec-own.result.items ≡ get_or xs k [] =
    c.into_vec-own.ensures ∙ c.replace-list.ensures.value ∙ c.index_mut.ensures.value ∙ in_range xs k _ [] c.requires.source in
    set-set xs k c.replace-list.new.dest c.from_vec.result
    ∙ ap (set xs k) (c.from_vec.ensures ∙ ap (λ (l : List (Option ℕ)). set l c.args.origin.row (Some c.args.place)) own)
