use Rattle.std.proofs.Common.{◌≡◌, ◌∙◌, [], ◌∷◌, ◌++◌, option_map, string_bytes, Some, rules}
use Rattle.serde_json.specs.View.{view, members_view}
use Rattle.op_script.specs.Documents.{numbers_of, named_number}
use Rattle.op_script.proofs.Pairs.{numbers_more, numbers_rise, all_numbers}
use Rattle.op_script.proofs.documents.number_pairs.Goals as goal

pub loop-name-preserved : goal.loop-name-preserved
loop-name-preserved c =
    let name = string_bytes c.in-Some.name.now in
    let pair = c.in-Some-2.pair in
    let done = c.loop-name.pairs.items in
    let is : Some pair ≡ option_map (λ x. (name, x)) (named_number name (view c.in-Some.value.now)) = search rules in
    let pushed : c.push.new.self.items ≡ done ++ pair ∷ [] = c.in_ok-push-in-Some-2.ensures.items in
    let left : option_map (λ rest. done ++ rest) (numbers_of (members_view c.loop-name.name-iterator)) ≡ numbers_of (members_view c.args.members.now.entries) = c.loop-name.invariant in
    rw pushed (numbers_more done pair name (view c.in-Some.value.now) (members_view c.next.new.self) is ∙ rw c.in-Some.ensures.steps at left)

pub returns-clause-rise : goal.returns-clause-rise
returns-clause-rise c =
    let entries = c.args.members.now.entries in
    let done = c.loop-name.pairs.items in
    numbers_rise entries done c.into_iter-name-iterator.ensures.into_iter_gives.5 (all_numbers done c.loop-name.name-iterator entries c.in-None.ensures.steps.0 c.loop-name.invariant)
