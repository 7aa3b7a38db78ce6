use Rattle.std.proofs.Common.{rules, ◌≡◌, ◌++◌, [], ◌∷◌, length, map, refl, arith, ap, sym, ◌∙◌, List}
use Rattle.std.specs.Vec.Iter.{into_iter_items}
use Rattle.std.proofs.lemmas.List.{append-nil}
use Rattle.std.proofs.lemmas.List.Sorted.{IsNonDecreasingBy-from_sort_by_key}
use Rattle.searcher.specs.declared.shown.Found.{Found}
use Rattle.searcher.proofs.found.hits_by_birth.Goals as goal

nothing_left : (found : List Found) → length found ≡ 0 → found ≡ []
nothing_left [] h = refl
nothing_left (f ∷ fs) h = absurd (omega (arith, h))

pub returns : goal.returns
returns c =
    let sort = c.sort_unstable_by_key in
    let at = c.loop-one in
    let rest : into_iter_items at.one-iterator ≡ [] = nothing_left (into_iter_items at.one-iterator) (sym at.invariant.count ∙ c.in-None.ensures.steps.0) in
    let all : at.yielded ≡ sort.new.self.items =
    sym (append-nil at.yielded) ∙ sym (ap (λ (l : List Found). at.yielded ++ l) rest) ∙ at.invariant.all ∙ c.into_iter-one-iterator.ensures.into_iter_gives.0 in
    record {
      sorted = sort.new.self.items;
      merged = sort.ensures.permutation;
      rise = IsNonDecreasingBy-from_sort_by_key (λ (f : Found). f.birth) _ sort.ensures.sorted (λ a r q k. search rules);
      are = at.invariant.are ∙ ap (map (λ (f : Found). f.hit)) all;
    }
