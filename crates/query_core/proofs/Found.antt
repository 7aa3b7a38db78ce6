-- What a search by a key finds in a list whose keys rise.
use Rattle.std.proofs.Common.{◌≡◌, ◌≢◌, ℕ, ◌+◌, ◌<◌, ◌≤◌, List, false, Result, Ok, Err, Option, Some, None, IfSome, IfNone, length, get_or, ◌⊎◌, inl, inr, sym, ap, ◌∙◌, arith}
use Rattle.std.specs.List.{All, AllPairs}
use Rattle.std.specs.List.Sorted.{IsBinarySearchResult, IsSearchInRange, IsNonDecreasingBy, IsSortedBy, IsPartitionPoint}
use Rattle.std.specs.Cmp.{IsTotalOrder}
use Rattle.std.specs.Ordering.{is_lt, ordering_index, ordering_reverse}
use Rattle.std.specs.Result.{result_ok}
use Rattle.std.specs.declared.cmp.Ordering.{Ordering}
use Rattle.std.specs.declared.cmp.Ordering.TheVariants.{Less, Equal, Greater}
use Rattle.std.proofs.lemmas.Bool.{cases_lt}
use Rattle.std.proofs.lemmas.List.Sorted.{searchable_from_sorted}

turned : (o : Ordering) → o ≡ Less → is_lt (ordering_reverse o) ≡ false
turned o e = ap (λ (r : Ordering). is_lt (ordering_reverse r)) e

module _ {X K : Type 0} (R : K → K → Ordering) (total : IsTotalOrder R) (key : X → K) (xs : List X) (x : K) where
  pub found_at : (r : Result ℕ ℕ) → IsBinarySearchResult (λ y. R (key y) x) xs r → IsSearchInRange r (length xs) → IfSome (result_ok r) (λ i. (i < length xs) × ((d : X) → R (key (get_or xs i d)) x ≡ Equal))
  found_at (Ok i) h in' = (in', λ d. h d)
  found_at (Err i) h in' = tt

  in_order : AllPairs (λ a b. R (key a) (key b) ≡ Less) xs → IsNonDecreasingBy (λ y. ordering_index (R (key y) x)) xs
  in_order rise =
      let sorted : IsSortedBy (λ a b. is_lt (R (key a) (key b))) xs = λ k d low lt.
      let below : R (key (get_or xs k d)) (key (get_or xs (k + 1) d)) ≡ Less = rise k (k + 1) d (omega arith) lt in
      ap is_lt (total.antisymm (key (get_or xs (k + 1) d)) (key (get_or xs k d))) ∙ turned (R (key (get_or xs k d)) (key (get_or xs (k + 1) d))) below in
      searchable_from_sorted total key xs x sorted

  pub found_nowhere : (r : Result ℕ ℕ) → IsBinarySearchResult (λ y. R (key y) x) xs r → IfNone (result_ok r) (AllPairs (λ a b. R (key a) (key b) ≡ Less) xs → All (λ y. R (key y) x ≢ Equal) xs)
  found_nowhere (Ok i) h = tt
  found_nowhere (Err i) h = λ rise k d lt e. part (h (in_order rise)) k d lt e
    where
      part : IsPartitionPoint (λ y. R (key y) x ≡ Less) (λ y. R (key y) x ≡ Greater) xs i → (k : ℕ) (d : X) → k < length xs → R (key (get_or xs k d)) x ≢ Equal
      part p k d lt e = go (cases_lt k i)
        where
          go : (k < i) ⊎ (i ≤ k) → ⊥
          go (inl l) = let s : R (key (get_or xs k d)) x ≡ Less = p.0 k d (omega arith) l in let q : Less ≡ Equal = sym s ∙ e in cc
          go (inr g) = let s : R (key (get_or xs k d)) x ≡ Greater = p.1 k d g lt in let q : Greater ≡ Equal = sym s ∙ e in cc

pub none_then : {X P Q : Type 0} (o : Option X) → (P → Q) → IfNone o P → IfNone o Q
none_then None f h = f h
none_then (Some x) f h = tt

pub some_then : {X : Type 0} (P Q : X → Type 0) (o : Option X) → ((x : X) → P x → Q x) → IfSome o P → IfSome o Q
some_then P Q None f h = tt
some_then P Q (Some x) f h = f x h
