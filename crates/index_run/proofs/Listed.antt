-- Statuses that are among some, and among more.
use Rattle.std.proofs.Common.{◌≡◌, ◌⊎◌, ◌∙◌, inl, inr, ℕ, Bool, true, false, ◌||◌, eqb, ne_eqb, List, [], ◌∷◌, Result, Ok, Err, refl, sym, ap, subst}
use Rattle.std.specs.Prelude.{IfErr, IsErrAnd, OnOk}
use Rattle.std.specs.List.{AllByRecursion, list_any}
use Rattle.commit_point.specs.Loading.{IsOutside as AskedOutside}
use Rattle.commit_point.specs.declared.fault.OpenFault.{OpenFault}
use Rattle.commit_pruning.specs.Pruning.{IsOutside as PrunedOutside}
use Rattle.commit_pruning.specs.declared.fault.PruningFault.{PruningFault}
use Rattle.index_check.specs.Sound.{IsOutside as CheckedOutside}
use Rattle.index_check.specs.declared.fault.CheckFault.{CheckFault}
use Rattle.index_check.specs.declared.fault.CheckFault.TheVariants as checking
use Rattle.index_check.specs.declared.fault.Difference.{Difference}
use Rattle.store_answers.specs.Listing.{IsOutside as ListedOutside}
use Rattle.store_answers.specs.declared.listing.ListFault.{ListFault}
use Rattle.index_run.specs.Causes.{IsOneOf, stop_by_check, stop_by_list, stop_by_pruning, stop_status, stop_to_ask}
use Rattle.index_run.specs.declared.stop.Stop.{Stop}
use Rattle.index_run.proofs.LogNumbers.{nat_or}

-- what is among some is among others that have all of these
pub listed_onto : (n : ℕ) (some more : List ℕ) → AllByRecursion (λ (x : ℕ). IsOneOf x more) some → IsOneOf n some
    → IsOneOf n more
listed_onto n [] more all listed = absurd cc
listed_onto n (x ∷ some) more all listed = elim (nat_or x n) [
  | inl same ↦ subst (λ (m : ℕ). IsOneOf m more) same all.0
  | inr other ↦ listed_onto n some more all.1 (rest (eqb x n) (ne_eqb x n other) listed)
]
  where
    rest : (b : Bool) → b ≡ false → (b || list_any (λ (s : ℕ). eqb s n) some) ≡ true → IsOneOf n some
    rest true is h = absurd cc
    rest false is h = h

-- the same of a result's stop
pub err_listed : {T : Type 0} (result : Result T Stop) (some more : List ℕ) → AllByRecursion (λ (x : ℕ). IsOneOf x more) some
    → IfErr result (λ s. IsOneOf (stop_status s) some) → IfErr result (λ s. IsOneOf (stop_status s) more)
err_listed (Ok x) some more all h = tt
err_listed (Err s) some more all h = listed_onto (stop_status s) some more all h

pub err_and_listed : {T : Type 0} (result : Result T Stop) (some more : List ℕ) → AllByRecursion (λ (x : ℕ). IsOneOf x more) some
    → IsErrAnd result (λ s. IsOneOf (stop_status s) some) → IsErrAnd result (λ s. IsOneOf (stop_status s) more)
err_and_listed (Ok x) some more all h = absurd h
err_and_listed (Err s) some more all h = listed_onto (stop_status s) some more all h

-- ---- a stop

pub at_err : {T : Type 0} (result : Result T Stop) (s : Stop) (P : Stop → Type 0) → result ≡ Err s
    → IfErr result P → P s
at_err (Ok x) s P is h = absurd cc
at_err (Err r) s P is h = let same : r ≡ s = cc in subst P same h

pub at_err_and : {T : Type 0} (result : Result T Stop) (s : Stop) (P : Stop → Type 0) → result ≡ Err s
    → IsErrAnd result P → P s
at_err_and result s P is h = subst (λ r. IsErrAnd r P) is h

pub no_err : {T : Type 0} (result : Result T Stop) (x : T) (P : Stop → Type 0) → result ≡ Ok x → IsErrAnd result P → ⊥
no_err result x P is h = subst (λ r. IsErrAnd r P) is h

-- what is true of every stop
pub err_always : {T : Type 0} (result : Result T Stop) (P : Stop → Type 0) → ((s : Stop) → P s) → IfErr result P
err_always (Ok x) P h = tt
err_always (Err s) P h = h s

-- what is true anyway
pub ok_always : {T : Type 0} (result : Result T Stop) (P : Type 0) → P → OnOk result P
ok_always (Ok x) P h = h
ok_always (Err s) P h = tt

-- ---- the outside

-- only the store or memory stops pruning where what it reads is whole
pub outside_pruned : (fault : PruningFault) (s : Stop) → s ≡ stop_by_pruning fault → PrunedOutside fault
    → IsOneOf (stop_status s) (4 ∷ 7 ∷ [])
outside_pruned fault s is (inl e) = subst (λ (x : Stop). IsOneOf (stop_status x) (4 ∷ 7 ∷ [])) (sym (is ∙ ap stop_by_pruning e)) refl
outside_pruned fault s is (inr e) = subst (λ (x : Stop). IsOneOf (stop_status x) (4 ∷ 7 ∷ [])) (sym (is ∙ ap stop_by_pruning e)) refl

-- only the store or memory stops what is said to be whole
pub outside_asked : (fault : OpenFault) (s : Stop) → s ≡ stop_to_ask fault → AskedOutside fault
    → IsOneOf (stop_status s) (4 ∷ 7 ∷ [])
outside_asked fault s is (inl e) = subst (λ (x : Stop). IsOneOf (stop_status x) (4 ∷ 7 ∷ [])) (sym (is ∙ ap stop_to_ask e)) refl
outside_asked fault s is (inr e) = subst (λ (x : Stop). IsOneOf (stop_status x) (4 ∷ 7 ∷ [])) (sym (is ∙ ap stop_to_ask e)) refl

pub outside_listed : (fault : ListFault) (s : Stop) → s ≡ stop_by_list fault → ListedOutside fault
    → IsOneOf (stop_status s) (4 ∷ 7 ∷ [])
outside_listed fault s is (inl e) = subst (λ (x : Stop). IsOneOf (stop_status x) (4 ∷ 7 ∷ [])) (sym (is ∙ ap stop_by_list e)) refl
outside_listed fault s is (inr e) = subst (λ (x : Stop). IsOneOf (stop_status x) (4 ∷ 7 ∷ [])) (sym (is ∙ ap stop_by_list e)) refl

pub outside_checked : (fault : CheckFault) (s : Stop) → s ≡ stop_by_check fault → CheckedOutside fault
    → IsOneOf (stop_status s) (4 ∷ 7 ∷ [])
outside_checked fault s is (inl e) = subst (λ (x : Stop). IsOneOf (stop_status x) (4 ∷ 7 ∷ [])) (sym (is ∙ ap stop_by_check e)) refl
outside_checked fault s is (inr e) = subst (λ (x : Stop). IsOneOf (stop_status x) (4 ∷ 7 ∷ [])) (sym (is ∙ ap stop_by_check e)) refl

-- and only a difference beside them
pub differs_or_outside : (fault : CheckFault) (s : Stop) (d : Difference) → s ≡ stop_by_check fault
    → (fault ≡ checking.Differs d) ⊎ CheckedOutside fault → IsOneOf (stop_status s) (4 ∷ 7 ∷ 11 ∷ [])
differs_or_outside fault s d is (inl e) = subst (λ (x : Stop). IsOneOf (stop_status x) (4 ∷ 7 ∷ 11 ∷ [])) (sym (is ∙ ap stop_by_check e)) refl
differs_or_outside fault s d is (inr e) = listed_onto (stop_status s) (4 ∷ 7 ∷ []) (4 ∷ 7 ∷ 11 ∷ []) (refl, (refl, tt)) (outside_checked fault s is e)
