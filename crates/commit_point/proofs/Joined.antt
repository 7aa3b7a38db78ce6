-- The files, and then the last one.
use Rattle.std.proofs.Common.{◌≡◌, List, [], ◌∷◌, ◌++◌, Bool, true, false, Result, Ok, Err, Option, sym, ap, subst, ◌∙◌, append_assoc}
use Rattle.std.specs.Prelude.{IfErr}
use Rattle.ix_outside.specs.declared.store.StoreFault.{StoreFault}
use Rattle.ix_outside.specs.declared.step.Step.{Step}
use Rattle.ix_outside.specs.Disk.{Disk, taken, Stops, DoesOn, Told}
use Rattle.ix_outside.proofs.DiskLaws.{does_then, stops_early, stops_late, taken_then, told_then, told_onto}
use Rattle.commit_point.specs.declared.fault.CommitRefused.{CommitRefused}
use Rattle.commit_point.specs.Publishing.{Refuses}

pub both_done : {T E : Type 0} (xs ys : List Step) (a b c : Option Disk) (result : Result T E) → Told (λ old now. now ≡ taken xs old) a b → Told (λ old now. DoesOn ys old now result) b c
    → Told (λ old now. DoesOn (xs ++ ys) old now result) a c
both_done xs ys a b c result first second =
    told_then (λ old now. now ≡ taken xs old) (λ old now. DoesOn ys old now result) (λ old now. DoesOn (xs ++ ys) old now result) a b c (λ x y z p q. does_then xs ys x y z result p q) first second

pub stopped : (xs ys : List Step) (a b : Option Disk) → Told (λ old now. Stops xs old now) a b → Told (λ old now. Stops (xs ++ ys) old now) a b
stopped xs ys a b first = told_onto _ _ a b (λ x y p. stops_early xs ys x y p) first

refuses_then : (xs ys : List Step) (rename : Step) (fault : StoreFault) (renamed : Bool) (a b c : Disk) → b ≡ taken xs a → Refuses ys rename fault renamed b c → Refuses (xs ++ ys) rename fault renamed a c
refuses_then xs ys rename fault renamed a b c is r = record {
  done = λ was. r.done was ∙ ap (taken (ys ++ rename ∷ [])) is ∙ sym (taken_then xs (ys ++ rename ∷ []) a) ∙ ap (λ (s : List Step). taken s a) (sym (append_assoc xs ys (rename ∷ [])));
  not_done = λ was no_memory. stops_late xs ys a c (subst (λ (d : Disk). Stops ys d c) is (r.not_done was no_memory));
}

pub refused_later : {T : Type 0} (xs ys : List Step) (rename : Step) (a b c : Option Disk) (result : Result T CommitRefused) → Told (λ old now. now ≡ taken xs old) a b
    → IfErr result (λ r. Told (λ old now. Refuses ys rename r.fault r.renamed old now) b c) → IfErr result (λ r. Told (λ old now. Refuses (xs ++ ys) rename r.fault r.renamed old now) a c)
refused_later xs ys rename a b c (Ok x) first second = tt
refused_later xs ys rename a b c (Err r) first second =
    told_then _ _ (λ old now. Refuses (xs ++ ys) rename r.fault r.renamed old now) a b c (λ x y z p q. refuses_then xs ys rename r.fault r.renamed x y z p q) first second

pub refused_first : (xs ys : List Step) (rename : Step) (fault : StoreFault) (refused : CommitRefused) (a b : Option Disk) → refused ≡ record { fault = fault; renamed = false } → Told (λ old now. Stops xs old now) a b
    → Told (λ old now. Refuses (xs ++ ys) rename refused.fault refused.renamed old now) a b
refused_first xs ys rename fault refused a b is first =
    told_onto _ _ a b (λ x y p. record { done = λ was. absurd (differ (sym (ap (λ (r : CommitRefused). r.renamed) is) ∙ was)); not_done = λ was no_memory. stops_early xs ys x y p }) first
  where
    differ : false ≡ true → ⊥
    differ e = cc
