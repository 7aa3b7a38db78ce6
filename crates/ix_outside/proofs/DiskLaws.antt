-- Laws of calls, one after another.
use Rattle.std.specs.Prelude.{◌≡◌, List, [], ◌∷◌, ◌++◌, Result, Ok, Err, Option, Some, None}
use Rattle.std.proofs.Common.{refl, sym, ap, subst, ◌∙◌, inl, inr}
use Rattle.ix_outside.specs.declared.step.Step.{Step}
use Rattle.ix_outside.specs.Disk.{Disk, taken, Stops, DoesOn, Told}

-- some steps, and then others
pub taken_then : (xs ys : List Step) (disk : Disk) → taken (xs ++ ys) disk ≡ taken ys (taken xs disk)
taken_then [] ys disk = refl
taken_then (x ∷ xs) ys disk = taken_then xs ys (x ∷ disk)

-- who stops among the first steps stops among all
pub stops_early : (xs ys : List Step) (old new : Disk) → Stops xs old new → Stops (xs ++ ys) old new
stops_early [] [] old new stops = stops
stops_early [] (y ∷ ys) old new stops = inl (inl stops)
stops_early (x ∷ xs) ys old new (inl failing) = inl failing
stops_early (x ∷ xs) ys old new (inr later) = inr (stops_early xs ys (x ∷ old) new later)

-- who took the first steps and stops among the others stops among all
pub stops_late : (xs ys : List Step) (old new : Disk) → Stops ys (taken xs old) new → Stops (xs ++ ys) old new
stops_late [] ys old new stops = stops
stops_late (x ∷ xs) ys old new stops = inr (stops_late xs ys (x ∷ old) new stops)

-- all steps taken are a stop after the last one
pub stops_done : (xs : List Step) (old new : Disk) → new ≡ taken xs old → Stops xs old new
stops_done [] old new is = is
stops_done (x ∷ xs) old new is = inr (stops_done xs (x ∷ old) new is)

-- where the first steps were taken, the others follow
pub does_then : {T E : Type 0} (xs ys : List Step) (a b c : Disk) (result : Result T E) → b ≡ taken xs a → DoesOn ys b c result → DoesOn (xs ++ ys) a c result
does_then xs ys a b c (Ok x) is second = second ∙ ap (taken ys) is ∙ sym (taken_then xs ys a)
does_then xs ys a b c (Err e) is second = stops_late xs ys a c (subst (λ (d : Disk). Stops ys d c) is second)

-- where the first steps were not all taken, none of the others was
pub does_early : (T : Type 0) {E : Type 0} (xs ys : List Step) (a b : Disk) (fault : E) → Stops xs a b → DoesOn {T = T} (xs ++ ys) a b (Err fault)
does_early T xs ys a b fault stops = stops_early xs ys a b stops

-- ---- where a store tells

pub told_then : (first second both : Disk → Disk → Type 0) (a b c : Option Disk) → ((x y z : Disk) → first x y → second y z → both x z)
    → Told first a b → Told second b c → Told both a c
told_then first second both None None None joined p q = tt
told_then first second both None None (Some z) joined p q = absurd q
told_then first second both None (Some y) c joined p q = absurd p
told_then first second both (Some x) (Some y) (Some z) joined p q = joined x y z p q
told_then first second both (Some x) (Some y) None joined p q = absurd q
told_then first second both (Some x) None c joined p q = absurd p

pub told_onto : (change other : Disk → Disk → Type 0) (a b : Option Disk) → ((x y : Disk) → change x y → other x y) → Told change a b → Told other a b
told_onto change other None None implies p = tt
told_onto change other None (Some y) implies p = absurd p
told_onto change other (Some x) (Some y) implies p = implies x y p
told_onto change other (Some x) None implies p = absurd p

pub told_same : (change : Disk → Disk → Type 0) (a : Option Disk) → ((x : Disk) → change x x) → Told change a a
told_same change None itself = tt
told_same change (Some x) itself = itself x
