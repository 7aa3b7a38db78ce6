-- Laws of the steps of calls, one after another.
use Rattle.std.specs.Prelude.{◌≡◌, List, [], ◌∷◌, ◌++◌, Option, refl}
use Rattle.std.proofs.Common.{sym, subst, ap, ◌∙◌, append_assoc}
use Rattle.ix_outside.specs.Disk.{Disk, Told}
use Rattle.ix_outside.proofs.DiskLaws.{told_same, told_then}
use Rattle.ix_outside.specs.declared.step.Step.{Step}
use Rattle.commit_point.specs.Steps.{AreSteps, GoesBy}

are_both : (Is : Step → Disk → Type 0) (first second : List Step) (old : Disk) → AreSteps Is first old
    → AreSteps Is second (first ++ old) → AreSteps Is (second ++ first) old
are_both Is first [] old one two = one
are_both Is first (step ∷ second) old one two = (
  subst (λ (d : Disk). Is step d) (sym (append_assoc second first old)) two.0,
  are_both Is first second old one two.1,
)

pub by_none : (Is : Step → Disk → Type 0) (disk : Disk) → GoesBy Is disk disk
by_none Is disk = record { further = []; is = refl; each = tt }

pub by_one : (Is : Step → Disk → Type 0) (step : Step) (old new : Disk) → new ≡ step ∷ old → Is step old → GoesBy Is old new
by_one Is step old new is one = record { further = step ∷ []; is = is; each = (one, tt) }

pub by_then : (Is : Step → Disk → Type 0) (a b c : Disk) → GoesBy Is a b → GoesBy Is b c → GoesBy Is a c
by_then Is a b c first second = record {
  further = second.further ++ first.further;
  is = second.is ∙ ap (λ (d : Disk). second.further ++ d) first.is ∙ sym (append_assoc second.further first.further a);
  each = are_both Is first.further second.further a first.each
      (subst (λ (d : Disk). AreSteps Is second.further d) first.is second.each);
}

-- ---- where a store tells

-- no step at all
pub goes_none : (Is : Step → Disk → Type 0) (a : Option Disk) → Told (GoesBy Is) a a
goes_none Is a = told_same (GoesBy Is) a (by_none Is)

-- calls that only read
pub goes_still : (Is : Step → Disk → Type 0) (a b : Option Disk) → b ≡ a → Told (GoesBy Is) a b
goes_still Is a b same = subst (λ (d : Option Disk). Told (GoesBy Is) a d) (sym same) (goes_none Is a)

-- some calls, and then others
pub goes_then : (Is : Step → Disk → Type 0) (a b c : Option Disk) → Told (GoesBy Is) a b → Told (GoesBy Is) b c → Told (GoesBy Is) a c
goes_then Is a b c = told_then (GoesBy Is) (GoesBy Is) (GoesBy Is) a b c (by_then Is)
