-- Laws of what a crash leaves of several calls of a store, one after another.
use Rattle.std.specs.Prelude.{◌≡◌, ◌⊎◌, [], ◌++◌, List, length, Option, Some, None, refl}
use Rattle.std.proofs.Common.{inl, inr, sym, subst, ap, ◌∙◌, append_assoc}
use Rattle.ix_outside.specs.Files.{Files}
use Rattle.ix_outside.specs.Disk.{Disk, Stops, Told, files, told_files}
use Rattle.ix_outside.specs.declared.step.Step.{Step}
use Rattle.ix_outside.specs.Crash.{Extends, IsImage, MayHold, MayLeave}
use Rattle.ix_outside.proofs.CrashLaws.{last_is_now, now_is_left, leave_then, left_by_stops, extends_stops, reads_are_image}
use Rattle.ix_outside.specs.Calls.{LeavesOnly}

extends_then : (a b c : Disk) → Extends a b → Extends b c → Extends a c
extends_then a b c first second = record {
  further = second.further ++ first.further;
  is = second.is ∙ ap (λ (d : Disk). second.further ++ d) first.is ∙ sym (append_assoc second.further first.further a);
}

-- no call at all
pub leaves_none : (a : Option Disk) (P : Files → Type 0) → ((c : Files) → MayHold a c → P c) → LeavesOnly a a P
leaves_none None P has = tt
leaves_none (Some disk) P has = (record { further = []; is = refl }, λ c left. has c (last_is_now disk c left))

-- calls that only read
pub leaves_reading : (a b : Option Disk) (P : Files → Type 0) → b ≡ a → ((c : Files) → MayHold a c → P c) → LeavesOnly a b P
leaves_reading a b P same has = subst (λ (d : Option Disk). LeavesOnly a d P) (sym same) (leaves_none a P has)

-- calls, and then others
pub leaves_then : (a b c : Option Disk) (P Q R : Files → Type 0) → LeavesOnly a b P → LeavesOnly b c Q → ((x : Files) → P x → R x) → ((x : Files) → Q x → R x) → LeavesOnly a c R
leaves_then None None None P Q R first second p q = tt
leaves_then None None (Some z) P Q R first second p q = absurd second
leaves_then None (Some y) c P Q R first second p q = absurd first
leaves_then (Some x) None c P Q R first second p q = absurd first
leaves_then (Some x) (Some y) None P Q R first second p q = absurd second
leaves_then (Some x) (Some y) (Some z) P Q R first second p q = (
  extends_then x y z first.0 second.0,
  λ c left. either c (leave_then x y z c second.0 left),
)
  where
    either : (c : Files) → MayLeave x y c ⊎ MayLeave y z c → R c
    either c (inl before) = p c (first.1 c before)
    either c (inr after) = q c (second.1 c after)

-- the same calls, of whose crashes less is said
pub leaves_less : (a b : Option Disk) (P R : Files → Type 0) → LeavesOnly a b P → ((x : Files) → P x → R x) → LeavesOnly a b R
leaves_less None None P R first p = tt
leaves_less None (Some y) P R first p = absurd first
leaves_less (Some x) None P R first p = first
leaves_less (Some x) (Some y) P R first p = (first.0, λ c left. p c (first.1 c left))

-- a crash now is one since the first call
pub leaves_now : (a b : Option Disk) (P : Files → Type 0) → LeavesOnly a b P → (c : Files) → MayHold b c → P c
leaves_now a None P leaves c image = absurd image
leaves_now None (Some y) P leaves c image = absurd leaves
leaves_now (Some x) (Some y) P leaves c image = leaves.1 c (now_is_left (length x) y c image)

-- calls that only read leave no image more
pub may_hold_still : (a b : Option Disk) → b ≡ a → (c : Files) → MayHold b c → MayHold a c
may_hold_still a b same c image = subst (λ (d : Option Disk). MayHold d c) same image

-- what reads give is one of the images
pub reads_may_hold : (a : Option Disk) (here : Files) → told_files a ≡ Some here → MayHold a here
reads_may_hold None here told = absurd cc
reads_may_hold (Some disk) here told = let same : files disk ≡ here = cc in subst (λ (c : Files). IsImage disk c) same (reads_are_image disk)

-- Calls that took these steps, or the first few of them: a crash leaves what one leaves where they had stopped.
pub leaves_steps : (steps : List Step) (a b : Option Disk) (P : Files → Type 0)
    → Told (λ old now. Stops steps old now) a b → ((old at : Disk) (c : Files) → a ≡ Some old → Stops steps old at → IsImage at c → P c) → LeavesOnly a b P
leaves_steps steps None None P does has = tt
leaves_steps steps None (Some y) P does has = absurd does
leaves_steps steps (Some x) None P does has = absurd does
leaves_steps steps (Some x) (Some y) P does has =
    (extends_stops steps x y does, λ c left. let found = left_by_stops steps x y c does left in has x found.0 c refl found.1 found.2)
