-- What follows of what a crash may leave.
use Rattle.std.specs.Prelude.{◌≡◌, ◌≢◌, ◌⊎◌, ℕ, ◌≤◌, List, [], ◌∷◌, ◌++◌, length, Some, None, Bool, true, false, ◌&&◌, ◌==◌, refl}
use Rattle.std.proofs.Common.{inl, inr, arith, subst, sym, ap, ◌∙◌}
use Rattle.std.proofs.lemmas.Bool.{eq-eqb, eqb-true}
use Rattle.ix_base.specs.declared.file_name.FileName.{FileName}
use Rattle.ix_base.specs.declared.file_name.FileName.TheVariants.{Commit, Pending, Rows, Posts, Live, Values}
use Rattle.ix_outside.specs.Files.{Files}
use Rattle.ix_outside.specs.Images.{MayHaveRenamed}
use Rattle.ix_outside.specs.declared.step.Step.{Step}
use Rattle.ix_outside.specs.declared.step.Step.TheVariants.{Wrote, Synced, Renamed, Deleted, Settled, Spoilt, HalfRenamed, HalfDeleted}
use Rattle.ix_outside.specs.Disk.{Disk, is_same, with_at, moved, files, Stops}
use Rattle.ix_outside.specs.Crash.{IsImage, Leaves, LeftSince, MayLeave, Extends}

-- ---- names

pub is_same-refl : (name : FileName) → is_same name name ≡ true
is_same-refl (Commit s) = eq-eqb s s refl
is_same-refl (Pending s) = eq-eqb s s refl
is_same-refl (Rows s) = eq-eqb s s refl
is_same-refl (Posts s) = eq-eqb s s refl
is_same-refl (Live s v) = rw (eq-eqb s s refl, eq-eqb v v refl)
is_same-refl (Values s v) = rw (eq-eqb s s refl, eq-eqb v v refl)

both : (a b c d : ℕ) → ((a == b) && (c == d)) ≡ true → (a ≡ b) × (c ≡ d)
both a b c d e = (eqb-true a b (left (a == b) (c == d) e), eqb-true c d (right (a == b) (c == d) e))
  where
    left : (x y : Bool) → (x && y) ≡ true → x ≡ true
    left true y e = refl
    left false y e = e

    right : (x y : Bool) → (x && y) ≡ true → y ≡ true
    right true y e = e
    right false y e = cc

pub is_same-true : (a b : FileName) → is_same a b ≡ true → a ≡ b
is_same-true (Commit s) (Commit t) e = ap (λ n. Commit n) (eqb-true s t e)
is_same-true (Pending s) (Pending t) e = ap (λ n. Pending n) (eqb-true s t e)
is_same-true (Rows s) (Rows t) e = ap (λ n. Rows n) (eqb-true s t e)
is_same-true (Posts s) (Posts t) e = ap (λ n. Posts n) (eqb-true s t e)
is_same-true (Live s v) (Live t w) e = let p = both s t v w e in let l : s ≡ t = p.0 in let r : v ≡ w = p.1 in cc
is_same-true (Values s v) (Values t w) e = let p = both s t v w e in let l : s ≡ t = p.0 in let r : v ≡ w = p.1 in cc
is_same-true a b e = cc

pub is_same-apart : (a b : FileName) → a ≢ b → is_same a b ≡ false
is_same-apart a b apart = tell (is_same a b) refl
  where
    tell : (x : Bool) → is_same a b ≡ x → x ≡ false
    tell true e = absurd (apart (is_same-true a b e))
    tell false e = refl

pub with_at-same : {A : Type 0} (name : FileName) (x : A) (f : FileName → A) → with_at name x f name ≡ x
with_at-same name x f = rw is_same-refl refl

pub with_at-other : {A : Type 0} (name other : FileName) (x : A) (f : FileName → A) → other ≢ name → with_at name x f other ≡ f other
with_at-other name other x f apart = let e : is_same other name ≡ false = is_same-apart other name apart in rw e refl

pub moved-apart : {A : Type 0} («from» to : FileName) (x : A) (f : FileName → A) → «from» ≢ to → moved «from» to x f ≡ with_at «from» x (with_at to (f «from») f)
moved-apart «from» to x f apart = let e : is_same «from» to ≡ false = is_same-apart «from» to apart in rw e refl

pub moved-to : {A : Type 0} («from» to : FileName) (x : A) (f : FileName → A) → «from» ≢ to → moved «from» to x f to ≡ f «from»
moved-to «from» to x f apart =
    let e : is_same «from» to ≡ false = is_same-apart «from» to apart in
    let opened : moved «from» to x f ≡ with_at «from» x (with_at to (f «from») f) = rw e refl in
    ap (λ g. g to) opened
    ∙ (with_at-other «from» to x (with_at to (f «from») f) (λ same. apart (sym same)) ∙ with_at-same to (f «from») f)

pub moved-from : {A : Type 0} («from» to : FileName) (x : A) (f : FileName → A) → «from» ≢ to → moved «from» to x f «from» ≡ x
moved-from «from» to x f apart = ap (λ g. g «from») (moved-apart «from» to x f apart) ∙ with_at-same «from» x (with_at to (f «from») f)

-- ---- time

-- a crash since this moment is a crash at it
pub last_is_now : (disk : Disk) (c : Files) → LeftSince (length disk) disk c → IsImage disk c
last_is_now [] c left = left
last_is_now (step ∷ older) c (inl now) = now
last_is_now (step ∷ older) c (inr before) = absurd (omega (arith, before.0))

-- a crash at this moment is one since any earlier moment
pub now_is_left : (since : ℕ) (disk : Disk) (c : Files) → IsImage disk c → LeftSince since disk c
now_is_left since [] c now = now
now_is_left since (step ∷ older) c now = inl now

pub extends_more : (step : Step) (old new : Disk) → Extends (step ∷ old) new → Extends old new
extends_more step old new e = record { further = e.further ++ step ∷ []; is = e.is ∙ regroup e.further }
  where
    regroup : (fs : List Step) → fs ++ step ∷ old ≡ (fs ++ step ∷ []) ++ old
    regroup [] = refl
    regroup (f ∷ fs) = ap (λ (d : Disk). f ∷ d) (regroup fs)

length_then : (fs : List Step) (disk : Disk) → length disk ≤ length (fs ++ disk)
length_then [] disk = omega arith
length_then (f ∷ fs) disk = let rest = length_then fs disk in omega (arith, rest)

-- a crash since a moment is one at that moment, or one since the next step
pub first_or_later : (step : Step) (old new : Disk) (c : Files) → Extends (step ∷ old) new → MayLeave old new c → IsImage old c ⊎ MayLeave (step ∷ old) new c
first_or_later step old new c e left =
    subst (λ (d : Disk). IsImage old c ⊎ MayLeave (step ∷ old) d c) (sym e.is) (walk e.further (subst (λ (d : Disk). MayLeave old d c) e.is left))
  where
    later : (f : Step) (fs : List Step) → IsImage old c ⊎ MayLeave (step ∷ old) (fs ++ step ∷ old) c → IsImage old c ⊎ MayLeave (step ∷ old) (f ∷ (fs ++ step ∷ old)) c
    later f fs (inl image) = inl image
    later f fs (inr past) = inr (inr (length_then fs (step ∷ old), past))

    walk : (fs : List Step) → MayLeave old (fs ++ step ∷ old) c → IsImage old c ⊎ MayLeave (step ∷ old) (fs ++ step ∷ old) c
    walk [] (inl now) = inr (inl now)
    walk [] (inr past) = inl (last_is_now old c past.1)
    walk (f ∷ fs) (inl now) = inr (inl now)
    walk (f ∷ fs) (inr past) = later f fs (walk fs past.1)

-- A crash at some moment of two runs of calls is one at some moment of the first or of the second.
pub leave_then : (a b c : Disk) (x : Files) → Extends b c → MayLeave a c x → MayLeave a b x ⊎ MayLeave b c x
leave_then a b c x e left = subst (λ (d : Disk). MayLeave a b x ⊎ MayLeave b d x) (sym e.is) (walk e.further (subst (λ (d : Disk). MayLeave a d x) e.is left))
  where
    later : (f : Step) (fs : List Step) → MayLeave a b x ⊎ MayLeave b (fs ++ b) x → MayLeave a b x ⊎ MayLeave b (f ∷ (fs ++ b)) x
    later f fs (inl first) = inl first
    later f fs (inr second) = inr (inr (length_then fs b, second))

    walk : (fs : List Step) → MayLeave a (fs ++ b) x → MayLeave a b x ⊎ MayLeave b (fs ++ b) x
    walk [] left = inl left
    walk (f ∷ fs) (inl now) = inr (inl now)
    walk (f ∷ fs) (inr past) = later f fs (walk fs past.1)

pub extends_stops : (steps : List Step) (old new : Disk) → Stops steps old new → Extends old new
extends_stops [] old new is = record { further = []; is = is }
extends_stops (s ∷ ss) old new (inl (inl same)) = record { further = []; is = same }
extends_stops (s ∷ ss) old new (inl (inr part)) = record { further = part.0 ∷ []; is = part.2 }
extends_stops (s ∷ ss) old new (inr later) = extends_more s old new (extends_stops ss (s ∷ old) new later)

-- What a crash leaves at some moment of calls is what one leaves where the calls had stopped.
pub left_by_stops : (steps : List Step) (old new : Disk) (c : Files) → Stops steps old new → MayLeave old new c → (at : Disk) × Stops steps old at × IsImage at c
left_by_stops [] old new c is left = (old, refl, last_is_now old c (subst (λ (d : Disk). MayLeave old d c) is left))
left_by_stops (s ∷ ss) old new c (inl (inl same)) left = (old, inl (inl refl), last_is_now old c (subst (λ (d : Disk). MayLeave old d c) same left))
left_by_stops (s ∷ ss) old new c (inl (inr part)) left = in_part (subst (λ (d : Disk). MayLeave old d c) part.2 left)
  where
    in_part : MayLeave old (part.0 ∷ old) c → (at : Disk) × Stops (s ∷ ss) old at × IsImage at c
    in_part (inl now) = (part.0 ∷ old, inl (inr (part.0, part.1, refl)), now)
    in_part (inr past) = (old, inl (inl refl), last_is_now old c past.1)
left_by_stops (s ∷ ss) old new c (inr later) left = at_some (first_or_later s old new c (extends_stops ss (s ∷ old) new later) left) (λ since. left_by_stops ss (s ∷ old) new c later since)
  where
    at_some : IsImage old c ⊎ MayLeave (s ∷ old) new c → (MayLeave (s ∷ old) new c → (at : Disk) × Stops ss (s ∷ old) at × IsImage at c) → (at : Disk) × Stops (s ∷ ss) old at × IsImage at c
    at_some (inl image) rest = (old, inl (inl refl), image)
    at_some (inr since) rest = let found = rest since in (found.0, inr found.1, found.2)

-- ---- what is seen of a disk

-- What is seen after a step is what was seen before it, after what the step makes of it.
abbrev pub FollowsSteps : (Disk → Files → Type 0) → Type 0
FollowsSteps Sees = (step : Step) (older : Disk) (c : Files) → Sees (step ∷ older) c → (d : Files) × Sees older d × Leaves step older d c

-- what a crash may leave
pub images_follow : FollowsSteps IsImage
images_follow step older c image = image

-- what reads give
abbrev pub IsRead : Disk → Files → Type 0
IsRead disk c = c ≡ files disk

pub may_rename : («from» to : FileName) (f : Files) → MayHaveRenamed «from» to f (moved «from» to None f)
may_rename «from» to f = tell (is_same «from» to) refl
  where
    differ : false ≡ true → ⊥
    differ e = cc

    tell : (b : Bool) → is_same «from» to ≡ b → MayHaveRenamed «from» to f (moved «from» to None f)
    tell true e = inr (rw e refl)
    tell false e =
        let apart : «from» ≢ to = λ same. differ (sym e ∙ (ap (λ n. is_same «from» n) (sym same) ∙ is_same-refl «from»)) in
        inl (record {
          there = ap (λ (g : Files). g to) (opened e) ∙ (with_at-other «from» to None (with_at to (f «from») f) (λ x. apart (sym x)) ∙ with_at-same to (f «from») f);
          gone = ap (λ (g : Files). g «from») (opened e) ∙ with_at-same «from» None (with_at to (f «from») f);
          others = λ other first second. ap (λ (g : Files). g other) (opened e) ∙ (with_at-other «from» other None (with_at to (f «from») f) first ∙ with_at-other to other (f «from») f second);
        })
      where
        opened : is_same «from» to ≡ false → moved «from» to None f ≡ with_at «from» None (with_at to (f «from») f)
        opened e = rw e refl

reads_after : (step : Step) (older : Disk) → Leaves step older (files older) (files (step ∷ older))
reads_after (Wrote name bytes) older = λ other apart. with_at-other name other (Some bytes) (files older) apart
reads_after (Spoilt name found) older = λ other apart. with_at-other name other found (files older) apart
reads_after (Synced name) older = record { there = refl; others = λ other apart. refl }
reads_after (Renamed «from» to) older = may_rename «from» to (files older)
reads_after (HalfRenamed «from» to) older = inr refl
reads_after (Deleted name) older = inl (record { gone = with_at-same name None (files older); others = λ other apart. with_at-other name other None (files older) apart })
reads_after (HalfDeleted name) older = inr refl
reads_after Settled older = record { same = refl; kept = λ name synced. refl }

pub reads_follow : FollowsSteps IsRead
reads_follow step older c is = (files older, refl, subst (λ (x : Files). Leaves step older (files older) x) (sym is) (reads_after step older))

-- a crash may leave everything as reads give it
pub reads_are_image : (disk : Disk) → IsImage disk (files disk)
reads_are_image [] = λ name. refl
reads_are_image (step ∷ older) = (files older, reads_are_image older, reads_after step older)
