-- What follows of what a crash of a chosen outcome leaves.
use Rattle.std.specs.Prelude.{◌≡◌, ℕ, List, [], ◌∷◌, length, Option, Some, None, Bool, true, false, if◌then◌else◌, option_and_then, refl}
use Rattle.std.proofs.Common.{inl, inr, sym, ap, ◌∙◌}
use Rattle.ix_base.specs.declared.file_name.FileName.{FileName}
use Rattle.ix_outside.specs.Files.{Files, SameBut, Removes}
use Rattle.ix_outside.specs.Images.{MayHaveRenamed, MayHaveRemoved}
use Rattle.ix_outside.specs.Disk.{Disk, is_same, with_at, moved, is_unsynced, files as files_of}
use Rattle.ix_outside.specs.Crash.{IsImage}
use Rattle.ix_outside.proofs.CrashLaws.{is_same-true, with_at-same, with_at-other, may_rename}
use Rattle.ix_outside.specs.declared.step.Step.TheVariants.{Wrote, Synced, Renamed, Deleted, Settled, Spoilt, HalfRenamed, HalfDeleted}
use Rattle.ix_memory.specs.History.{leaves_step, bytes_left, files_left}
use Rattle.ix_memory.specs.declared.outcome.StepsLeft.{StepsLeft}
use Rattle.ix_memory.specs.declared.outcome.StepsLeft.TheVariants.{Every}
use Rattle.ix_memory.specs.declared.outcome.BytesLeft.{BytesLeft}
use Rattle.ix_memory.specs.declared.outcome.BytesLeft.TheVariants.{Whole}

keeps_others : (name : FileName) (x : Option (List ℕ)) (f : Files) → SameBut name f (with_at name x f)
keeps_others name x f other apart = with_at-other name other x f apart

removes : (name : FileName) (f : Files) → Removes name f (with_at name None f)
removes name f = record { gone = with_at-same name None f; others = keeps_others name None f }

-- ---- outcomes are images

may_rename_if : (b : Bool) («from» to : FileName) (f : Files) → MayHaveRenamed «from» to f (if b then moved «from» to None f else f)
may_rename_if true «from» to f = may_rename «from» to f
may_rename_if false «from» to f = inr refl

may_remove_if : (b : Bool) (name : FileName) (f : Files) → MayHaveRemoved name f (if b then with_at name None f else f)
may_remove_if true name f = inl (removes name f)
may_remove_if false name f = inr refl

-- the two functions agree but where this test holds
Agree : {A : Type 0} → (FileName → Bool) → (FileName → A) → (FileName → A) → Type 0
Agree test f g = (name : FileName) → ¬ (test name ≡ true) → f name ≡ g name

agree_at : {A : Type 0} (name : FileName) (t : Bool) (x y : A) (test : FileName → Bool) (f g : FileName → A) → (¬ (t ≡ true) → x ≡ y) → Agree test f g
    → Agree (with_at name t test) (with_at name x f) (with_at name y g)
unfolding Agree
agree_at name t x y test f g here agree other = tell (is_same other name)
  where
    tell : (b : Bool) → ¬ ((if b then t else test other) ≡ true) → (if b then x else f other) ≡ (if b then y else g other)
    tell true not = here not
    tell false not = agree other not

agree_synced : {A : Type 0} (name : FileName) (test : FileName → Bool) (f g : FileName → A) → Agree test f g → Agree (with_at name false test) (with_at name (g name) f) g
unfolding Agree
agree_synced name test f g agree other = tell (is_same other name) refl
  where
    tell : (b : Bool) → is_same other name ≡ b → ¬ ((if b then false else test other) ≡ true) → (if b then g name else f other) ≡ g other
    tell true e not = ap g (sym (is_same-true other name e))
    tell false e not = agree other not

agree_moved : {A : Type 0} («from» to : FileName) (x : A) (test : FileName → Bool) (f g : FileName → A) → Agree test f g → Agree (moved «from» to false test) (moved «from» to x f) (moved «from» to x g)
unfolding Agree
agree_moved «from» to x test f g agree = tell (is_same «from» to)
  where
    tell : (b : Bool) → Agree (if b then test else with_at «from» false (with_at to (test «from») test))
        (if b then f else with_at «from» x (with_at to (f «from») f)) (if b then g else with_at «from» x (with_at to (g «from») g))
    tell true = agree
    tell false = agree_at «from» false x x _ _ _ (λ _. refl) (agree_at to (test «from») (f «from») (g «from») test f g (agree «from») agree)

-- where every step is there, each file but the unsynced ones is as reads give it
agrees : (bytes : BytesLeft) (calls : Disk) → Agree (is_unsynced calls) (files_left Every bytes calls) (files_of calls)
unfolding Agree
agrees bytes [] = λ name apart. refl
agrees bytes (Wrote name written ∷ older) =
    agree_at name true (bytes_left bytes written) (Some written) _ _ _ (λ not. absurd (not refl)) (agrees bytes older)
agrees bytes (Synced name ∷ older) = agree_synced name _ _ _ (agrees bytes older)
agrees bytes (Renamed «from» to ∷ older) = agree_moved «from» to None _ _ _ (agrees bytes older)
agrees bytes (Deleted name ∷ older) = agree_at name false None None _ _ _ (λ _. refl) (agrees bytes older)
agrees bytes (Settled ∷ older) = agrees bytes older
agrees bytes (Spoilt name found ∷ older) = agree_at name true (option_and_then (bytes_left bytes) found) found _ _ _ (λ not. absurd (not refl)) (agrees bytes older)
agrees bytes (HalfRenamed «from» to ∷ older) = agrees bytes older
agrees bytes (HalfDeleted name ∷ older) = agrees bytes older

-- Each outcome is one that a crash may leave.
pub outcome_is_image : (steps : StepsLeft) (bytes : BytesLeft) (calls : Disk) → IsImage calls (files_left steps bytes calls)
unfolding Agree
outcome_is_image steps bytes [] = λ name. refl
outcome_is_image steps bytes (Wrote name written ∷ older) =
    (files_left steps bytes older, outcome_is_image steps bytes older, keeps_others name (bytes_left bytes written) (files_left steps bytes older))
outcome_is_image steps bytes (Synced name ∷ older) = (
  files_left steps bytes older,
  outcome_is_image steps bytes older,
  record {
    there = with_at-same name (files_of older name) (files_left steps bytes older);
    others = keeps_others name (files_of older name) (files_left steps bytes older);
  },
)
outcome_is_image steps bytes (Renamed «from» to ∷ older) =
    (files_left steps bytes older, outcome_is_image steps bytes older, may_rename_if (leaves_step steps (length older)) «from» to (files_left steps bytes older))
outcome_is_image steps bytes (Deleted name ∷ older) =
    (files_left steps bytes older, outcome_is_image steps bytes older, may_remove_if (leaves_step steps (length older)) name (files_left steps bytes older))
outcome_is_image steps bytes (Settled ∷ older) = (files_left Every bytes older, outcome_is_image Every bytes older, record { same = refl; kept = agrees bytes older })
outcome_is_image steps bytes (Spoilt name found ∷ older) =
    (files_left steps bytes older, outcome_is_image steps bytes older, keeps_others name (option_and_then (bytes_left bytes) found) (files_left steps bytes older))
outcome_is_image steps bytes (HalfRenamed «from» to ∷ older) = (files_left steps bytes older, outcome_is_image steps bytes older, inr refl)
outcome_is_image steps bytes (HalfDeleted name ∷ older) = (files_left steps bytes older, outcome_is_image steps bytes older, inr refl)

-- ---- the outcome that is what reads give

extend : {A : Type 0} (f g : FileName → A) → ((name : FileName) → f name ≡ g name) → f ≡ g
extend f g same = λ i name. same name i

with_what_is_there : {A : Type 0} (name : FileName) (f : FileName → A) → with_at name (f name) f ≡ f
with_what_is_there name f = extend (with_at name (f name) f) f (λ other. tell other (is_same other name) refl)
  where
    tell : (other : FileName) (b : Bool) → is_same other name ≡ b → (if b then f name else f other) ≡ f other
    tell other true e = ap f (sym (is_same-true other name e))
    tell other false e = refl

-- Where all is left, a crash leaves what reads give.
pub whole_is_read : (calls : Disk) → files_left Every Whole calls ≡ files_of calls
whole_is_read [] = refl
whole_is_read (Wrote name written ∷ older) = ap (λ f. with_at name (Some written) f) (whole_is_read older)
whole_is_read (Synced name ∷ older) =
    ap (λ f. with_at name (files_of older name) f) (whole_is_read older) ∙ with_what_is_there name (files_of older)
whole_is_read (Renamed «from» to ∷ older) = ap (λ f. moved «from» to None f) (whole_is_read older)
whole_is_read (Deleted name ∷ older) = ap (λ f. with_at name None f) (whole_is_read older)
whole_is_read (Settled ∷ older) = whole_is_read older
whole_is_read (Spoilt name found ∷ older) = ap (λ x. with_at name x (files_left Every Whole older)) (all_of found) ∙ ap (λ f. with_at name found f) (whole_is_read older)
  where
    all_of : (x : Option (List ℕ)) → option_and_then (bytes_left Whole) x ≡ x
    all_of None = refl
    all_of (Some written) = refl
whole_is_read (HalfRenamed «from» to ∷ older) = whole_is_read older
whole_is_read (HalfDeleted name ∷ older) = whole_is_read older
