-- Files that are deleted one by one.
use Rattle.std.specs.Prelude.{◌≡◌, ◌≢◌, ◌⊎◌, List, [], ◌∷◌, ◌++◌, map, None, true, false, Bool, refl}
use Rattle.std.proofs.Common.{inl, inr, subst, ap, ◌∙◌}
use Rattle.std.specs.List.{AllByRecursion}
use Rattle.ix_base.specs.declared.file_name.FileName.{FileName}
use Rattle.ix_outside.specs.Files.{Files}
use Rattle.ix_outside.specs.Images.{MayHaveRemoved}
use Rattle.ix_outside.specs.declared.step.Step.{Step}
use Rattle.ix_outside.specs.declared.step.Step.TheVariants.{Deleted, HalfDeleted}
use Rattle.ix_outside.specs.Disk.{Disk, is_same, files, is_unsynced, taken, Stops}
use Rattle.ix_outside.proofs.CrashLaws.{FollowsSteps, is_same-true, is_same-refl, with_at-same, with_at-other}
use Rattle.commit_point.specs.Holds.{IsAmong}

-- names are the same or apart
pub same_or_apart : (a b : FileName) → (a ≡ b) ⊎ (a ≢ b)
same_or_apart a b = tell (is_same a b) refl
  where
    differ : (e : is_same a b ≡ false) → a ≢ b
    differ e same = let t : is_same a b ≡ true = subst (λ (n : FileName). is_same a n ≡ true) same (is_same-refl a) in cc (t, e)

    tell : (x : Bool) → is_same a b ≡ x → (a ≡ b) ⊎ (a ≢ b)
    tell true e = inl (is_same-true a b e)
    tell false e = inr (differ e)

pub among_or_not : (names : List FileName) (name : FileName) → IsAmong names name ⊎ (¬ IsAmong names name)
among_or_not [] name = inr (λ none. none)
among_or_not (n ∷ ns) name = first (same_or_apart name n) (among_or_not ns name)
  where
    first : (name ≡ n) ⊎ (name ≢ n) → IsAmong ns name ⊎ (¬ IsAmong ns name) → IsAmong (n ∷ ns) name ⊎ (¬ IsAmong (n ∷ ns) name)
    first (inl same) more = inl (inl same)
    first (inr apart) (inl in') = inl (inr in')
    first (inr apart) (inr out) = inr none
      where
        none : ¬ IsAmong (n ∷ ns) name
        none (inl same) = apart same
        none (inr more) = out more

-- ---- what is seen, by a property that each delete keeps

module _ (Sees : Disk → Files → Type 0) (follows : FollowsSteps Sees) (P : Files → Type 0) (Ok : FileName → Type 0) (removed : (n : FileName) → Ok n → (d c : Files) → P d → MayHaveRemoved n d c → P c) where
  one : (n : FileName) → Ok n → (disk : Disk) → ((d : Files) → Sees disk d → P d) → (c : Files) → Sees (Deleted n ∷ disk) c → P c
  one n ok disk all c sees = let before = follows (Deleted n) disk c sees in removed n ok before.0 c (all before.0 before.1) before.2

  half : (n : FileName) → Ok n → (disk : Disk) → ((d : Files) → Sees disk d → P d) → (c : Files) → Sees (HalfDeleted n ∷ disk) c → P c
  half n ok disk all c sees = let before = follows (HalfDeleted n) disk c sees in removed n ok before.0 c (all before.0 before.1) before.2

  -- all were deleted
  pub deleted : (names : List FileName) → AllByRecursion Ok names → (disk : Disk) → ((d : Files) → Sees disk d → P d) → (c : Files) → Sees (taken (map Deleted names) disk) c → P c
  deleted [] ok disk all = all
  deleted (n ∷ ns) ok disk all = deleted ns ok.1 (Deleted n ∷ disk) (one n ok.0 disk all)

  -- it stopped among the deletes, or behind them
  pub deleting : (names : List FileName) → AllByRecursion Ok names → (more : List Step) (disk at : Disk) → ((d : Files) → Sees disk d → P d) → Stops (map Deleted names ++ more) disk at
      → ((c : Files) → Sees at c → P c) ⊎ Stops more (taken (map Deleted names) disk) at
  deleting [] ok more disk at all stops = inr stops
  deleting (n ∷ ns) ok more disk at all (inl (inl same)) = inl (λ c sees. all c (subst (λ (x : Disk). Sees x c) same sees))
  deleting (n ∷ ns) ok more disk at all (inl (inr (part, inl is, at_is))) = inl (λ c sees. one n ok.0 disk all c (subst (λ (x : Disk). Sees x c) (at_is ∙ ap (λ (p : Step). p ∷ disk) is) sees))
  deleting (n ∷ ns) ok more disk at all (inl (inr (part, inr is, at_is))) = inl (λ c sees. half n ok.0 disk all c (subst (λ (x : Disk). Sees x c) (at_is ∙ ap (λ (p : Step). p ∷ disk) is) sees))
  deleting (n ∷ ns) ok more disk at all (inr later) = deleting ns ok.1 more (Deleted n ∷ disk) at (one n ok.0 disk all) later

-- ---- what reads give

pub stays_none : (names : List FileName) (disk : Disk) (name : FileName) → files disk name ≡ None → files (taken (map Deleted names) disk) name ≡ None
stays_none [] disk name none = none
stays_none (n ∷ ns) disk name none = stays_none ns (Deleted n ∷ disk) name (tell (same_or_apart name n))
  where
    tell : (name ≡ n) ⊎ (name ≢ n) → files (Deleted n ∷ disk) name ≡ None
    tell (inl same) = subst (λ (x : FileName). files (Deleted x ∷ disk) name ≡ None) same (with_at-same name None (files disk))
    tell (inr apart) = with_at-other n name None (files disk) apart ∙ none

pub are_none : (names : List FileName) (disk : Disk) (name : FileName) → IsAmong names name → files (taken (map Deleted names) disk) name ≡ None
are_none [] disk name none = absurd none
are_none (n ∷ ns) disk name (inl same) = stays_none ns (Deleted n ∷ disk) name (subst (λ (x : FileName). files (Deleted x ∷ disk) name ≡ None) same (with_at-same name None (files disk)))
are_none (n ∷ ns) disk name (inr more) = are_none ns (Deleted n ∷ disk) name more

pub others_stay : (names : List FileName) (disk : Disk) (name : FileName) → ¬ IsAmong names name → files (taken (map Deleted names) disk) name ≡ files disk name
others_stay [] disk name out = refl
others_stay (n ∷ ns) disk name out = others_stay ns (Deleted n ∷ disk) name (λ more. out (inr more)) ∙ with_at-other n name None (files disk) (λ same. out (inl same))

-- ---- a deleted file isn't unsynced

stays_synced : (names : List FileName) (disk : Disk) (name : FileName) → is_unsynced disk name ≡ false → is_unsynced (taken (map Deleted names) disk) name ≡ false
stays_synced [] disk name none = none
stays_synced (n ∷ ns) disk name none = stays_synced ns (Deleted n ∷ disk) name (tell (same_or_apart name n))
  where
    tell : (name ≡ n) ⊎ (name ≢ n) → is_unsynced (Deleted n ∷ disk) name ≡ false
    tell (inl same) = subst (λ (x : FileName). is_unsynced (Deleted x ∷ disk) name ≡ false) same (with_at-same name false (is_unsynced disk))
    tell (inr apart) = with_at-other n name false (is_unsynced disk) apart ∙ none

pub are_synced : (names : List FileName) (disk : Disk) (name : FileName) → IsAmong names name → is_unsynced (taken (map Deleted names) disk) name ≡ false
are_synced [] disk name none = absurd none
are_synced (n ∷ ns) disk name (inl same) = stays_synced ns (Deleted n ∷ disk) name (subst (λ (x : FileName). is_unsynced (Deleted x ∷ disk) name ≡ false) same (with_at-same name false (is_unsynced disk)))
are_synced (n ∷ ns) disk name (inr more) = are_synced ns (Deleted n ∷ disk) name more
