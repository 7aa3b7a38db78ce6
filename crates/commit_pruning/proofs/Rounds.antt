-- Files that are deleted in two rounds, each of them put on the disk.
use Rattle.std.specs.Prelude.{◌≡◌, ◌⊎◌, List, [], ◌∷◌, ◌++◌, map}
use Rattle.std.proofs.Common.{inl, inr, refl, sym, subst, ap, ◌∙◌}
use Rattle.std.specs.List.{AllByRecursion}
use Rattle.ix_base.specs.declared.file_name.FileName.{FileName}
use Rattle.ix_outside.specs.Crash.{Settles}
use Rattle.ix_outside.specs.Files.{Files}
use Rattle.ix_outside.specs.Images.{MayHaveRemoved}
use Rattle.ix_outside.specs.declared.step.Step.{Step}
use Rattle.ix_outside.specs.declared.step.Step.TheVariants.{Deleted, Settled}
use Rattle.ix_outside.specs.Disk.{Disk, taken, Stops}
use Rattle.ix_outside.proofs.CrashLaws.{FollowsSteps}
use Rattle.ix_outside.proofs.DiskLaws.{taken_then}
use Rattle.commit_point.specs.Holds.{IsAmong}
use Rattle.commit_pruning.specs.Deleting.{prune_steps}
use Rattle.commit_pruning.proofs.Deletes.{deleted, deleting}

pub regrouped : (gone rest : List FileName) → prune_steps gone rest ≡ map Deleted gone ++ Settled ∷ (map Deleted rest ++ Settled ∷ [])
regrouped [] rest = refl
regrouped (n ∷ ns) rest = ap (λ (x : List Step). Deleted n ∷ x) (regrouped ns rest)

pub all_taken : (gone rest : List FileName) (old : Disk) → taken (prune_steps gone rest) old ≡ Settled ∷ taken (map Deleted rest) (Settled ∷ taken (map Deleted gone) old)
all_taken gone rest old =
    ap (λ (steps : List Step). taken steps old) (regrouped gone rest)
    ∙ (taken_then (map Deleted gone) (Settled ∷ (map Deleted rest ++ Settled ∷ [])) old
    ∙ taken_then (map Deleted rest) (Settled ∷ []) (Settled ∷ taken (map Deleted gone) old))

all_among : (names rest : List FileName) → ((name : FileName) → IsAmong names name → IsAmong rest name) → AllByRecursion (λ (n : FileName). IsAmong rest n) names
all_among [] rest each = tt
all_among (n ∷ ns) rest each = (each n (inl refl), all_among ns rest (λ name more. each name (inr more)))

all_within : (names : List FileName) → AllByRecursion (λ (n : FileName). IsAmong names n) names
all_within names = all_among names names (λ name among. among)

-- What holds of files lasts while files of the first list are deleted. Once that is on the disk the other holds, and it
-- lasts while files of the second list are deleted.
pub record Lasts (gone rest : List FileName) (old : Disk) (P Q : Files → Type 0) : Type 0 where
  pub first : (n : FileName) → IsAmong gone n → (d c : Files) → P d → MayHaveRemoved n d c → P c
  pub between : (d c : Files) → P d → Settles (taken (map Deleted gone) old) d c → Q c
  pub second : (n : FileName) → IsAmong rest n → (d c : Files) → Q d → MayHaveRemoved n d c → Q c

-- after the first round
abbrev pub midway : List FileName → Disk → Disk
midway gone old = Settled ∷ taken (map Deleted gone) old

module _ (Sees : Disk → Files → Type 0) (follows : FollowsSteps Sees) (gone rest : List FileName) (old : Disk) (P Q : Files → Type 0) (lasts : Lasts gone rest old P Q) (begins : (c : Files) → Sees old c → P c) where
  pub in_first : (c : Files) → Sees (taken (map Deleted gone) old) c → P c
  in_first = deleted Sees follows P (IsAmong gone) lasts.first gone (all_within gone) old begins

  settled : (c : Files) → Sees (midway gone old) c → Q c
  settled c sees =
      let before = follows Settled (taken (map Deleted gone) old) c sees in
      lasts.between before.0 c (in_first before.0 before.1) before.2

  pub in_second : (c : Files) → Sees (taken (map Deleted rest) (midway gone old)) c → Q c
  in_second = deleted Sees follows Q (IsAmong rest) lasts.second rest (all_within rest) (midway gone old) settled

  pub at_end : (c : Files) → Sees (Settled ∷ taken (map Deleted rest) (midway gone old)) c → Q c
  at_end c sees =
      let before = follows Settled (taken (map Deleted rest) (midway gone old)) c sees in
      subst Q (sym before.2.same) (in_second before.0 before.1)

  -- once all steps were taken
  pub in_end : (c : Files) → Sees (taken (prune_steps gone rest) old) c → Q c
  in_end c sees = at_end c (subst (λ (x : Disk). Sees x c) (all_taken gone rest old) sees)

  stopped : (at : Disk) → Stops (map Deleted gone ++ Settled ∷ (map Deleted rest ++ Settled ∷ [])) old at → (c : Files) → Sees at c → P c ⊎ Q c
  stopped at stops =
      tell (deleting Sees follows P (IsAmong gone) lasts.first gone (all_within gone) (Settled ∷ (map Deleted rest ++ Settled ∷ [])) old at begins stops)
    where
      last : ((c : Files) → Sees at c → Q c) ⊎ Stops (Settled ∷ []) (taken (map Deleted rest) (midway gone old)) at → (c : Files) → Sees at c → P c ⊎ Q c
      last (inl all) = λ c sees. inr (all c sees)
      last (inr (inl (inl same))) = λ c sees. inr (in_second c (subst (λ (y : Disk). Sees y c) same sees))
      last (inr (inl (inr part))) = absurd part.1
      last (inr (inr is)) = λ c sees. inr (at_end c (subst (λ (y : Disk). Sees y c) is sees))

      tell : ((c : Files) → Sees at c → P c) ⊎ Stops (Settled ∷ (map Deleted rest ++ Settled ∷ [])) (taken (map Deleted gone) old) at → (c : Files) → Sees at c → P c ⊎ Q c
      tell (inl all) = λ c sees. inl (all c sees)
      tell (inr (inl (inl same))) = λ c sees. inl (in_first c (subst (λ (y : Disk). Sees y c) same sees))
      tell (inr (inl (inr part))) = absurd part.1
      tell (inr (inr later)) = last (deleting Sees follows Q (IsAmong rest) lasts.second rest (all_within rest) (Settled ∷ []) (midway gone old) at settled later)

  -- wherever the steps stop
  pub in_stop : (at : Disk) → Stops (prune_steps gone rest) old at → (c : Files) → Sees at c → P c ⊎ Q c
  in_stop at stops = stopped at (subst (λ (steps : List Step). Stops steps old at) (regrouped gone rest) stops)
