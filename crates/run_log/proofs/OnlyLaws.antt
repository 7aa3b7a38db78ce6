-- Files that keep the same commits and have no other.
use Rattle.std.specs.Prelude.{◌≡◌, ℕ, Option, Some, None, IsSome, refl}
use Rattle.std.proofs.Common.{inl, sym}
use Rattle.ix_base.specs.declared.file_name.FileName.TheVariants.{Commit}
use Rattle.ix_outside.specs.Files.{Files}
use Rattle.commit_point.specs.declared.heads.HeadSegment.{HeadSegment}
use Rattle.commit_point.specs.Holds.{AreKept, Lists}
use Rattle.commit_point.proofs.KeptLaws.{lists_there, there_by}
use Rattle.run_log.specs.Headline.{HasOnly}

pub none_of : {A : Type 0} (o : Option A) → (IsSome o → ⊥) → o ≡ None
none_of None h = refl
none_of (Some x) h = absurd (h refl)

pub only_itself : (files : Files) → HasOnly files files
only_itself files = record { kept = λ t there name of_t. refl; only = λ s there. there }

pub only_image : (files : Files) (images : Files → Type 0) → AreKept files images → (d : Files) → images d
    → HasOnly files d
only_image files images are d image = record { kept = are.kept d image; only = are.only d image }

-- what a commit of these lists, that of the first files lists
pub lists_back : (files d : Files) (t : ℕ) (e : HeadSegment) → HasOnly files d → Lists d t e → Lists files t e
lists_back files d t e has lists =
    let there = has.only t (there_by d t _ lists.has_head.file) in
    lists_there d files t e (sym (has.kept t there (Commit t) (inl refl))) lists

pub none_there : (files d : Files) (t : ℕ) → HasOnly files d → files (Commit t) ≡ None → d (Commit t) ≡ None
none_there files d t has gone = none_of (d (Commit t)) (λ there. let some = has.only t there in cc)
