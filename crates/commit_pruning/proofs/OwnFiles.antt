-- Which files are those of commits that stay.
use Rattle.std.specs.Prelude.{◌≡◌, ℕ, List, Option, Some, None, IsSome, true, false, Bool}
use Rattle.std.proofs.Common.{◌⊎◌, inl, inr, refl, subst, sym, ap, ◌∙◌}
use Rattle.ix_base.specs.declared.file_name.FileName.{FileName}
use Rattle.ix_base.specs.declared.file_name.FileName.TheVariants.{Commit}
use Rattle.ix_outside.specs.Files.{Files}
use Rattle.commit_point.specs.declared.heads.HeadSegment.{HeadSegment}
use Rattle.commit_point.specs.Holds.{IsAmong, IsFileOf, names_of}

-- ---- a file that is there

pub no_some : (o : Option (List ℕ)) → o ≡ None → ¬ IsSome o
no_some None e some = cc
no_some (Some x) e some = cc

pub none_or_some : (o : Option (List ℕ)) → (o ≡ None) ⊎ IsSome o
none_or_some None = inl refl
none_or_some (Some x) = inr refl

-- ---- names of files of commits

pub is_commit : FileName → Bool
is_commit (Commit s) = true
is_commit other = false

pub no_commit_among : (e : HeadSegment) (s : ℕ) → ¬ IsAmong (names_of e) (Commit s)
unfolding is_commit
no_commit_among e s (inl same) = let x : true ≡ false = ap is_commit same in cc
no_commit_among e s (inr (inl same)) = let x : true ≡ false = ap is_commit same in cc
no_commit_among e s (inr (inr (inl same))) = let x : true ≡ false = ap is_commit same in cc
no_commit_among e s (inr (inr (inr (inl same)))) = let x : true ≡ false = ap is_commit same in cc
no_commit_among e s (inr (inr (inr (inr none)))) = none

pub commit_number : FileName → ℕ
commit_number (Commit s) = s
commit_number other = 0

pub same_number : (s t : ℕ) → Commit s ≡ Commit t → s ≡ t
unfolding commit_number
same_number s t e = ap commit_number e

-- of the files of a commit its commit file alone has a name of a commit file
pub own_commit : (old : Files) (s t : ℕ) → IsFileOf old s (Commit t) → t ≡ s
own_commit old s t (inl same) = same_number t s same
own_commit old s t (inr (e, lists, among)) = absurd (no_commit_among e t among)

-- which files a commit has is told by its commit file
pub file_of_same : (old new : Files) (s : ℕ) (name : FileName) → new (Commit s) ≡ old (Commit s) → IsFileOf new s name → IsFileOf old s name
file_of_same old new s name same (inl is) = inl is
file_of_same old new s name same (inr (e, lists, among)) =
    inr (e, record { head = lists.head; has_head = record { file = sym same ∙ lists.has_head.file; number = lists.has_head.number; fits = lists.has_head.fits }; listed = lists.listed }, among)

-- ---- what is deleted, by lists of names

-- each of the names is that of a commit file
abbrev pub AreCommitNames : List FileName → Type 0
AreCommitNames gone = (name : FileName) → IsAmong gone name → (s : ℕ) × (name ≡ Commit s)

-- The first names are those of commit files that are there. No file of a commit that stays is among the others, nor is
-- any commit file.
pub record CanPrune (files : Files) (gone rest : List FileName) : Type 0 where
  pub commits : AreCommitNames gone
  pub there : (s : ℕ) → IsAmong gone (Commit s) → IsSome (files (Commit s))
  pub no_commits : (s : ℕ) → ¬ IsAmong rest (Commit s)
  pub unlisted : (s : ℕ) → IsSome (files (Commit s)) → ¬ IsAmong gone (Commit s) → (name : FileName) → IsFileOf files s name → ¬ IsAmong rest name

pub not_gone : (files : Files) (gone : List FileName) → AreCommitNames gone → (s : ℕ) → ¬ IsAmong gone (Commit s) → (name : FileName) → IsFileOf files s name → ¬ IsAmong gone name
not_gone files gone commits s out name is among =
    let c = commits name among in
    let own : c.0 ≡ s = own_commit files s c.0 (subst (IsFileOf files s) c.1 is) in
    out (subst (IsAmong gone) (c.1 ∙ ap Commit own) among)
