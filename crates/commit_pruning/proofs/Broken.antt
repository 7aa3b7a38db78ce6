-- What a read of a commit file tells of the files.
use Rattle.std.proofs.Common.{◌≡◌, ◌∙◌, ℕ, List, Option, Some, None, Result, Ok, Err, refl, sym, ap, subst}
use Rattle.std.specs.Prelude.{IfOk}
use Rattle.ix_base.specs.FileReading.{of_file, placed}
use Rattle.ix_base.specs.declared.damaged.Damaged.{Damaged}
use Rattle.ix_base.specs.declared.file_name.FileName.TheVariants.{Commit}
use Rattle.ix_outside.specs.Files.{Files, Reads}
use Rattle.commit_point.specs.declared.heads.Head.{Head}
use Rattle.commit_point.specs.Fits.{HeadFits}
use Rattle.commit_point.specs.Holds.{HasHead}
use Rattle.commit_point.specs.Reading.{head_from, head_in}
use Rattle.commit_point.specs.Spelling.{commit_file}
use Rattle.commit_pruning.specs.Pruning.{IsBrokenCommit}
use Rattle.commit_pruning.specs.declared.fault.PruningFault.{PruningFault}

pub head_found : (told : Option Files) (s : ℕ) (bytes items : List ℕ) (r : Result Head PruningFault) → items ≡ bytes → Reads told (Commit s) (Some bytes)
    → IfOk r (λ head. (head.number ≡ s) × HeadFits head × (items ≡ commit_file head)) → (files : Files) → told ≡ Some files → IfOk r (HasHead files s)
head_found told s bytes items (Err fault) same seen found files is = tt
head_found told s bytes items (Ok head) same seen found files is =
    let at : Some bytes ≡ files (Commit s) = subst (λ (o : Option Files). Reads o (Commit s) (Some bytes)) is seen in
    record { file = sym at ∙ ap Some (sym same ∙ found.2); number = found.0; fits = found.1 }

-- what a read gave is broken here
commit_broken : (told : Option Files) (s : ℕ) (found : Option (List ℕ)) (damaged : Damaged) → Reads told (Commit s) found
    → of_file (Commit s) (head_in s) found ≡ Err damaged → IsBrokenCommit told s damaged
unfolding head_from
commit_broken None s found damaged seen broken = ((λ name. found), tt, broken)
commit_broken (Some files) s found damaged seen broken =
    (files, refl, subst (λ (o : Option (List ℕ)). of_file (Commit s) (head_in s) o ≡ Err damaged) seen broken)

pub bytes_broken : (told : Option Files) (s : ℕ) (bytes items : List ℕ) (damaged : Damaged) → items ≡ bytes → Reads told (Commit s) (Some bytes)
    → placed (Commit s) items (head_in s items) ≡ Err damaged → IsBrokenCommit told s damaged
bytes_broken told s bytes items damaged same seen broken =
    commit_broken told s (Some bytes) damaged seen (subst (λ (l : List ℕ). placed (Commit s) l (head_in s l) ≡ Err damaged) same broken)

pub absent_broken : (told : Option Files) (s : ℕ) (damaged : Damaged) → (damaged ≡ record { file = Commit s; at = 0 }) × Reads told (Commit s) None
    → IsBrokenCommit told s damaged
absent_broken told s damaged absent = commit_broken told s None damaged absent.1 (ap Err (sym absent.0))
