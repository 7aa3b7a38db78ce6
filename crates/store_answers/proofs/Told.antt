-- What is told of a store's files.
use Rattle.std.proofs.Common.{◌≡◌, ℕ, List, Option, Some, subst}
use Rattle.std.specs.Prelude.{◌↔◌, Contains, IfSome, IsSome}
use Rattle.ix_base.specs.declared.file_name.FileName.TheVariants.{Commit}
use Rattle.ix_outside.specs.Files.{Files, Was}

-- the numbers are those of the commits, where these are told
abbrev pub Numbers : Option Files → List ℕ → Type 0
Numbers told numbers = IfSome told (λ files. (s : ℕ) → Contains numbers s ↔ IsSome (files (Commit s)))

pub same_files : (told : Option Files) (files seen : Files) → told ≡ Some files → Was told seen → files ≡ seen
same_files told files seen is was = subst (λ (o : Option Files). Was o seen) is was
