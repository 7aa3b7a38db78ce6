-- Words for what a crash may leave: a predicate on files.
use Rattle.std.specs.Prelude.{◌≡◌, ◌⊎◌, Option, Some, None, ⊤}
use Rattle.ix_base.specs.declared.file_name.FileName.{FileName}
use Rattle.ix_outside.specs.Files.{Files, Renames, Removes}

-- each new image is an old one after a step
abbrev pub Follows : (Files → Files → Type 0) → (Files → Type 0) → (Files → Type 0) → Type 0
Follows step old new = (c : Files) → new c → (d : Files) × old d × step d c

abbrev pub MayHaveRenamed : FileName → FileName → Files → Files → Type 0
MayHaveRenamed «from» to old new = (Renames «from» to old new) ⊎ (new ≡ old)

abbrev pub MayHaveRemoved : FileName → Files → Files → Type 0
MayHaveRemoved name old new = (Removes name old new) ⊎ (new ≡ old)

-- the file stands in each image as reads give it
abbrev pub IsDurable : FileName → (Files → Type 0) → Option Files → Type 0
IsDurable name images None = ⊤
IsDurable name images (Some files) = (c : Files) → images c → c name ≡ files name

-- a step from one of these files led to c
abbrev pub Reaches : (Files → Files → Type 0) → (Files → Type 0) → Files → Type 0
Reaches step before c = (d : Files) × before d × step d c
