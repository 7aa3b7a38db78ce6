-- Reading a file's fields from left to right, and the first broken place of a file. A broken field is
-- told by how many bytes are left from its first byte on.
use Rattle.std.specs.Prelude.{◌≡◌, ⊤, ℕ, ◌-◌, List, length, take, drop, Bool, Option, Some, None, Result, Ok, Err, ◌==◌, if◌then◌else◌}
use Rattle.std.specs.Int.{Width}
use Rattle.std.specs.Str.{bytes_eq}
use Rattle.ix_base.specs.Codec.{◌>>=◌, number_at, name_at}
use Rattle.ix_base.specs.declared.file_name.FileName.{FileName}
use Rattle.ix_base.specs.declared.damaged.Damaged.{Damaged}
use Rattle.ix_base.specs.declared.damaged.FileFault.{FileFault}
use Rattle.ix_base.specs.declared.damaged.FileFault.TheVariants as faults

-- ---- fields

-- a number that passes a test
abbrev pub number_where : Width → (ℕ → Bool) → List ℕ → Result (ℕ × List ℕ) ℕ
number_where w test bytes = do
  n ← number_at w bytes
  if test n.0 then Ok n else Err (length bytes)

-- a name that passes a test
abbrev pub name_where : (List ℕ → Bool) → List ℕ → Result (List ℕ × List ℕ) ℕ
name_where test bytes = do
  name ← name_at bytes
  if test name.0 then Ok name else Err (length bytes)

-- the eight bytes that a file begins with; what is read is the bytes after them
unfoldable pub mark_at : List ℕ → List ℕ → Result (List ℕ) ℕ
mark_at mark bytes = if bytes_eq (take 8 bytes) mark then Ok (drop 8 bytes) else Err (length bytes)

-- a file ends right after its last field
abbrev pub ended : {A : Type 0} → A → List ℕ → Result A ℕ
ended x rest = if length rest == 0 then Ok x else Err (length rest)

-- ---- files

-- What a function returned, seen by view, is what reading gives, unless memory ran out.
abbrev pub FailsFile : {Y : Type 0} → FileFault → Result Y Damaged → Type 0
FailsFile faults.NoMemory read = ⊤
FailsFile (faults.Damaged d) read = read ≡ Err d

abbrev pub GivesFile : {X Y : Type 0} → (X → Y) → Result X FileFault → Result Y Damaged → Type 0
GivesFile view (Ok x) read = read ≡ Ok (view x)
GivesFile view (Err e) read = FailsFile e read

-- one file after another: the second is read where the first is whole
infixl 10 ◌then◌
abbrev pub ◌then◌ : {A B : Type 0} → Result A Damaged → (A → Result B Damaged) → Result B Damaged
(Ok x) then f = f x
(Err d) then f = Err d

-- the first broken place of these bytes is where so many are left
abbrev pub placed : {A : Type 0} → FileName → List ℕ → Result A ℕ → Result A Damaged
placed name bytes (Ok x) = Ok x
placed name bytes (Err left) = Err (record { file = name; at = length bytes - left })

-- an absent file is broken at 0
abbrev pub of_file : {A : Type 0} → FileName → (List ℕ → Result A ℕ) → Option (List ℕ) → Result A Damaged
of_file name read None = Err (record { file = name; at = 0 })
of_file name read (Some bytes) = placed name bytes (read bytes)
