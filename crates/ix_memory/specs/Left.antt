-- Where the search for the bytes of a file goes from a step.
use Rattle.std.specs.Prelude.{◌≡◌, ℕ, List, Option, Some, None}
use Rattle.ix_outside.specs.Disk.{Disk}
use Rattle.ix_memory.specs.History.{files_left}
use Rattle.ix_memory.specs.declared.left.Found.{Found}
use Rattle.ix_memory.specs.declared.left.Found.TheVariants.{Bytes, Absent, Before}

-- the file's bytes are those found, or as the steps before have left them
abbrev pub Goes : Disk → Option (List ℕ) → Found → Type 0
Goes older left (Bytes found) = left ≡ Some found.now
Goes older left Absent = left ≡ None
Goes older left (Before steps bytes name) = left ≡ files_left steps bytes older name
