-- What a crash leaves at some moment of several calls of a store.
use Rattle.std.specs.Prelude.{Option}
use Rattle.ix_outside.specs.Files.{Files}
use Rattle.ix_outside.specs.Disk.{Disk, Told}
use Rattle.ix_outside.specs.Crash.{Extends, MayLeave}

-- The calls only took steps, and a crash at any moment from the old disk to the new leaves files that have P.
abbrev pub OnlyLeaves : (Files → Type 0) → Disk → Disk → Type 0
OnlyLeaves P old new = Extends old new × ((c : Files) → MayLeave old new c → P c)

-- the same where a store tells
abbrev pub LeavesOnly : Option Disk → Option Disk → (Files → Type 0) → Type 0
LeavesOnly old new P = Told (OnlyLeaves P) old new
