-- What a directory is opened for, and whether its lock is held.
use Rattle.std.specs.Prelude.{⊤}
use Rattle.ix_outside.specs.declared.lock.Access.{Access}
use Rattle.ix_outside.specs.declared.lock.Access.TheVariants.{OnlyReading, Unlocked, Locked}

-- files are read and changed, and the lock is held
abbrev pub IsLocked : {F : Type 0} → Access F → Type 0
IsLocked OnlyReading = ⊥
IsLocked Unlocked = ⊥
IsLocked (Locked file) = ⊤

-- the lock is still to be taken
abbrev pub LacksLock : {F : Type 0} → Access F → Type 0
LacksLock OnlyReading = ⊥
LacksLock Unlocked = ⊤
LacksLock (Locked file) = ⊥

-- files are only read, and no lock is taken
abbrev pub OnlyReads : {F : Type 0} → Access F → Type 0
OnlyReads OnlyReading = ⊤
OnlyReads Unlocked = ⊥
OnlyReads (Locked file) = ⊥
