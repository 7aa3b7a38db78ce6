-- What a crash of a chosen outcome leaves of a store that was empty at first. The steps stand the newest first.
use Rattle.std.specs.Prelude.{ℕ, List, [], ◌∷◌, length, Option, Some, None, Bool, true, false, ◌==◌, ◌/◌, ◌%◌, take, option_and_then, if◌then◌else◌}
use Rattle.ix_outside.specs.Files.{Files}
use Rattle.ix_outside.specs.Disk.{Disk, with_at, moved, files as files_of}
use Rattle.ix_outside.specs.declared.step.Step.TheVariants.{Wrote, Synced, Renamed, Deleted, Settled, Spoilt, HalfRenamed, HalfDeleted}
use Rattle.ix_memory.specs.declared.outcome.StepsLeft.{StepsLeft}
use Rattle.ix_memory.specs.declared.outcome.StepsLeft.TheVariants.{Every, Nothing, Even, Odd}
use Rattle.ix_memory.specs.declared.outcome.BytesLeft.{BytesLeft}
use Rattle.ix_memory.specs.declared.outcome.BytesLeft.TheVariants.{Whole, Absent, Empty, Half}

-- which renames and deletes are left, by the choice
abbrev pub steps_of : ℕ → StepsLeft
steps_of choice = if choice % 4 == 0 then Every else (if choice % 4 == 1 then Nothing else (if choice % 4 == 2 then Even else Odd))

-- what is left of a file that wasn't synced, by the choice
abbrev pub bytes_of : ℕ → BytesLeft
bytes_of choice = if choice % 4 == 0 then Whole else (if choice % 4 == 1 then Absent else (if choice % 4 == 2 then Empty else Half))

-- a rename or delete with so many steps before it is there
abbrev pub leaves_step : StepsLeft → ℕ → Bool
leaves_step Every before = true
leaves_step Nothing before = false
leaves_step Even before = before % 2 == 0
leaves_step Odd before = before % 2 == 1

-- what is left of these bytes
abbrev pub bytes_left : BytesLeft → List ℕ → Option (List ℕ)
bytes_left Whole bytes = Some bytes
bytes_left Absent bytes = None
bytes_left Empty bytes = Some []
bytes_left Half bytes = Some (take (length bytes / 2) bytes)

-- the files that a crash of this outcome leaves
abbrev pub files_left : StepsLeft → BytesLeft → Disk → Files
files_left steps bytes [] = λ name. None
files_left steps bytes (Wrote name written ∷ older) =
    with_at name (bytes_left bytes written) (files_left steps bytes older)
files_left steps bytes (Synced name ∷ older) = with_at name (files_of older name) (files_left steps bytes older)
files_left steps bytes (Renamed «from» to ∷ older) =
    if leaves_step steps (length older) then moved «from» to None (files_left steps bytes older) else files_left steps bytes older
files_left steps bytes (Deleted name ∷ older) =
    if leaves_step steps (length older) then with_at name None (files_left steps bytes older) else files_left steps bytes older
files_left steps bytes (Settled ∷ older) = files_left Every bytes older
files_left steps bytes (Spoilt name found ∷ older) =
    with_at name (option_and_then (bytes_left bytes) found) (files_left steps bytes older)
files_left steps bytes (HalfRenamed «from» to ∷ older) = files_left steps bytes older
files_left steps bytes (HalfDeleted name ∷ older) = files_left steps bytes older
