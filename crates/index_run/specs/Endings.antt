-- How a call ends by a fault.
use Rattle.std.specs.Prelude.{◌≡◌, ℕ, List, Option, Some, None, unwrap_or}
use Rattle.command_words.specs.declared.command.Command.{Command}
use Rattle.command_words.specs.declared.command.Command.TheVariants.{Ask, Make, Run}
use Rattle.command_words.specs.declared.command.Command.TheVariants as command
use Rattle.ix_outside.specs.Causes.{Rose}
use Rattle.ix_outside.specs.Disk.{Disk, told_files}
use Rattle.ix_outside.specs.Files.{Files, Was}
use Rattle.report_text.specs.Faults.{fault_text, status_of}
use Rattle.report_text.specs.declared.fault.Fault.{Fault}
use Rattle.report_text.specs.declared.fault.Fault.TheVariants as fault
use Rattle.store_answers.specs.Asking.{LacksAsked}
use Rattle.index_run.specs.Beginning.{IsHighBase}
use Rattle.index_run.specs.Commands.{IsBad}
use Rattle.index_run.specs.Damage.{FindsDamage, FindsDifference}

-- What a call met: its input and its store, the store that it left, and the counts of faults of its
-- source and its store, before and after.
pub record Met : Type 0 where
  pub input : Option (List ℕ)
  pub store : Option Disk
  pub left : Option Disk
  pub source_before : ℕ
  pub source_after : ℕ
  pub store_before : ℕ
  pub store_after : ℕ

-- the commit of this number is asked for, by its number or as the last one, and there is none
abbrev pub MissesCommit : Command → Option Files → ℕ → Type 0
MissesCommit (Run threads buffer merge keep) told number = ⊥
MissesCommit (Ask commit) told number =
    (number ≡ unwrap_or commit 0) × ((files : Files) → told ≡ Some files → LacksAsked files commit)
MissesCommit command.List told number = ⊥
MissesCommit command.Check told number = ⊥
MissesCommit (Make seed count callers) told number = ⊥

-- the last commit's number is this one and too high for a run
abbrev pub MeetsHighBase : Command → Option Files → ℕ → Type 0
MeetsHighBase (Run threads buffer merge keep) told base = IsHighBase told base
MeetsHighBase (Ask commit) told base = ⊥
MeetsHighBase command.List told base = ⊥
MeetsHighBase command.Check told base = ⊥
MeetsHighBase (Make seed count callers) told base = IsHighBase told base

-- the cause of each fault in a command
abbrev pub Caused : Command → Met → Fault → Type 0
Caused c met fault.Words = ⊥
Caused c met (fault.BadLine bad) = (bytes : List ℕ) × Was met.input bytes × IsBad c bytes bad
Caused c met fault.Source = Rose met.source_before met.source_after
Caused c met fault.Store = Rose met.store_before met.store_after
Caused c met (fault.Damaged damaged) = FindsDamage c met.input (told_files met.store) (told_files met.left) damaged
Caused c met (fault.NoSuch number) = MissesCommit c (told_files met.store) number
Caused c met (fault.Base base) = MeetsHighBase c (told_files met.store) base
Caused c met (fault.Differs file at found wanted) = FindsDifference c (told_files met.store) file at found wanted

-- the same of words that are a command or none
abbrev pub CausedBy : Option Command → Met → Fault → Type 0
CausedBy None met f = f ≡ fault.Words
CausedBy (Some c) met f = Caused c met f

-- The call ended by a fault: the status is its status, it has its cause, and of its text so much
-- was written as `wrote` says.
abbrev pub EndsBy : Option Command → Met → ℕ → (List ℕ → Type 0) → Type 0
EndsBy words met status wrote = (f : Fault) × (status_of f ≡ status) × CausedBy words met f × wrote (fault_text f)
