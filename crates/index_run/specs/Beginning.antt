-- What a run begins on.
use Rattle.std.specs.Prelude.{◌≡◌, ℕ, ◌-◌, ◌<◌, ◌≤◌, ◌^◌, List, length, Option, Some, None}
use Rattle.std.specs.Prelude.{Result, Ok, Err, slice_get, unwrap_or}
use Rattle.ix_base.specs.declared.damaged.Damaged.{Damaged}
use Rattle.ix_outside.specs.Files.{Files, Was}
use Rattle.segment_core.specs.LiveRows.{Lived}
use Rattle.commit_point.specs.declared.heads.HeadSegment.{HeadSegment}
use Rattle.commit_point.specs.Holds.{HasSegments}
use Rattle.commit_point.specs.declared.open.Opened.{Opened}
use Rattle.searcher.specs.Searching.{IsDamagedIn}
use Rattle.index_writer.specs.declared.state.State.{State}
use Rattle.index_writer.specs.Ready.{IsStored}
use Rattle.run_log.specs.Headline.{Given, IsLast, IsOn}
use Rattle.index_run.specs.declared.begin.Unbegun.{Unbegun}
use Rattle.index_run.specs.declared.stop.Stop.{Stop}

-- the writer is on the commit that is given, or on none
pub record BeginsOn (g : Given) (w : State) : Type 0 where
  pub number : w.published.upto ≡ g.base
  pub next_id : w.published.next_id ≡ g.next
  pub stored : IsStored g.files w

-- the last commit's number is this one, or there is no commit and it is 0
abbrev pub IsBase : Option Files → ℕ → Type 0
IsBase told base = (files : Files) × Was told files × IsLast files base

-- the last commit's number is this one, and above 2^61
abbrev pub IsHighBase : Option Files → ℕ → Type 0
IsHighBase told base = IsBase told base × (2 ^ 61 < base)

-- the last commit's number is this one, and the commit is first broken at this place
pub record IsDamagedBase (told : Option Files) (base : ℕ) (damaged : Damaged) : Type 0 where
  pub last : IsBase told base
  pub some : 1 ≤ base
  pub broken : IsDamagedIn told base damaged

-- A run begins on these files: they have no commit, or the last one is in the grammar and its number leaves room.
abbrev pub CanBeginOn : Files → Type 0
CanBeginOn files = (g : Given) × (g.files ≡ files) × IsLast g.files g.base × IsOn g × (g.base ≤ 2 ^ 61)

-- the last of a list, or 0
abbrev pub last_or_zero : List ℕ → ℕ
last_or_zero numbers = unwrap_or (slice_get numbers (length numbers - 1)) 0

-- The files spell this commit, and its number leaves room for a run.
pub record IsSpelled (files : Files) (opened : Opened) : Type 0 where
  pub some : 1 ≤ opened.number
  pub room : opened.number ≤ 2 ^ 61
  pub spelled : HasSegments files opened.number opened.next_id opened.entries opened.segments

-- what was read is the last commit, or there is none
abbrev pub IsOpened : Option Files → Option Opened → Type 0
IsOpened told None = IsBase told 0
IsOpened told (Some opened) = IsBase told opened.number × ((files : Files) × Was told files × IsSpelled files opened)

-- What was read is what the files spell of the commit that is given.
pub record IsGivenCommit (g : Given) (opened : Opened) : Type 0 where
  pub some : 1 ≤ g.base
  pub is : (entries : List HeadSegment) (segments : List Lived)
      → HasSegments g.files g.base g.next entries segments → opened
      ≡ record { number = g.base; next_id = g.next; entries = entries; segments = segments }

-- what was read is the commit that is given, or none is given
abbrev pub OpensOn : Given → Option Opened → Type 0
OpensOn g None = g.base ≡ 0
OpensOn g (Some opened) = IsGivenCommit g opened

-- it stopped for this
abbrev pub StopsWith : {W S : Type 0} → Result W (Unbegun S) → Stop → Type 0
StopsWith (Ok writer) stop = ⊥
StopsWith (Err unbegun) stop = unbegun.stop ≡ stop
