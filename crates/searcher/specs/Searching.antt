-- What a search has of a commit.
use Rattle.std.specs.Prelude.{◌≡◌, ℕ, List, Option, Err}
use Rattle.ix_base.specs.declared.damaged.Damaged.{Damaged}
use Rattle.ix_base.specs.declared.document.Row.{Row}
use Rattle.ix_outside.specs.Files.{Files, Was}
use Rattle.segment_core.specs.LiveRows.{Lived}
use Rattle.commit_point.specs.Holds.{AreRowsOf, AreInverted}
use Rattle.commit_point.specs.Reading.{reading}

-- These are all live rows of these segments, by birth, and the postings of each segment are the inversion of its rows.
pub record Searches (segments : List Lived) (rows : List Row) : Type 0 where
  pub number : ℕ
  pub rows_are : AreRowsOf number segments rows
  pub inverted : AreInverted segments

-- the commit of this number is first broken at this place
abbrev pub IsDamagedIn : Option Files → ℕ → Damaged → Type 0
IsDamagedIn told number damaged = (files : Files) × Was told files × (reading files number ≡ Err damaged)
