-- A merge that reads all segments of a list.
use Rattle.std.specs.Prelude.{◌≡◌, ℕ, List, map}
use Rattle.segment_core.specs.LiveRows.{Lived}
use Rattle.merge_core.specs.Merging.{AreAt, CanMerge, IdsRise, row_count}
use Rattle.merge_core.specs.Reading.{HasRead}
use Rattle.merge_core.specs.declared.merge.Merge.{Merge}
use Rattle.merge_core.specs.declared.merge.Step.{Step}
use Rattle.merge_core.specs.declared.merge.Step.TheVariants.{More, Ready}

abbrev pub ids_in : List Lived → List ℕ
ids_in segments = map (λ (s : Lived). s.segment.id) segments

-- The segments can be merged: their ids rise, and the operations up to one number are in each.
pub record AreSources (segments : List Lived) : Type 0 where
  pub rise : IdsRise segments
  pub can : CanMerge segments
  pub applied : ℕ
  pub same : AreAt applied segments

-- The merge has read so many rows of these segments.
pub record Reads (m : Merge) (segments : List Lived) (count : ℕ) : Type 0 where
  pub rise : IdsRise segments
  pub ids : m.ids.items ≡ ids_in segments
  pub read : HasRead m segments count
  pub applied : ℕ
  pub same : AreAt applied segments

-- a number of rows was read, and in the end all
abbrev pub AfterStep : Merge → List Lived → Step → Type 0
AfterStep m segments More = (count : ℕ) × Reads m segments count
AfterStep m segments Ready = Reads m segments (row_count segments)
