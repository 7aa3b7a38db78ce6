-- Which values have a spelling in a commit file: so that one file spells one value.
use Rattle.std.specs.Prelude.{◌≡◌, ℕ, ◌+◌, ◌<◌, ◌≤◌, ◌^◌, List, [], ◌∷◌, length, ⊤}
use Rattle.std.specs.List.{AllByRecursion}
use Rattle.segment_files.specs.Fits.{PairsFit}
use Rattle.commit_point.specs.declared.heads.CommitFormat.TheVariants.{First}
use Rattle.commit_point.specs.declared.heads.HeadSegment.{HeadSegment}
use Rattle.commit_point.specs.declared.heads.Head.{Head}

-- ids rise, from some number up to below a limit
abbrev pub IdsRise : ℕ → ℕ → List HeadSegment → Type 0
IdsRise low limit [] = ⊤
IdsRise low limit (e ∷ es) = (low ≤ e.id) × (e.id < limit) × IdsRise (e.id + 1) limit es

-- a segment has at least one row, and its live bits and values were written with this commit or an earlier one
pub record EntryFits (s : ℕ) (e : HeadSegment) : Type 0 where
  pub rows : 1 ≤ e.rows
  pub count : e.rows < 2 ^ 32
  pub some : 1 ≤ e.written
  pub not_later : e.written ≤ s

-- a commit file: ids rise below the next id, which is from 1 to 2^62; names rise, and in the first form none stands
pub record HeadFits (head : Head) : Type 0 where
  pub some : 1 ≤ head.number
  pub number : head.number < 2 ^ 64
  pub docs : head.docs < 2 ^ 64
  pub next_some : 1 ≤ head.next_id
  pub next : head.next_id ≤ 2 ^ 62
  pub count : length head.segments < 2 ^ 64
  pub ids : IdsRise 1 head.next_id head.segments
  pub entries : AllByRecursion (EntryFits head.number) head.segments
  pub pairs : PairsFit head.pairs
  pub first : head.format ≡ First → head.pairs ≡ []
