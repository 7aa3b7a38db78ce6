-- The end of a round, after which segments may have been merged.
use Rattle.std.specs.Prelude.{◌≡◌, false, ℕ, ◌+◌, ◌*◌, ◌≤◌, List, [], length, slice_index_or}
use Rattle.ix_base.specs.Steps.{after}
use Rattle.ix_base.specs.declared.document.Row.{Row}
use Rattle.ix_outside.specs.Files.{Files}
use Rattle.row_fates.specs.Fate.{Numbered}
use Rattle.round_order.specs.Order.{Working, seconds, told_of}
use Rattle.index_writer.specs.declared.round.RoundEnd.{RoundEnd}
use Rattle.index_writer.specs.declared.state.State.{State}
use Rattle.index_writer.specs.Ready.{HasRows, IsStored}
use Rattle.index_writer.specs.Rounds.{EndsBy}

-- A round ended: what its writers were told is one order of operations, numbered on from those before, and the segments
-- have the rows that these leave. What is on the store of segments still stands there. It takes two ids for each
-- operation, at most: one for the segment that its row is in, and one for what that is merged into.
pub record EndsMerged (told : List (List Numbered)) (end : RoundEnd) (old new : State) : Type 0 where
  pub ts : List Working
  pub order : (i : ℕ) → told_of i old.published.upto ts ≡ slice_index_or told i []
  pub upto : new.published.upto ≡ old.published.upto + length ts
  pub rows : (rows : List Row) → HasRows old rows → HasRows new (after rows old.published.upto (seconds ts))
  pub stored : (files : Files) → IsStored files old → IsStored files new
  pub ids : old.published.next_id ≤ new.published.next_id
  pub few : new.published.next_id ≤ old.published.next_id + 2 * length ts
  pub by_end : EndsBy end (seconds ts) new
  pub out : new.out ≡ false
  pub last : new.last ≡ old.last
  pub since : new.since ≡ old.since
  pub closed : new.closed ≡ old.closed
