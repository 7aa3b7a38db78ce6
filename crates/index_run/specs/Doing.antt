-- What a run does to its writer, and what it begins on.
use Rattle.std.specs.Prelude.{◌≡◌, ◌+◌, ◌*◌, ◌≤◌, ◌^◌, List, length, None, false}
use Rattle.ix_base.specs.Steps.{after}
use Rattle.ix_base.specs.declared.document.Row.{Row}
use Rattle.op_script.specs.declared.script.Line.{Line}
use Rattle.index_writer.specs.declared.state.State.{State}
use Rattle.index_writer.specs.Ready.{HasRows, IsReady}
use Rattle.index_writer.specs.Standing.{StandsOnLast}
use Rattle.index_writer.specs.Storing.{GoesOn}
use Rattle.index_run.specs.Leaving.{IsOfLast}
use Rattle.run_log.specs.Headline.{Given, operations}

-- A run can begin with this writer: it is on its last commit, with nothing since, and its number leaves room for a
-- whole script.
pub record CanBegin (w : State) : Type 0 where
  pub ready : IsReady w
  pub is_open : w.closed ≡ false
  pub pending : w.pending ≡ None
  pub last : w.last ≡ w.published.upto
  pub since : w.since ≡ w.published.next_id
  pub number : w.published.upto ≤ 2 ^ 61

-- The writer begins on what a run is given: on the number, the next id and the rows, and on the files.
pub record IsOnGiven (g : Given) (w : State) : Type 0 where
  pub number : w.published.upto ≡ g.base
  pub next_id : w.published.next_id ≡ g.next
  pub rows : HasRows w g.rows
  pub goes_on : GoesOn g.files w
  pub of_last : IsOfLast g w
  pub on_last : StandsOnLast g.files w
  pub room : g.next ≤ 2 ^ 61

-- The writer after the rounds of this log, where the run began with `first`.
pub record IsWriterOn (first : State) (log : List Line) (w : State) : Type 0 where
  pub ready : IsReady w
  pub is_open : w.closed ≡ false
  pub upto : w.published.upto ≡ first.published.upto + length log
  pub acts : length (operations log) ≡ length log
  pub rows : (rows : List Row) → HasRows first rows
      → HasRows w (after rows first.published.upto (operations log))
  pub low : first.published.next_id ≤ w.published.next_id
  pub high : w.published.next_id ≤ first.published.next_id + 2 * length log
