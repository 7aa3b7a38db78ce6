-- Rounds: how they begin, what comes back of them, and what they leave.
use Rattle.std.specs.Prelude.{◌≡◌, ℕ, ◌+◌, ◌≤◌, List, [], ◌∷◌, ◌++◌, length, slice_index_or, Some, None, false}
use Rattle.std.specs.Global.{Vec}
use Rattle.ix_base.specs.Steps.{after, numbered_from}
use Rattle.ix_base.specs.declared.document.Row.{Row}
use Rattle.ix_base.specs.declared.document.Operation.{Operation}
use Rattle.ix_base.specs.declared.document.Operation.TheVariants.{Commit}
use Rattle.ix_outside.specs.Files.{Files}
use Rattle.delete_queue.specs.declared.queue.DeleteQueue.{DeleteQueue}
use Rattle.delete_queue.specs.Seats.{base_of, number_of, own_of, seats_of}
use Rattle.row_fates.specs.Fate.{Numbered, adding}
use Rattle.thread_writer.specs.declared.piece.Piece.{Piece}
use Rattle.thread_writer.specs.declared.writer.ThreadWriter.{ThreadWriter}
use Rattle.thread_writer.specs.Writing.{Did, IsWriter, parts_of}
use Rattle.round_order.specs.Order.{NoCommit, Working, seconds, told_of}
use Rattle.index_writer.specs.declared.round.Round.{Round}
use Rattle.index_writer.specs.declared.round.RoundParts.{RoundParts}
use Rattle.index_writer.specs.declared.round.RoundEnd.{RoundEnd}
use Rattle.index_writer.specs.declared.round.RoundEnd.TheVariants.{Committed, Turned, Ran}
use Rattle.index_writer.specs.declared.state.State.{State}
use Rattle.index_writer.specs.Ready.{HasRows, IsStored}

-- ---- a round that was begun

-- A writer of the queue that was told nothing, linked nothing and gave nothing off, with this seat
-- number and size of its buffer.
pub record IsBegunWriter (q : DeleteQueue) (size number : ℕ) (w : ThreadWriter) : Type 0 where
  pub number_is : number_of w.seat ≡ number
  pub writer : IsWriter q w
  pub did : Did q (parts_of w) [] []
  pub own : own_of w.seat ≡ []
  pub size_is : w.size ≡ size

-- such writers with the seat numbers from this one on, one after another
abbrev pub AreBegunFrom : DeleteQueue → ℕ → ℕ → List ThreadWriter → Type 0
AreBegunFrom q size i [] = Unit {0}
AreBegunFrom q size i (w ∷ ws) = IsBegunWriter q size i w × AreBegunFrom q size (i + 1) ws

-- A round of n writers was begun: its queue begins after the last operation that is in the segments.
pub record IsBegun (n : ℕ) (s : State) (round : Round) : Type 0 where
  pub base : base_of round.queue ≡ s.published.upto
  pub seats : seats_of round.queue ≡ n
  pub all : length round.writers.items ≡ n
  pub writers : AreBegunFrom round.queue s.buffer 0 round.writers.items

-- ---- what came back

-- A writer of the queue with this seat number was told these operations with their numbers, and gave these pieces off.
pub record IsWorker (q : DeleteQueue) (number : ℕ) (told : List Numbered) (w : ThreadWriter) (gave : List Piece)
    : Type 0 where
  pub number_is : number_of w.seat ≡ number
  pub writer : IsWriter q w
  pub did : Did q (parts_of w) told gave

-- such writers with the seat numbers from this one on, one after another
abbrev pub AreWorkersFrom : DeleteQueue → ℕ → List (List Numbered) → List ThreadWriter → List (Vec Piece) → Type 0
AreWorkersFrom q i [] [] [] = Unit {0}
AreWorkersFrom q i (t ∷ told) (w ∷ ws) (p ∷ ps) = IsWorker q i t w p.items × AreWorkersFrom q (i + 1) told ws ps
AreWorkersFrom q i told ws ps = ⊥

-- What came back of a round that was begun after this number: a writer for each seat of its queue, what each was told,
-- and the pieces that it gave off.
pub record ArePartsOf (base : ℕ) (told : List (List Numbered)) (parts : RoundParts) : Type 0 where
  pub base_is : base_of parts.queue ≡ base
  pub all : length parts.writers.items ≡ seats_of parts.queue
  pub workers : AreWorkersFrom parts.queue 0 told parts.writers.items parts.pieces.items

-- ---- a round that ended

-- How a round of these operations ended: by a commit, which is the last of them, and the only one, and is still to be
-- written; or without one.
abbrev pub EndsBy : RoundEnd → List Operation → State → Type 0
EndsBy (Committed s) ops new = (s ≡ new.published.upto) × (new.pending ≡ Some s)
    × ((before : List Operation) × NoCommit before × (pairs : List (List ℕ × List ℕ)) × (ops ≡ before ++ Commit pairs ∷ []))
EndsBy Turned ops new = (new.pending ≡ None) × NoCommit ops
EndsBy Ran ops new = (new.pending ≡ None) × NoCommit ops

-- A round ended: what its writers were told is one order of operations, numbered on from those before, and the segments
-- have the rows that these leave. What is on the store of segments still stands there. It takes an id for each operation
-- that adds documents, at most.
pub record Ends (told : List (List Numbered)) (end : RoundEnd) (old new : State) : Type 0 where
  pub ts : List Working
  pub order : (i : ℕ) → told_of i old.published.upto ts ≡ slice_index_or told i []
  pub upto : new.published.upto ≡ old.published.upto + length ts
  pub rows : (rows : List Row) → HasRows old rows → HasRows new (after rows old.published.upto (seconds ts))
  pub stored : (files : Files) → IsStored files old → IsStored files new
  pub ids : old.published.next_id ≤ new.published.next_id
  pub few : new.published.next_id
      ≤ old.published.next_id + adding (numbered_from old.published.upto (seconds ts))
  pub by_end : EndsBy end (seconds ts) new
  pub out : new.out ≡ false
  pub last : new.last ≡ old.last
  pub since : new.since ≡ old.since
  pub buffer : new.buffer ≡ old.buffer
  pub merge : new.merge ≡ old.merge
  pub closed : new.closed ≡ old.closed
