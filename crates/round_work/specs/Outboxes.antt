-- What contracts say of the pieces that a worker gives off.
use Rattle.std.specs.Prelude.{◌≡◌, ℕ, List, [], ◌∷◌, ◌++◌, Option, Some, None}
use Rattle.piece_queue.specs.declared.queue.PieceQueue.{PieceQueue}
use Rattle.piece_queue.specs.declared.sender.Sender.{Sender}
use Rattle.piece_queue.specs.Passes.{IsSender, number_of, sent_by}
use Rattle.thread_writer.specs.declared.piece.Piece.{Piece}
use Rattle.round_work.specs.declared.outbox.Outbox.{Outbox}

-- the piece that is held, if there is one
abbrev pub held_of : Option Piece → List Piece
held_of None = []
held_of (Some piece) = piece ∷ []

-- what was given off: what was sent, and then what is held
abbrev pub gave_by : Outbox → List Piece
gave_by outbox = sent_by outbox.sender ++ held_of outbox.held

-- the outbox of the worker with this number
pub record IsOutbox (pieces : PieceQueue) (number : ℕ) (outbox : Outbox) : Type 0 where
  pub sender : IsSender pieces outbox.sender
  pub number_is : number_of outbox.sender ≡ number

-- a sender of the worker with this number, which has sent nothing
pub record IsFresh (pieces : PieceQueue) (number : ℕ) (sender : Sender) : Type 0 where
  pub is : IsSender pieces sender
  pub number_is : number_of sender ≡ number
  pub sent : sent_by sender ≡ []
