-- What contracts say of senders and of the receiver.
use Rattle.std.specs.Prelude.{◌≡◌, ℕ, true, false, List, []}
use Rattle.crossbeam_queue.specs.SegTies.{IsSegPassOf}
use Rattle.thread_writer.specs.declared.piece.Piece.{Piece}
use Rattle.piece_queue.specs.declared.view.Sent.{Sent}
use Rattle.piece_queue.specs.declared.queue.PieceQueue.{PieceQueue}
use Rattle.piece_queue.specs.declared.receiver.Receiver.{Receiver}
use Rattle.piece_queue.specs.declared.sender.Sender.{Sender}
use Rattle.piece_queue.specs.Rule.{Came}

-- ---- senders

-- the number of a sender's worker
abbrev pub number_of : Sender → ℕ
number_of s = s.pass.me.view.client.worker

-- what it has sent, in order
abbrev pub sent_by : Sender → List Piece
sent_by s = s.pass.me.view.client.put

-- a sender of this queue
pub record IsSender (q : PieceQueue) (s : Sender) : Type 0 where
  pub is : IsSegPassOf q.pieces s.pass
  pub puts : s.pass.me.view.client.puts ≡ true
  pub rests : s.pass.me.view.client.takes ≡ false
  pub bare : s.pass.me.view.client.ended ≡ []

-- ---- the receiver

-- how many senders were made
abbrev pub made_by : Receiver → ℕ
made_by r = r.pass.me.view.client.made

-- what was taken, in order
abbrev pub taken_by : Receiver → List Piece
taken_by r = r.pass.me.view.client.taken

-- what the workers sent whose senders came back
abbrev pub ended_with : Receiver → List Sent
ended_with r = r.pass.me.view.client.ended

-- all of that was taken
abbrev pub has_come : Receiver → Type 0
has_come r = Came r.pass.me.view.client []

-- the receiver of this queue, with the pieces that it took
pub record IsReceiver (q : PieceQueue) (r : Receiver) : Type 0 where
  pub is : IsSegPassOf q.pieces r.pass
  pub takes : r.pass.me.view.client.takes ≡ true
  pub quiet : r.pass.me.view.client.puts ≡ false
  pub taken : r.taken.items ≡ r.pass.me.view.client.taken
