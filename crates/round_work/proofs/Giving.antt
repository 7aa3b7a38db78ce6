-- What a worker gives off.
use Rattle.std.proofs.Common.{◌≡◌, ◌∙◌, ℕ, List, ◌++◌, None, Result, Ok, Err, ap, subst, append-nil}
use Rattle.delete_queue.specs.declared.queue.DeleteQueue.{DeleteQueue}
use Rattle.delete_queue.specs.Seats.{number_of as seat_number}
use Rattle.row_fates.specs.Fate.{Numbered as NumberedOperation}
use Rattle.piece_queue.specs.declared.queue.PieceQueue.{PieceQueue}
use Rattle.piece_queue.specs.Passes.{sent_by}
use Rattle.thread_writer.specs.declared.piece.Piece.{Piece}
use Rattle.thread_writer.specs.declared.writer.ThreadWriter.{ThreadWriter}
use Rattle.round_work.specs.declared.line.Halt.{Halt}
use Rattle.round_work.specs.declared.line.Halt.TheVariants as halt
use Rattle.round_work.specs.declared.outbox.Outbox.{Outbox}
use Rattle.worker_tasks.specs.declared.task.Reply.{Reply}
use Rattle.round_work.specs.Outboxes.{IsOutbox, gave_by, held_of}
use Rattle.round_work.specs.Working.{WorksOn}

-- where nothing is held, what was given off was sent
pub gave_sent : (outbox : Outbox) → outbox.held ≡ None → gave_by outbox ≡ sent_by outbox.sender
gave_sent outbox empty =
    ap (λ held. sent_by outbox.sender ++ held_of held) empty ∙ append-nil (sent_by outbox.sender)

abbrev is_told : Result Reply Halt → Type 0
is_told (Ok reply) = Unit {0}
is_told (Err halt) = ⊥

-- who was told something didn't run out of memory
pub told_not : (reply : Reply) → Ok reply ≡ Err halt.NoMemory → ⊥
told_not reply is = subst is_told is tt

-- an outbox stays its worker's
pub outbox_stays : (q : DeleteQueue) (pieces : PieceQueue) (more : List NumberedOperation) (n : ℕ) (a b : ThreadWriter)
    (gave given : List Piece) (outbox : Outbox) → IsOutbox pieces (seat_number b.seat) outbox → WorksOn q more a gave b given
    → seat_number a.seat ≡ n → IsOutbox pieces n outbox
outbox_stays q pieces more n a b gave given outbox is works number = record {
  sender = is.sender;
  number_is = is.number_is ∙ works.number_is ∙ number;
}
