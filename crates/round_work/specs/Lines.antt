-- What the functions inside the crate say of one try.
use Rattle.std.specs.Prelude.{◌≡◌, ◌⊎◌, List, [], Result, Ok, Err}
use Rattle.ix_base.specs.declared.document.Operation.{Operation}
use Rattle.ix_base.specs.declared.refusal.Refusal.TheVariants.{Term, Query}
use Rattle.delete_queue.specs.declared.queue.DeleteQueue.{DeleteQueue}
use Rattle.delete_queue.specs.Seats.{SawClosed, the_view}
use Rattle.row_fates.specs.Fate.{Numbered as NumberedOperation}
use Rattle.thread_writer.specs.declared.piece.Piece.{Piece}
use Rattle.thread_writer.specs.declared.told.Told.{Told}
use Rattle.thread_writer.specs.declared.told.Told.TheVariants as told
use Rattle.thread_writer.specs.declared.writer.ThreadWriter.{ThreadWriter}
use Rattle.thread_writer.specs.Writing.{Did, parts_of}
use Rattle.round_work.specs.declared.line.Halt.{Halt}
use Rattle.round_work.specs.declared.line.Halt.TheVariants.{Closed, NoMemory}
use Rattle.worker_tasks.specs.declared.task.Reply.{Reply}
use Rattle.worker_tasks.specs.declared.task.Reply.TheVariants.{Numbered, Refused}
use Rattle.round_work.specs.Working.{EndsByTurnFor, turns_of}
use Rattle.worker_tasks.specs.Replies.{told_by}

-- what a task is told for what the writer answered, if anything
abbrev pub reply_for : Told → Result Reply Halt
reply_for (told.Numbered n) = Ok (Numbered n)
reply_for (told.RefusedTerm size) = Ok (Refused (Term size))
reply_for (told.RefusedQuery size) = Ok (Refused (Query size))
reply_for told.Closed = Err Closed
reply_for (told.Full need left) = Err Closed
reply_for told.NoMemory = Err NoMemory

-- what a writer was told by a try of an operation
abbrev pub told_for : Result Reply Halt → Operation → List NumberedOperation
told_for (Ok reply) op = told_by op reply
told_for (Err halt) op = []

-- Whatever the writer had done, by this step its seat saw that the queue is closed.
abbrev pub Closes : DeleteQueue → ThreadWriter → List Piece → ThreadWriter → Type 0
Closes q old gave new =
    (before : List NumberedOperation) → Did q (parts_of old) before gave
    → SawClosed (the_view new.seat)

-- No turn was linked by this step; or the operation was told nothing, and a turn was linked since
-- there was no room for it.
abbrev pub TurnsFor : Result Reply Halt → Operation → ThreadWriter → ThreadWriter → Type 0
TurnsFor (Ok reply) op old new = turns_of new ≡ turns_of old
TurnsFor (Err halt) op old new = (turns_of new ≡ turns_of old)
    ⊎ ((halt ≡ Closed) × EndsByTurnFor new op)
