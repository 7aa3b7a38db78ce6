-- What the tests ask of a round whose writers do operations.
use Rattle.std.specs.Prelude.{ℕ, List}
use Rattle.delete_queue.specs.declared.queue.DeleteQueue.{DeleteQueue}
use Rattle.row_fates.specs.Fate.{Numbered}
use Rattle.thread_writer.specs.declared.piece.Piece.{Piece}
use Rattle.thread_writer.specs.declared.writer.ThreadWriter.{ThreadWriter}
use Rattle.index_writer.specs.declared.round.RoundParts.{RoundParts}
use Rattle.index_writer.specs.Rounds.{ArePartsOf, IsWorker}

-- A writer of the queue with this seat number was told something, and gave these pieces off.
abbrev pub IsAtWork : DeleteQueue → ℕ → ThreadWriter → List Piece → Type 0
IsAtWork q number w gave = (told : List Numbered) × IsWorker q number told w gave

-- The writer is one with the same seat number afterwards, and gave the new pieces off.
abbrev pub StaysAtWork : DeleteQueue → ThreadWriter → List Piece → ThreadWriter → List Piece → Type 0
StaysAtWork q old gave new given = (number : ℕ) → IsAtWork q number old gave → IsAtWork q number new given

-- The round was begun after this number, and its writers were told something.
abbrev pub IsUnderWay : ℕ → RoundParts → Type 0
IsUnderWay base parts = (told : List (List Numbered)) × ArePartsOf base told parts
