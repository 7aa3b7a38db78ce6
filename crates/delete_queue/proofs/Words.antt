-- The words of an entry that closes a queue.
use Rattle.std.proofs.Common.{refl}
use Rattle.ix_base.specs.Entry as e
use Rattle.ix_base.specs.Words.{IsEntryWords}
use Rattle.delete_queue.specs.declared.seat.Closing.{Closing}
use Rattle.delete_queue.specs.declared.seat.Closing.TheVariants.{Commit, Turn}
use Rattle.delete_queue.specs.Answers.{closing_words}

pub closes : (c : Closing) → IsEntryWords (closing_words c)
unfolding IsEntryWords
closes Commit = (e.commit, record { fits = tt; spelled = refl })
closes Turn = (e.turn, record { fits = tt; spelled = refl })
