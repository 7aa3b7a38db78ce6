use Rattle.delete_queue.specs.Seats.{Knows}
use Rattle.delete_slice.specs.Entries.{Has}
use Rattle.delete_slice.proofs.Parts.{parts_chain}
use Rattle.delete_slice.proofs.laws.parts_chain.Goals as goal

pub returns : goal.returns
returns c = record { seats = λ s. parts_chain (Knows s); logs = λ log. parts_chain (Has log) }
