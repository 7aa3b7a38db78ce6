use Rattle.delete_queue.specs.Seats.{Knows}
use Rattle.delete_slice.specs.Entries.{Has}
use Rattle.delete_slice.proofs.Parts.{parts_stay_within}
use Rattle.delete_slice.proofs.laws.parts_stay_within.Goals as goal

pub returns : goal.returns
returns c = record { seats = λ s. parts_stay_within (Knows s); logs = λ log. parts_stay_within (Has log) }
