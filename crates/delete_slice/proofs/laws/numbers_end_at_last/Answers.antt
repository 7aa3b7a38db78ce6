use Rattle.delete_slice.proofs.Last.{numbers_end_at_last, parts_end_at_last}
use Rattle.delete_slice.proofs.laws.numbers_end_at_last.Goals as goal

pub returns : goal.returns
returns c = record { numbers = numbers_end_at_last; updates = parts_end_at_last }
