use Rattle.delete_slice.proofs.Parts.{parts_stay}
use Rattle.delete_slice.proofs.laws.parts_stay.Goals as goal

pub returns : goal.returns
returns c = parts_stay
