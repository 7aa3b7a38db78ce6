use Rattle.delete_slice.proofs.Parts.{slices_stay}
use Rattle.delete_slice.proofs.laws.slices_stay.Goals as goal

pub returns : goal.returns
returns c = slices_stay
