use Rattle.delete_slice.proofs.Logs.{parts_are_logged}
use Rattle.delete_slice.proofs.laws.parts_are_logged.Goals as goal

pub returns : goal.returns
returns c = parts_are_logged
