use Rattle.command_words.proofs.Faultless.{faultless_accepted}
use Rattle.command_words.proofs.laws.accepted_unless_a_fault.Goals as goal

pub returns : goal.returns
returns c = faultless_accepted
