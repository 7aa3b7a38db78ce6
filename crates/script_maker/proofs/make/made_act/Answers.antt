use Rattle.std.proofs.Common.{rules}
use Rattle.script_maker.specs.Made.{made_act}
use Rattle.script_maker.proofs.make.made_act.Goals as goal

pub returns : goal.returns
unfolding made_act
returns c = search rules

pub returns-then-at-eq0 : goal.returns-then-at-eq0
unfolding made_act
returns-then-at-eq0 c = search rules
