use Rattle.std.proofs.Common.{◌≡◌, ◌++◌, map}
use Rattle.std.specs.List.{range_with_len}
use Rattle.script_maker.specs.Made.{last_commit}
use Rattle.script_maker.proofs.make.add_commits.Given as goal

abbrev pub invariant-loop-caller : goal.invariant-loop-caller
invariant-loop-caller l = l.made.items ≡ l.initial.made.items ++ map (last_commit l.lines) (range_with_len 0 l.caller)
