use Rattle.std.proofs.Common.{◌≡◌, ◌<◌, ◌^◌, map}
use Rattle.std.specs.List.{range_with_len}
use Rattle.script_maker.specs.Draws.{number_at}
use Rattle.script_maker.specs.Made.{made_line}
use Rattle.script_maker.proofs.make.drawn_lines.Given as goal

abbrev pub invariant-loop-before : goal.invariant-loop-before
invariant-loop-before l = record {
  number : l.number ≡ number_at l.seed l.before;
  range : l.number < 2 ^ 31;
  lines : l.made.items ≡ map (made_line l.seed l.callers) (range_with_len 1 l.before);
}
