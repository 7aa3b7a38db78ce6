-- Which script a seed, a number of lines and a number of callers make.
use Rattle.std.specs.Prelude.{ℕ, ◌+◌, ◌-◌, ◌%◌, ◌==◌, List, [], ◌++◌, map, if◌then◌else◌}
use Rattle.std.specs.List.{range_with_len}
use Rattle.ix_base.specs.declared.document.Operation.TheVariants as operation
use Rattle.op_script.specs.declared.script.Act.{Act}
use Rattle.op_script.specs.declared.script.Act.TheVariants as act
use Rattle.op_script.specs.declared.script.Line.{Line}
use Rattle.script_maker.specs.Draws.{draw_at}
use Rattle.script_maker.specs.Operations.{drawn_operation}

-- each 64th line is a commit
unfoldable pub made_act : ℕ → ℕ → ℕ → Act
made_act at caller draw = act.Do (if at % 64 == 0 then operation.Commit [] else drawn_operation caller draw)

-- line `at`, counted from 1; the callers take turns
abbrev pub caller_at : ℕ → ℕ → ℕ
caller_at callers at = (at - 1) % callers

unfoldable pub made_line : ℕ → ℕ → ℕ → Line
made_line seed callers at = record {
  line = at;
  caller = caller_at callers at;
  act = made_act at (caller_at callers at) (draw_at seed at);
}

-- behind the other lines each caller commits
unfoldable pub last_commit : ℕ → ℕ → Line
last_commit lines caller = record { line = lines + 1 + caller; caller = caller; act = act.Do (operation.Commit []) }

unfoldable pub made_script : ℕ → ℕ → ℕ → List Line
made_script seed lines callers =
    map (made_line seed callers) (range_with_len 1 lines) ++ map (last_commit lines) (range_with_len 0 callers)
