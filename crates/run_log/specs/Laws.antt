-- The laws of a run's log.
use Rattle.std.specs.Prelude.{◌≡◌, ℕ, List}
use Rattle.op_script.specs.Shape.{LinesRise}
use Rattle.op_script.specs.declared.script.Line.{Line}
use Rattle.round_order.specs.Order.{Working, told_of}
use Rattle.ix_outside.specs.Files.{Files}
use Rattle.run_log.specs.Headline.{CanRun, CanRunOn, Given, HasRoom, HasSome, Interleaves}
use Rattle.run_log.specs.Telling.{AreTells, IsOrder, Tell, pairs_of}

-- Where what n workers were told is one order of operations, their lines are one order too.
abbrev pub LinesInOrder : Type 0
LinesInOrder = (n base low : ℕ) (script : List Line) (told : ℕ → List Tell) (ts : List Working)
    → LinesRise low script → AreTells n script told
    → ((worker : ℕ) → told_of worker base ts ≡ pairs_of (told worker))
    → (more : List Line) × IsOrder n base told ts more

-- On files that have the first of a run's commits, whole, the next run can begin, where there was room for its lines.
abbrev pub CommitsRunOn : Type 0
CommitsRunOn = (g : Given) (log : List Line) (files : Files) → CanRun g → Interleaves g.lines log → HasRoom g
    → HasSome g log files → CanRunOn files
