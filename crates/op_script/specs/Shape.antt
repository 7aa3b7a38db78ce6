-- What holds of every script that was read.
use Rattle.std.specs.Prelude.{ℕ, ◌+◌, ◌<◌, ◌≤◌, ◌^◌, List, [], ◌∷◌, length, ⊤}
use Rattle.std.specs.List.{AllByRecursion}
use Rattle.op_script.specs.declared.script.Line.{Line}

-- the lines' places rise, from this one on
abbrev pub LinesRise : ℕ → List Line → Type 0
LinesRise low [] = ⊤
LinesRise low (l ∷ ls) = (low ≤ l.line) × LinesRise (l.line + 1) ls

-- a script that was read: its lines rise and are few, and its callers are numbered below 256
pub record AreScriptLines (lines : List Line) : Type 0 where
  pub rise : LinesRise 1 lines
  pub few : length lines < 2 ^ 27
  pub callers : AllByRecursion (λ (l : Line). l.caller < 256) lines
