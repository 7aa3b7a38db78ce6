-- Where each caller ends with a commit, so does every log.
use Rattle.std.specs.Prelude.{◌≡◌, ◌≢◌, ◌⊎◌, ℕ, ◌+◌, ◌==◌, List, [], ◌∷◌, ◌++◌, length}
use Rattle.std.specs.List.{filter}
use Rattle.ix_base.specs.declared.document.Operation.TheVariants.{Commit}
use Rattle.op_script.specs.declared.script.Line.{Line}
use Rattle.op_script.specs.declared.script.Act.TheVariants.{Do}
use Rattle.run_log.specs.Headline.{commit_numbers}
use Rattle.made_runs.specs.Apart.{SameCallers}

-- the last line is a commit
pub record EndsInCommit (lines : List Line) : Type 0 where
  pub front : List Line
  pub end : Line
  pub parts : lines ≡ front ++ end ∷ []
  pub commit : end.act ≡ Do (Commit [])

-- the last line of each caller that has lines is a commit
abbrev pub CallersCommit : List Line → Type 0
CallersCommit lines = (caller : ℕ)
    → (filter (λ (l : Line). l.caller == caller) lines ≡ [])
    ⊎ EndsInCommit (filter (λ (l : Line). l.caller == caller) lines)

-- the last of these numbers is this one
abbrev pub EndsAt : List ℕ → ℕ → Type 0
EndsAt numbers s = (before : List ℕ) × (numbers ≡ before ++ s ∷ [])

-- Where each caller ends with a commit, the last commit of every log has the number of the log's
-- last line.
abbrev pub LastIsCommit : Type 0
LastIsCommit = (lines log : List Line) (base : ℕ) → CallersCommit lines → SameCallers lines log
    → log ≢ [] → EndsAt (commit_numbers base log) (base + length log)
