-- What the text that tells of a run reads of the store.
use Rattle.std.specs.Prelude.{ℕ, List, Bool, true, false}
use Rattle.ix_base.specs.declared.document.Row.{Row}
use Rattle.ix_outside.specs.Files.{Files}
use Rattle.commit_point.specs.Holds.{Holds}
use Rattle.run_report.specs.declared.outcome.Answer.{Answer}
use Rattle.run_report.specs.declared.outcome.Answer.TheVariants.{Numbered, Committed, Refused, Found}
use Rattle.run_report.specs.declared.outcome.Outcome.{Outcome}
use Rattle.index_run.specs.declared.telling.Form.{Form}
use Rattle.index_run.specs.declared.telling.Form.TheVariants.{Report, Summary}

abbrev pub commits : Answer → Bool
commits (Numbered s) = false
commits (Committed s docs) = true
commits (Refused refusal) = false
commits (Found text) = false

-- whether a commit became of a line
abbrev pub is_committed : Outcome → Bool
is_committed o = commits o.answer

-- the files hold some rows as the commit of this number
abbrev pub ReadsCommit : Files → ℕ → Type 0
ReadsCommit files s = (next : ℕ) × (rows : List Row) × Holds files s next rows

-- what the text reads is there: for a report nothing, and for a summary the last commit
abbrev pub CanTell : Form → ℕ → Files → Type 0
CanTell Report upto files = Unit {0}
CanTell Summary upto files = ReadsCommit files upto
