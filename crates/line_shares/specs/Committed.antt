-- The commit of a round, among what its workers were told.
use Rattle.std.specs.Prelude.{◌≡◌, ◌⊎◌, ℕ, ◌==◌, if◌then◌else◌, List, [], ◌∷◌, Option, Some, None, length, drop}
use Rattle.ix_base.specs.declared.document.Operation.{Operation}
use Rattle.ix_base.specs.declared.document.Operation.TheVariants.{Commit}
use Rattle.commit_point.specs.Holds.{Pairs}
use Rattle.row_fates.specs.Fate.{Numbered as NumberedOperation}
use Rattle.worker_tasks.specs.declared.share.Share.{Share}
use Rattle.worker_tasks.specs.declared.task.Reply.{Reply}
use Rattle.worker_tasks.specs.declared.task.Task.{Task}
use Rattle.worker_tasks.specs.Replies.{told_in}
use Rattle.line_shares.specs.declared.round_commit.CommitLine.{CommitLine}

-- how many tasks of a share were told something
abbrev pub told_count : Share → ℕ
told_count share = length share.replies

-- what the workers were told since so many tasks of each were told something
abbrev pub told_past : List ℕ → List Share → List (List NumberedOperation)
told_past [] shares = []
told_past (n ∷ counts) [] = []
told_past (n ∷ counts) (s ∷ shares) = told_in (drop n s.tasks) (drop n s.replies) ∷ told_past counts shares

-- the pairs of a commit
abbrev pub commit_of : Operation → Option Pairs
commit_of (Commit pairs) = Some pairs
commit_of op = None

-- the pairs of the operation with this number, if it is among these and a commit
abbrev pub commit_in : ℕ → List NumberedOperation → Option Pairs
commit_in s [] = None
commit_in s (t ∷ ts) = if t.0 == s then commit_of t.1 else commit_in s ts

-- the first of two that is there
abbrev pub either : Option Pairs → Option Pairs → Option Pairs
either None other = other
either (Some pairs) other = Some pairs

-- the same among what each worker was told
abbrev pub commit_among : ℕ → List (List NumberedOperation) → Option Pairs
commit_among s [] = None
commit_among s (ts ∷ tss) = either (commit_in s ts) (commit_among s tss)

-- ---- who was told the number

-- the task of a commit of this line and these pairs
abbrev pub commit_task : ℕ → Pairs → Task
commit_task line pairs = record { line = line; operation = Commit pairs }

-- this task is one of these, and was told this
abbrev pub WasTold : Task → Reply → List Task → List Reply → Type 0
WasTold task reply ts [] = ⊥
WasTold task reply [] (r ∷ rs) = ⊥
WasTold task reply (t ∷ ts) (r ∷ rs) = ((t ≡ task) × (r ≡ reply)) ⊎ WasTold task reply ts rs

-- it is one of the tasks of these workers, and was told this since so many tasks of each were told something
abbrev pub IsToldPast : Task → Reply → List ℕ → List Share → Type 0
IsToldPast task reply [] shares = ⊥
IsToldPast task reply (n ∷ counts) [] = ⊥
IsToldPast task reply (n ∷ counts) (s ∷ shares) =
    WasTold task reply (drop n s.tasks) (drop n s.replies) ⊎ IsToldPast task reply counts shares

-- ---- no commit line

abbrev pub no_commit : CommitLine
no_commit = record { line = 0; pairs = [] }
