-- What the workers were told of their lines.
use Rattle.std.specs.Prelude.{◌≡◌, ℕ, zero, suc, ◌%◌, List, [], ◌∷◌, ◌++◌, length, drop}
use Rattle.std.specs.List.{AllByRecursion}
use Rattle.op_script.specs.declared.script.Line.{Line}
use Rattle.row_fates.specs.Fate.{Numbered as NumberedOperation}
use Rattle.worker_tasks.specs.declared.share.Share.{Share}
use Rattle.worker_tasks.specs.declared.task.Reply.{Reply}
use Rattle.worker_tasks.specs.declared.task.Reply.TheVariants.{Numbered, Refused}
use Rattle.worker_tasks.specs.Shares.{open_tasks}
use Rattle.worker_tasks.specs.Replies.{told_in}
use Rattle.run_log.specs.Headline.{number_of}
use Rattle.run_log.specs.Telling.{Tell, lines_of, of_caller}
use Rattle.run_log.specs.Numbering.{HasLine}
use Rattle.line_shares.specs.Shares.{operation_of, own_lines}

-- ---- one worker

-- what a line was told by this reply, if that is a number
abbrev pub tell_of : Line → Reply → List Tell
tell_of l (Numbered n) = (record { number = n; line = l; op = operation_of l.act }) ∷ []
tell_of l (Refused refusal) = []

-- what the first of these lines were told by these replies
abbrev pub tells_in : List Line → List Reply → List Tell
tells_in ls [] = []
tells_in [] (r ∷ rs) = []
tells_in (l ∷ ls) (r ∷ rs) = tell_of l r ++ tells_in ls rs

-- the replies in the share of this worker
abbrev pub replies_at : List Share → ℕ → List Reply
replies_at [] worker = []
replies_at (s ∷ ss) zero = s.replies
replies_at (s ∷ ss) (suc worker) = replies_at ss worker

-- what this one of n workers was told
abbrev pub told_so_far : ℕ → List Line → List Share → ℕ → List Tell
told_so_far n lines shares worker = tells_in (own_lines n worker lines) (replies_at shares worker)

-- what it was told since its share was the old one
abbrev pub told_since : ℕ → List Line → List Share → List Share → ℕ → List Tell
told_since n lines old new worker =
    tells_in (drop (length (replies_at old worker)) (own_lines n worker lines))
    (drop (length (replies_at old worker)) (replies_at new worker))

-- the operations that it was told since, with their numbers, of each worker
abbrev pub pairs_since : List Share → List Share → List (List NumberedOperation)
pairs_since [] news = []
pairs_since (old ∷ olds) [] = []
pairs_since (old ∷ olds) (new ∷ news) =
    told_in (open_tasks old) (drop (length old.replies) new.replies) ∷ pairs_since olds news

-- ---- the log

-- The log has the lines that were told a number: of each caller those of its worker, in their order.
abbrev pub IsLogOf : ℕ → List Line → List Share → List Line → Type 0
IsLogOf n lines shares log = (caller : ℕ)
    → of_caller caller log ≡ of_caller caller (lines_of (told_so_far n lines shares (caller % n)))

-- the line stands in the log, with the number that it was told
abbrev pub IsTold : ℕ → List Line → Tell → Type 0
IsTold base log t = HasLine log t.line.line × (number_of base log t.line.line ≡ t.number)

-- each line that was told a number stands in the log, with that number
abbrev pub AreTold : ℕ → ℕ → List Line → List Share → List Line → Type 0
AreTold n base lines shares log = (worker : ℕ) → AllByRecursion (IsTold base log) (told_so_far n lines shares worker)
