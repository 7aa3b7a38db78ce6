-- What contracts say of a share.
use Rattle.std.specs.Prelude.{List, Option, length, drop}
use Rattle.thread_writer.specs.declared.piece.Piece.{Piece}
use Rattle.worker_tasks.specs.declared.share.Share.{Share}
use Rattle.worker_tasks.specs.declared.task.Reply.{Reply}
use Rattle.worker_tasks.specs.declared.task.Task.{Task}

abbrev pub share_of : List Task → List Reply → Option Piece → Share
share_of tasks replies held = record { tasks = tasks; replies = replies; held = held }

-- the tasks that were told nothing yet
abbrev pub open_tasks : Share → List Task
open_tasks share = drop (length share.replies) share.tasks
