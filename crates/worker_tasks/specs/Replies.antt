-- What tasks were told.
use Rattle.std.specs.Prelude.{◌≡◌, List, [], ◌∷◌, ◌++◌, Some, None}
use Rattle.ix_base.specs.Refusals.{refusal}
use Rattle.ix_base.specs.declared.document.Operation.{Operation}
use Rattle.row_fates.specs.Fate.{Numbered as NumberedOperation}
use Rattle.worker_tasks.specs.declared.task.Reply.{Reply}
use Rattle.worker_tasks.specs.declared.task.Reply.TheVariants.{Numbered, Refused}
use Rattle.worker_tasks.specs.declared.task.Task.{Task}

-- An operation gets a number exactly where it isn't refused, and is told its refusal exactly where it is.
abbrev pub IsReplyTo : Operation → Reply → Type 0
IsReplyTo op (Numbered n) = refusal op ≡ None
IsReplyTo op (Refused r) = refusal op ≡ Some r

-- These are the replies to the first of the tasks, in order.
abbrev pub AreReplies : List Task → List Reply → Type 0
AreReplies ts [] = Unit {0}
AreReplies [] (r ∷ rs) = ⊥
AreReplies (t ∷ ts) (r ∷ rs) = IsReplyTo t.operation r × AreReplies ts rs

-- the operation with its number, where it got one
abbrev pub told_by : Operation → Reply → List NumberedOperation
told_by op (Numbered n) = (n, op) ∷ []
told_by op (Refused r) = []

-- what the first of the tasks were told by these replies: the operations that got a number, in order
abbrev pub told_in : List Task → List Reply → List NumberedOperation
told_in ts [] = []
told_in [] (r ∷ rs) = []
told_in (t ∷ ts) (r ∷ rs) = told_by t.operation r ++ told_in ts rs
