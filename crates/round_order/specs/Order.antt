-- The operations of several workers in one order: that of their sequence numbers.
use Rattle.std.specs.Prelude.{◌≡◌, ℕ, ◌+◌, ◌==◌, if◌then◌else◌, Bool, true, false, List, [], ◌∷◌, map}
use Rattle.std.specs.List.{AllByRecursion}
use Rattle.ix_base.specs.declared.document.Operation.{Operation}
use Rattle.ix_base.specs.declared.document.Operation.TheVariants.{Add, AddBlock, Update, UpdateBlock, DeleteTerm, DeleteQuery, SetNumber, Commit}
use Rattle.row_fates.specs.Fate.{Numbered}

-- an operation with the number of the worker that it is of
abbrev pub Working : Type 0
Working = ℕ × Operation

-- The operations of worker i with their sequence numbers, among operations of all workers: the first of all has the
-- number after `last`, and each other the next one.
abbrev pub told_of : ℕ → ℕ → List Working → List Numbered
told_of i last [] = []
told_of i last (t ∷ ts) = if t.0 == i then (last + 1, t.1) ∷ told_of i (last + 1) ts else told_of i (last + 1) ts

-- the operations without their workers
abbrev pub seconds : List Working → List Operation
seconds ts = map (λ (t : Working). t.1) ts

-- whether an operation is a commit
abbrev pub is_commit : Operation → Bool
is_commit (Add doc) = false
is_commit (AddBlock docs) = false
is_commit (Update term doc) = false
is_commit (UpdateBlock term docs) = false
is_commit (DeleteTerm term) = false
is_commit (DeleteQuery query) = false
is_commit (SetNumber term name value) = false
is_commit (Commit pairs) = true

-- no operation is a commit
abbrev pub NoCommit : List Operation → Type 0
NoCommit ops = AllByRecursion (λ (op : Operation). is_commit op ≡ false) ops
