-- Callers that work apart, each on documents of its own.
use Rattle.std.specs.Prelude.{◌≡◌, ℕ, ◌==◌, Bool, true, false, List, [], IsPermutation, ⊤}
use Rattle.std.specs.List.{filter, AllByRecursion}
use Rattle.ix_base.specs.Documents.{Document}
use Rattle.ix_base.specs.Matches.{matches, holds_term}
use Rattle.ix_base.specs.Query.{tree_of}
use Rattle.ix_base.specs.Steps.{Named, after}
use Rattle.ix_base.specs.declared.document.Operation.{Operation}
use Rattle.ix_base.specs.declared.document.Operation.TheVariants.{Add, AddBlock, Update, UpdateBlock, DeleteTerm, DeleteQuery, SetNumber, Commit}
use Rattle.op_script.specs.declared.script.Line.{Line}
use Rattle.op_script.specs.declared.script.Act.TheVariants.{Do}
use Rattle.run_log.specs.Headline.{operations}
use Rattle.made_runs.specs.Born.{documents}

-- whether an operation removes or changes a document that stands when it comes
abbrev pub touches : Operation → Document → Bool
touches (Add added) doc = false
touches (AddBlock docs) doc = false
touches (Update term added) doc = holds_term term.field term.bytes doc
touches (UpdateBlock term docs) doc = holds_term term.field term.bytes doc
touches (DeleteTerm term) doc = holds_term term.field term.bytes doc
touches (DeleteQuery query) doc = matches (tree_of query) doc
touches (SetNumber term name value) doc = holds_term term.field term.bytes doc
touches (Commit pairs) doc = false

-- each document that an operation adds is such a one
abbrev pub Adds : (Document → Type 0) → Operation → Type 0
Adds P (Add doc) = P doc
Adds P (AddBlock docs) = AllByRecursion P docs
Adds P (Update term doc) = P doc
Adds P (UpdateBlock term docs) = AllByRecursion P docs
Adds P (DeleteTerm term) = ⊤
Adds P (DeleteQuery query) = ⊤
Adds P (SetNumber term name value) = ⊤
Adds P (Commit pairs) = ⊤

-- An operation of a caller adds only documents that the caller owns, and touches no document that
-- another caller owns.
pub record KeepsTo (Owns : ℕ → Document → Type 0) (caller : ℕ) (op : Operation) : Type 0 where
  pub adds : Adds (Owns caller) op
  pub touched : (other : ℕ) (doc : Document) → Owns other doc → touches op doc ≡ true
      → other ≡ caller

-- a line's operation, where it has one, keeps to documents of the line's caller
abbrev pub KeepsToOwn : (ℕ → Document → Type 0) → Line → Type 0
KeepsToOwn Owns l = (op : Operation) → l.act ≡ Do op → KeepsTo Owns l.caller op

-- The callers of these lines work apart: each line's operation keeps to documents of its caller,
-- and a document stays its owner's whatever numbers it is given.
pub record WorkApart (Owns : ℕ → Document → Type 0) (lines : List Line) : Type 0 where
  pub keeps : AllByRecursion (KeepsToOwn Owns) lines
  pub stays : (caller : ℕ) (doc : Document) (numbers : List Named) → Owns caller doc
      → Owns caller (record doc { num = numbers })

-- two lists of lines have those of each caller in the same order
abbrev pub SameCallers : List Line → List Line → Type 0
SameCallers xs ys = (caller : ℕ)
    → filter (λ (l : Line). l.caller == caller) xs ≡ filter (λ (l : Line). l.caller == caller) ys

-- Where callers work apart, the lines leave the same documents in whatever order the callers get
-- their turns.
abbrev pub CallersApart : Type 0
CallersApart = (owns : ℕ → Document → Bool) (xs ys : List Line) (base last : ℕ)
    → WorkApart (λ caller doc. owns caller doc ≡ true) xs → SameCallers xs ys
    → IsPermutation (documents (after [] base (operations xs)))
    (documents (after [] last (operations ys)))
