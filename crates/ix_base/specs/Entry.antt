-- What the queue of operations holds of one: its kind with its fields, without a document.
use Rattle.std.specs.Prelude.{ℕ, ℤ, ◌≤◌, List, [], ◌++◌, length, FitsSigned}
use Rattle.std.specs.Int.{w64}
use Rattle.ix_base.specs.Query.{tree_of}
use Rattle.ix_base.specs.QueryBytes.{query_bytes, IsQuery}
use Rattle.ix_base.specs.Spelling.{signed64, text_bytes, IsText, IsName}
use Rattle.ix_base.specs.Terms.{most_term_bytes}
use Rattle.ix_base.specs.Tree.{Tree}
use Rattle.ix_base.specs.declared.document.Term.{Term}
use Rattle.ix_base.specs.declared.document.Operation.{Operation}
use Rattle.ix_base.specs.declared.document.Operation.TheVariants as o

pub data Entry : Type 0 where
  add : Entry
  update : Term → Entry
  delete_term : Term → Entry
  delete_query : Tree → Entry
  set_number : Term → List ℕ → ℤ → Entry
  commit : Entry
  turn : Entry

-- An operation's entry. A turn is no operation: it ends a round.
abbrev pub entry_of : Operation → Entry
entry_of (o.Add doc) = add
entry_of (o.AddBlock docs) = add
entry_of (o.Update term doc) = update term
entry_of (o.UpdateBlock term docs) = update term
entry_of (o.DeleteTerm term) = delete_term term
entry_of (o.DeleteQuery query) = delete_query (tree_of query)
entry_of (o.SetNumber term num value) = set_number term num value
entry_of (o.Commit pairs) = commit

abbrev pub kind_of : Entry → ℕ
kind_of add = 1
kind_of (update term) = 2
kind_of (delete_term term) = 3
kind_of (delete_query query) = 4
kind_of (set_number term num value) = 5
kind_of commit = 6
kind_of turn = 7

abbrev pub term_bytes : Term → List ℕ
term_bytes term = text_bytes term.field ++ text_bytes term.bytes

abbrev pub entry_bytes : Entry → List ℕ
entry_bytes add = []
entry_bytes (update term) = term_bytes term
entry_bytes (delete_term term) = term_bytes term
entry_bytes (delete_query query) = query_bytes query
entry_bytes (set_number term num value) = term_bytes term ++ (text_bytes num ++ signed64 value)
entry_bytes commit = []
entry_bytes turn = []

-- an encoded query that deletes has at most so many bytes
abbrev pub most_query_bytes : ℕ
most_query_bytes = 131072

-- the own term of an operation
pub record IsOwnTerm (term : Term) : Type 0 where
  pub field : IsName term.field
  pub text : IsText term.bytes
  pub short : length term.bytes ≤ most_term_bytes

-- the entries that have a spelling
abbrev pub IsEntry : Entry → Type 0
IsEntry add = Unit {0}
IsEntry (update term) = IsOwnTerm term
IsEntry (delete_term term) = IsOwnTerm term
IsEntry (delete_query query) = IsQuery query × (length (query_bytes query) ≤ most_query_bytes)
IsEntry (set_number term num value) = IsOwnTerm term × IsName num × FitsSigned w64 value
IsEntry commit = Unit {0}
IsEntry turn = Unit {0}
