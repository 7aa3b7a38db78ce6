-- Which operations are refused because their own term or their query is too long.
use Rattle.std.specs.Prelude.{◌≡◌, ℕ, ◌-◌, ◌^◌, min, length, List, [], ◌∷◌, Option, Some, None, option_map, nat_lt, if◌then◌else◌}
use Rattle.ix_base.specs.Entry.{most_query_bytes}
use Rattle.ix_base.specs.Query.{tree_of}
use Rattle.ix_base.specs.QueryBytes.{query_bytes}
use Rattle.ix_base.specs.Terms.{most_term_bytes, terms, long_term}
use Rattle.ix_base.specs.Tree.{Tree}
use Rattle.ix_base.specs.Documents.{Document}
use Rattle.ix_base.specs.declared.document.Term as own
use Rattle.ix_base.specs.declared.document.Operation.{Operation}
use Rattle.ix_base.specs.declared.document.Operation.TheVariants.{Add, AddBlock, Update, UpdateBlock, DeleteTerm, DeleteQuery, SetNumber, Commit}
use Rattle.ix_base.specs.declared.refusal.Refusal.{Refusal}
use Rattle.ix_base.specs.declared.refusal.Refusal.TheVariants.{Term, Query}
use Rattle.ix_base.specs.declared.refusal.Refused.{Refused}
use Rattle.ix_base.specs.declared.refusal.Refused.TheVariants.{For, NoMemory}

-- the size of an encoded query, or the greatest 64-bit number where it is more
abbrev pub query_size : Tree → ℕ
query_size query = min (length (query_bytes query)) (2 ^ 64 - 1)

abbrev pub term_refusal : own.Term → Option Refusal
term_refusal term = if nat_lt most_term_bytes (length term.bytes) then Some (Term (length term.bytes)) else None

abbrev pub query_refusal : Tree → Option Refusal
query_refusal query = if nat_lt most_query_bytes (query_size query) then Some (Query (query_size query)) else None

-- the refusal of an operation for what it names itself, apart from its documents
abbrev pub own_refusal : Operation → Option Refusal
own_refusal (Add doc) = None
own_refusal (AddBlock docs) = None
own_refusal (Update term doc) = term_refusal term
own_refusal (UpdateBlock term docs) = term_refusal term
own_refusal (DeleteTerm term) = term_refusal term
own_refusal (DeleteQuery query) = query_refusal (tree_of query)
own_refusal (SetNumber term num value) = term_refusal term
own_refusal (Commit pairs) = None

-- the refusal of a document: for its first term that is too long
abbrev pub document_refusal : Document → Option Refusal
document_refusal doc = option_map Term (long_term (terms doc))

abbrev pub first_refusal : Option Refusal → Option Refusal → Option Refusal
first_refusal (Some refusal) later = Some refusal
first_refusal None later = later

-- the refusal of documents: of the first one that has one
abbrev pub block_refusal : List Document → Option Refusal
block_refusal [] = None
block_refusal (doc ∷ docs) = first_refusal (document_refusal doc) (block_refusal docs)

-- the refusal of an operation: for what it names itself, and then for its documents
abbrev pub refusal : Operation → Option Refusal
refusal (Add doc) = document_refusal doc
refusal (AddBlock docs) = block_refusal docs
refusal (Update term doc) = first_refusal (term_refusal term) (document_refusal doc)
refusal (UpdateBlock term docs) = first_refusal (term_refusal term) (block_refusal docs)
refusal (DeleteTerm term) = own_refusal (DeleteTerm term)
refusal (DeleteQuery query) = own_refusal (DeleteQuery query)
refusal (SetNumber term num value) = own_refusal (SetNumber term num value)
refusal (Commit pairs) = None

-- What a call that is refused says: the refusal, or that memory ran out, which comes only where
-- there is none.
abbrev pub Refuses : Refused → Option Refusal → Type 0
Refuses (For refusal) found = found ≡ Some refusal
Refuses NoMemory found = found ≡ None
