-- What operations make of documents, which have no births.
use Rattle.std.proofs.Common.{◌≡◌, ◌∙◌, ℕ, zero, suc, ◌+◌, List, [], ◌∷◌, ◌++◌, take, Bool, true, false, cond, not, map, Option, Some, None, refl, sym, ap, append-nil, if◌then◌else◌}
use Rattle.std.specs.List.{filter, filter_map, cons_option}
use Rattle.std.proofs.lemmas.List.{map-append}
use Rattle.ix_base.specs.Births.{row_born, block_rows, first_birth, rows_from}
use Rattle.ix_base.specs.Matches.{matches, holds_term}
use Rattle.ix_base.specs.Query.{tree_of}
use Rattle.ix_base.specs.Steps.{step, after, with_number, with_value}
use Rattle.ix_base.specs.Documents.{Document}
use Rattle.ix_base.specs.declared.document.Row.{Row}
use Rattle.ix_base.specs.declared.document.Operation.{Operation}
use Rattle.ix_base.specs.declared.document.Operation.TheVariants.{Add, AddBlock, Update, UpdateBlock, DeleteTerm, DeleteQuery, SetNumber, Commit}
use Rattle.made_runs.specs.Born.{documents}

-- what an operation leaves of a document that stands when it comes
abbrev pub left_by : Operation → Document → Option Document
left_by (Add added) doc = Some doc
left_by (AddBlock docs) doc = Some doc
left_by (Update term added) doc = if holds_term term.field term.bytes doc then None else Some doc
left_by (UpdateBlock term docs) doc = if holds_term term.field term.bytes doc then None else Some doc
left_by (DeleteTerm term) doc = if holds_term term.field term.bytes doc then None else Some doc
left_by (DeleteQuery query) doc = if matches (tree_of query) doc then None else Some doc
left_by (SetNumber term name value) doc =
    Some (if holds_term term.field term.bytes doc then record doc { num = with_number name value doc.num } else doc)
left_by (Commit pairs) doc = Some doc

-- the documents that an operation adds; a block has 64 at most
abbrev pub added_by : Operation → List Document
added_by (Add doc) = doc ∷ []
added_by (AddBlock docs) = take 64 docs
added_by (Update term doc) = doc ∷ []
added_by (UpdateBlock term docs) = take 64 docs
added_by (DeleteTerm term) = []
added_by (DeleteQuery query) = []
added_by (SetNumber term name value) = []
added_by (Commit pairs) = []

-- the documents after operations, in their order
abbrev pub folded : List Document → List Operation → List Document
folded docs [] = docs
folded docs (op ∷ ops) = folded (filter_map (left_by op) docs ++ added_by op) ops

all_left : (docs : List Document) → docs ≡ filter_map (λ (doc : Document). Some doc) docs
all_left [] = refl
all_left (doc ∷ docs) = ap (λ (l : List Document). doc ∷ l) (all_left docs)

kept : (takes : Document → Bool) (rows : List Row)
    → documents (filter (λ row. not (takes row.doc)) rows) ≡ filter_map (λ doc. cond (takes doc) None (Some doc)) (documents rows)
kept takes [] = refl
kept takes (row ∷ rows) = by_test (takes row.doc) (kept takes rows)
  where
    rest : List Row
    rest = filter (λ row. not (takes row.doc)) rows

    by_test : (b : Bool) → documents rest ≡ filter_map (λ doc. cond (takes doc) None (Some doc)) (documents rows)
        → documents (cond (not b) (row ∷ rest) rest)
        ≡ cons_option (cond b None (Some row.doc)) (filter_map (λ doc. cond (takes doc) None (Some doc)) (documents rows))
    by_test true h = h
    by_test false h = ap (λ (l : List Document). row.doc ∷ l) h

changed : (f : Row → Row) (g : Document → Document) → ((row : Row) → (f row).doc ≡ g row.doc) → (rows : List Row)
    → documents (map f rows) ≡ filter_map (λ doc. Some (g doc)) (documents rows)
changed f g same [] = refl
changed f g same (row ∷ rows) =
    ap (λ (doc : Document). doc ∷ documents (map f rows)) (same row)
    ∙ ap (λ (l : List Document). g row.doc ∷ l) (changed f g same rows)

with_added : (rows : List Row) (n : ℕ) (doc : Document) → documents (rows ++ row_born n doc ∷ []) ≡ documents rows ++ doc ∷ []
with_added rows n doc = map-append (λ (row : Row). row.doc) rows (row_born n doc ∷ [])

-- the rows of a block have its documents
block_documents : (room birth : ℕ) (docs : List Document) → documents (rows_from room birth docs) ≡ take room docs
block_documents zero birth [] = refl
block_documents zero birth (doc ∷ docs) = refl
block_documents (suc room) birth [] = refl
block_documents (suc room) birth (doc ∷ docs) = ap (λ (l : List Document). doc ∷ l) (block_documents room (birth + 1) docs)

with_block : (rows : List Row) (n : ℕ) (docs : List Document) → documents (rows ++ block_rows n docs) ≡ documents rows ++ take 64 docs
with_block rows n docs =
    map-append (λ (row : Row). row.doc) rows (block_rows n docs)
    ∙ ap (λ (l : List Document). documents rows ++ l) (block_documents 64 (first_birth n) docs)

pub documents_step : (rows : List Row) (n : ℕ) (op : Operation)
    → documents (step rows n op) ≡ filter_map (left_by op) (documents rows) ++ added_by op
documents_step rows n (Add doc) = with_added rows n doc ∙ ap (λ (l : List Document). l ++ doc ∷ []) (all_left (documents rows))
documents_step rows n (AddBlock docs) = with_block rows n docs ∙ ap (λ (l : List Document). l ++ take 64 docs) (all_left (documents rows))
documents_step rows n (Update term doc) =
    with_added (filter (λ row. not (holds_term term.field term.bytes row.doc)) rows) n doc
    ∙ ap (λ (l : List Document). l ++ doc ∷ []) (kept (holds_term term.field term.bytes) rows)
documents_step rows n (UpdateBlock term docs) =
    with_block (filter (λ row. not (holds_term term.field term.bytes row.doc)) rows) n docs
    ∙ ap (λ (l : List Document). l ++ take 64 docs) (kept (holds_term term.field term.bytes) rows)
documents_step rows n (DeleteTerm term) = kept (holds_term term.field term.bytes) rows ∙ sym (append-nil _)
documents_step rows n (DeleteQuery query) = kept (matches (tree_of query)) rows ∙ sym (append-nil _)
documents_step rows n (SetNumber term name value) =
    changed (λ row. if holds_term term.field term.bytes row.doc then with_value name value row else row)
    (λ doc. if holds_term term.field term.bytes doc then record doc { num = with_number name value doc.num } else doc)
    (λ row. same row (holds_term term.field term.bytes row.doc)) rows
    ∙ sym (append-nil _)
  where
    same : (row : Row) (b : Bool) → (cond b (with_value name value row) row).doc
        ≡ cond b (record row.doc { num = with_number name value row.doc.num }) row.doc
    same row true = refl
    same row false = refl
documents_step rows n (Commit pairs) = all_left (documents rows) ∙ sym (append-nil _)

-- The documents of the rows after operations are what the operations make of the documents before.
pub documents_after : (rows : List Row) (last : ℕ) (ops : List Operation)
    → documents (after rows last ops) ≡ folded (documents rows) ops
documents_after rows last [] = refl
documents_after rows last (op ∷ ops) =
    documents_after (step rows (last + 1) op) (last + 1) ops
    ∙ ap (λ (docs : List Document). folded docs ops) (documents_step rows (last + 1) op)
