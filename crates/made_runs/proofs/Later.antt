-- Rows that operations add evolve by themselves.
use Rattle.std.proofs.Common.{◌≡◌, ◌∙◌, ℕ, zero, suc, ◌+◌, ◌<◌, ◌≤◌, List, [], ◌∷◌, ◌++◌, Bool, true, false, cond, not, nat_lt, refl, ap, arith, if◌then◌else◌}
use Rattle.std.specs.List.{filter, AllByRecursion}
use Rattle.std.proofs.lemmas.Bool.{lt-ltb, le-ltb}
use Rattle.std.proofs.lemmas.List.Elements.{filter-append}
use Rattle.ix_base.specs.Births.{row_born, block_rows, first_birth, last_birth, rows_from}
use Rattle.ix_base.specs.Matches.{matches, holds_term}
use Rattle.ix_base.specs.Query.{tree_of}
use Rattle.ix_base.specs.Steps.{step, after, with_value}
use Rattle.ix_base.specs.Documents.{Document}
use Rattle.ix_base.specs.declared.document.Row.{Row}
use Rattle.ix_base.specs.declared.document.Operation.{Operation}
use Rattle.ix_base.specs.declared.document.Operation.TheVariants.{Add, AddBlock, Update, UpdateBlock, DeleteTerm, DeleteQuery, SetNumber, Commit}
use Rattle.row_fates.specs.Fate.{BornBy}
use Rattle.report_text.specs.Born.{born_after}
use Rattle.made_runs.specs.Born.{BornLater}
use Rattle.made_runs.proofs.Chosen.{filters_commute, filter_changed, filter_none}

-- the row was added by an operation of a later number
abbrev is_later : ℕ → Row → Bool
is_later base row = nat_lt (last_birth base) row.birth

-- rows of later numbers are kept behind the others
added_later : (base : ℕ) (more rows : List Row) → born_after base more ≡ more
    → born_after base (rows ++ more) ≡ born_after base rows ++ more
added_later base more rows later =
    filter-append (is_later base) rows more ∙ ap (λ (rs : List Row). born_after base rows ++ rs) later

row_later : (base n : ℕ) (doc : Document) → base < n → born_after base (row_born n doc ∷ []) ≡ row_born n doc ∷ []
row_later base n doc lt =
    ap (λ (b : Bool). cond b (row_born n doc ∷ []) []) (lt-ltb (last_birth base) (first_birth n) (omega (arith, lt)))

rows_later : (base room birth : ℕ) (docs : List Document) → last_birth base < birth
    → born_after base (rows_from room birth docs) ≡ rows_from room birth docs
rows_later base zero birth [] lt = refl
rows_later base zero birth (doc ∷ docs) lt = refl
rows_later base (suc room) birth [] lt = refl
rows_later base (suc room) birth (doc ∷ docs) lt =
    rw (lt-ltb (last_birth base) birth lt)
    (ap (λ (rs : List Row). record { birth = birth; doc = doc } ∷ rs) (rows_later base room (birth + 1) docs (omega (arith, lt))))

block_later : (base n : ℕ) (docs : List Document) → base < n → born_after base (block_rows n docs) ≡ block_rows n docs
block_later base n docs lt = rows_later base 64 (first_birth n) docs (omega (arith, lt))

-- what an operation takes of the rows it takes of those that are born later
taken_later : (base : ℕ) (keeps : Row → Bool) (rows : List Row) → born_after base (filter keeps rows) ≡ filter keeps (born_after base rows)
taken_later base keeps rows = filters_commute (is_later base) keeps rows

step_later : (base n : ℕ) (rows : List Row) (op : Operation) → base < n
    → born_after base (step rows n op) ≡ step (born_after base rows) n op
step_later base n rows (Add doc) lt = added_later base (row_born n doc ∷ []) rows (row_later base n doc lt)
step_later base n rows (AddBlock docs) lt = added_later base (block_rows n docs) rows (block_later base n docs lt)
step_later base n rows (Update term doc) lt =
    added_later base (row_born n doc ∷ []) (filter (λ row. not (holds_term term.field term.bytes row.doc)) rows) (row_later base n doc lt)
    ∙ ap (λ (rs : List Row). rs ++ row_born n doc ∷ []) (taken_later base (λ row. not (holds_term term.field term.bytes row.doc)) rows)
step_later base n rows (UpdateBlock term docs) lt =
    added_later base (block_rows n docs) (filter (λ row. not (holds_term term.field term.bytes row.doc)) rows) (block_later base n docs lt)
    ∙ ap (λ (rs : List Row). rs ++ block_rows n docs) (taken_later base (λ row. not (holds_term term.field term.bytes row.doc)) rows)
step_later base n rows (DeleteTerm term) lt = taken_later base (λ row. not (holds_term term.field term.bytes row.doc)) rows
step_later base n rows (DeleteQuery query) lt = taken_later base (λ row. not (matches (tree_of query) row.doc)) rows
step_later base n rows (SetNumber term name value) lt =
    filter_changed (is_later base)
    (λ row. if holds_term term.field term.bytes row.doc then with_value name value row else row)
    (λ row. same row (holds_term term.field term.bytes row.doc)) rows
  where
    same : (row : Row) (b : Bool) → is_later base (cond b (with_value name value row) row) ≡ is_later base row
    same row true = refl
    same row false = refl
step_later base n rows (Commit pairs) lt = refl

after_later : (base last : ℕ) (rows : List Row) (ops : List Operation) → base ≤ last
    → born_after base (after rows last ops) ≡ after (born_after base rows) last ops
after_later base last rows [] le = refl
after_later base last rows (op ∷ ops) le =
    after_later base (last + 1) (step rows (last + 1) op) ops (omega (arith, le))
    ∙ ap (λ (rs : List Row). after rs (last + 1) ops) (step_later base (last + 1) rows op (omega (arith, le)))

none_later : (base : ℕ) (rows : List Row) → BornBy base rows → born_after base rows ≡ []
none_later base rows born = filter_none (is_later base) rows (each rows born)
  where
    each : (rs : List Row) → BornBy base rs → AllByRecursion (λ (row : Row). is_later base row ≡ false) rs
    each [] h = tt
    each (row ∷ rs) h = (le-ltb (last_birth base) row.birth h.0, each rs h.1)

pub born_later : BornLater
born_later rows base ops born =
    after_later base base rows ops (omega arith) ∙ ap (λ (rs : List Row). after rs base ops) (none_later base rows born)
