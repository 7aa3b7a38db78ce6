-- A buffer, and the births of its rows.
use Rattle.std.proofs.Common.{◌≡◌, ◌∙◌, ℕ, zero, suc, ◌+◌, ◌<◌, ◌≤◌, List, [], ◌∷◌, ◌++◌, Option, Some, None, length, map, drop, refl, sym, ap, arith, append_assoc}
use Rattle.std.specs.List.{All, AllByRecursion}
use Rattle.std.proofs.lemmas.List.Elements.{All-from_recursion, All-map}
use Rattle.ix_base.specs.Births.{first_birth, last_birth, rows_from, block_rows}
use Rattle.ix_base.specs.Documents.{Document}
use Rattle.ix_base.specs.declared.document.Row.{Row}
use Rattle.ix_base.specs.declared.document.Operation.{Operation}
use Rattle.ix_base.specs.declared.document.Operation.TheVariants.{Add, AddBlock, Update, UpdateBlock, DeleteTerm, DeleteQuery, SetNumber, Commit}
use Rattle.row_fates.specs.Fate.{added, BornBy, BirthsRise}
use Rattle.ram_postings.specs.Buffer.{Staged, waiting, row_of, born_rows, with_births}
use Rattle.thread_writer.specs.Writing.{added_documents}

-- ---- documents staged

-- documents that wait are in no row
pub born_still : (xs : List Staged) (docs : List Document) → born_rows (xs ++ map waiting docs) ≡ born_rows xs
born_still [] [] = refl
born_still [] (doc ∷ docs) = born_still [] docs
born_still (x ∷ xs) docs = ap (λ (rs : List Row). row_of x.doc x.birth ++ rs) (born_still xs docs)

pub all_wait : (xs : List Staged) (docs : List Document) → All (λ s. s.birth ≡ None) (drop (length xs) (xs ++ map waiting docs))
all_wait [] docs = All-map (λ (s : Staged). s.birth ≡ None) waiting docs (λ i d lt. refl)
all_wait (x ∷ xs) docs = all_wait xs docs

born_all : (docs : List Document) (room birth : ℕ) → length docs ≤ room → born_rows (with_births (map waiting docs) zero (length docs) birth) ≡ rows_from room birth docs
born_all [] room birth fits = refl
born_all (doc ∷ docs) zero birth fits = absurd (omega (arith, fits))
born_all (doc ∷ docs) (suc room) birth fits =
    ap (λ (rs : List Row). record { birth = birth; doc = doc } ∷ rs) (born_all docs room (birth + 1) (omega (arith, fits)))

-- once they have their births they are the last rows
pub born_last : (xs : List Staged) (docs : List Document) (room birth : ℕ) → length docs ≤ room
    → born_rows (with_births (xs ++ map waiting docs) (length xs) (length docs) birth) ≡ born_rows xs ++ rows_from room birth docs
born_last [] docs room birth fits = born_all docs room birth fits
born_last (x ∷ xs) docs room birth fits =
    ap (λ (rs : List Row). row_of x.doc x.birth ++ rs) (born_last xs docs room birth fits)
    ∙ sym (append_assoc (row_of x.doc x.birth) (born_rows xs) (rows_from room birth docs))

pub count_same : (xs : List Staged) (place count birth : ℕ) → length (with_births xs place count birth) ≡ length xs
count_same [] place count birth = refl
count_same (x ∷ xs) (suc place) count birth = ap suc (count_same xs place count birth)
count_same (x ∷ xs) zero zero birth = refl
count_same (x ∷ xs) zero (suc count) birth = ap suc (count_same xs zero count (birth + 1))

one_row : (doc : Document) (birth : Option ℕ) (rows : List Row) (n : ℕ) → length rows ≤ n → length (row_of doc birth ++ rows) ≤ suc n
one_row doc None rows n le = omega (arith, le)
one_row doc (Some birth) rows n le = omega (arith, le)

-- no more rows than documents
pub few_rows : (xs : List Staged) → length (born_rows xs) ≤ length xs
few_rows [] = omega arith
few_rows (x ∷ xs) = one_row x.doc x.birth (born_rows xs) (length xs) (few_rows xs)

-- ---- births

born_below : (m n : ℕ) (rows : List Row) → m < n → BornBy m rows → AllByRecursion (λ (row : Row). row.birth < first_birth n) rows
born_below m n [] lt born = tt
born_below m n (r ∷ rs) lt born = (omega (arith, born.0), born_below m n rs lt born.1)

pub all_below : (m n : ℕ) (rows : List Row) → m < n → BornBy m rows → All (λ (row : Row). row.birth < first_birth n) rows
all_below m n rows lt born = All-from_recursion _ rows (born_below m n rows lt born)

pub born_more : (m n : ℕ) (rows : List Row) → m ≤ n → BornBy m rows → BornBy n rows
born_more m n [] le born = tt
born_more m n (r ∷ rs) le born = (omega (arith, born.0), born_more m n rs le born.1)

-- rows that are born one after another rise, within their room
rise_from : (low room birth : ℕ) (docs : List Document) → low < birth → BirthsRise low (rows_from room birth docs)
rise_from low room birth [] lt = tt
rise_from low zero birth (doc ∷ docs) lt = tt
rise_from low (suc room) birth (doc ∷ docs) lt = (lt, rise_from birth room (birth + 1) docs (omega arith))

within_room : (n room birth : ℕ) (docs : List Document) → birth + room ≤ last_birth n + 1 → BornBy n (rows_from room birth docs)
within_room n room birth [] le = tt
within_room n zero birth (doc ∷ docs) le = tt
within_room n (suc room) birth (doc ∷ docs) le = (omega (arith, le), within_room n room (birth + 1) docs (omega (arith, le)))

births_end : (low m birth : ℕ) (rows behind : List Row) → BirthsRise low rows → BornBy m rows → low < birth → last_birth m < birth
    → ((low : ℕ) → low < birth → BirthsRise low behind) → BirthsRise low (rows ++ behind)
births_end low m birth [] behind rise born lt later is = is low lt
births_end low m birth (r ∷ rs) behind rise born lt later is = let here = born.0 in (rise.0, births_end r.birth m birth rs behind rise.1 born.1 (omega (arith, here, later)) later is)

born_end : (n : ℕ) (rows behind : List Row) → BornBy n rows → BornBy n behind → BornBy n (rows ++ behind)
born_end n [] behind born is = is
born_end n (r ∷ rs) behind born is = (born.0, born_end n rs behind born.1 is)

pub births_added : (low m n : ℕ) (rows : List Row) (docs : List Document) → BirthsRise (last_birth low) rows → BornBy m rows → low < n → m < n
    → BirthsRise (last_birth low) (rows ++ block_rows n docs)
births_added low m n rows docs rise born lt later =
    births_end (last_birth low) m (first_birth n) rows (block_rows n docs) rise born (omega (arith, lt)) (omega (arith, later))
    (λ k below. rise_from k 64 (first_birth n) docs below)

pub born_added : (m n : ℕ) (rows : List Row) (docs : List Document) → BornBy m rows → m < n → BornBy n (rows ++ block_rows n docs)
born_added m n rows docs born later =
    born_end n rows (block_rows n docs) (born_more m n rows (omega (arith, later)) born) (within_room n 64 (first_birth n) docs (omega arith))

-- the rows that an operation adds are those of a block of its documents
pub added_is : (n : ℕ) (op : Operation) → added n op ≡ block_rows n (added_documents op)
added_is n (Add doc) = refl
added_is n (AddBlock docs) = refl
added_is n (Update term doc) = refl
added_is n (UpdateBlock term docs) = refl
added_is n (DeleteTerm term) = refl
added_is n (DeleteQuery query) = refl
added_is n (SetNumber term name value) = refl
added_is n (Commit pairs) = refl
