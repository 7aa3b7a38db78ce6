-- Of the pieces of all workers one at most has rows of an operation.
use Rattle.std.proofs.Common.{◌≡◌, ◌≢◌, ℕ, zero, suc, ◌+◌, ◌<◌, ◌≤◌, Bool, true, false, cond, eqb, List, [], ◌∷◌, ◌++◌, length, refl, ap, arith, ne_eqb}
use Rattle.std.specs.Prelude.{◌||◌}
use Rattle.std.specs.List.{AllByRecursion}
use Rattle.std.proofs.lemmas.Bool.{eq-eqb, eqb-true, or_from}
use Rattle.std.proofs.lemmas.List.Folds.{list_any-append}
use Rattle.ix_base.specs.Births.{first_birth, number_of, rows_from}
use Rattle.ix_base.specs.Documents.{Document}
use Rattle.ix_base.specs.Steps.{numbered_from}
use Rattle.ix_base.specs.declared.document.Operation.{Operation}
use Rattle.ix_base.specs.declared.document.Operation.TheVariants.{Add, AddBlock, Update, UpdateBlock, DeleteTerm, DeleteQuery, SetNumber, Commit}
use Rattle.ix_base.specs.declared.document.Row.{Row}
use Rattle.delete_queue.specs.declared.queue.DeleteQueue.{DeleteQueue}
use Rattle.delete_queue.specs.Seats.{base_of}
use Rattle.row_fates.specs.Fate.{Numbered, added, rows_added}
use Rattle.ram_postings.specs.Buffer.{born_rows}
use Rattle.segment_core.specs.Births.{by_bool, has_number, lists_at}
use Rattle.segment_core.proofs.Numbers.{list_false, lists_joined, one_at_most, one_list}
use Rattle.thread_writer.specs.Writing.{Did, Gave}
use Rattle.thread_writer.specs.declared.piece.Piece.{Piece}
use Rattle.round_order.specs.Order.{Working, told_of, seconds}
use Rattle.flush_control.specs.Logs.{Left, IsLast, told_at, all_pieces}
use Rattle.flush_control.specs.Rounds.{PiecesApart}
use Rattle.flush_control.proofs.LogRows.{all_told, told_whole, woven_measure}
use Rattle.flush_control.proofs.Numbers.{piece_lists}

-- ---- the rows of operations

-- the operation counts where it has this number
abbrev one_op : ℕ → ℕ → ℕ
one_op m n = cond (eqb m n) 1 0

-- how many of the operations have this number
abbrev ops_at : ℕ → List Numbered → ℕ
ops_at n [] = 0
ops_at n (o ∷ ops) = one_op o.0 n + ops_at n ops

op_true : (m n : ℕ) → eqb m n ≡ true → one_op m n ≡ 1
op_true m n e = rw e refl

op_false : (m n : ℕ) → eqb m n ≡ false → one_op m n ≡ 0
op_false m n e = rw e refl

ops_append : (n : ℕ) (xs ys : List Numbered) → ops_at n (xs ++ ys) ≡ ops_at n xs + ops_at n ys
ops_append n [] ys = omega arith
ops_append n (x ∷ xs) ys = omega (arith, ops_append n xs ys)

-- these rows are all of one operation
abbrev AreOf : ℕ → List Row → Type 0
AreOf m rows = AllByRecursion (λ (r : Row). number_of r.birth ≡ m) rows

rows_of_block : (m room birth : ℕ) (docs : List Document) → first_birth m ≤ birth → birth + room ≤ first_birth m + 64 → AreOf m (rows_from room birth docs)
rows_of_block m room birth [] le fits = tt
rows_of_block m zero birth (doc ∷ docs) le fits = tt
rows_of_block m (suc room) birth (doc ∷ docs) le fits = (omega (arith, le, fits), rows_of_block m room (birth + 1) docs (omega (arith, le)) (omega (arith, fits)))

added_of : (m : ℕ) (op : Operation) → AreOf m (added m op)
added_of m (Add doc) = (omega arith, tt)
added_of m (AddBlock docs) = rows_of_block m 64 (first_birth m) docs (omega arith) (omega arith)
added_of m (Update term doc) = (omega arith, tt)
added_of m (UpdateBlock term docs) = rows_of_block m 64 (first_birth m) docs (omega arith) (omega arith)
added_of m (DeleteTerm term) = tt
added_of m (DeleteQuery query) = tt
added_of m (SetNumber term name value) = tt
added_of m (Commit pairs) = tt

none_other : (m n : ℕ) (rows : List Row) → AreOf m rows → m ≢ n → has_number rows n ≡ false
none_other m n [] are ne = refl
none_other m n (r ∷ rs) are ne =
    or_from (eqb (number_of r.birth) n) (has_number rs n) (ne_eqb (number_of r.birth) n (λ is. ne (same is))) (none_other m n rs are.1 ne)
  where
    same : number_of r.birth ≡ n → m ≡ n
    same is = let own : number_of r.birth ≡ m = are.0 in omega (arith, own, is)

one_added : (n m : ℕ) (op : Operation) → one_list n (added m op) ≤ one_op m n
one_added n m op =
    by_bool (eqb m n)
    (λ e. omega (arith, op_true m n e, one_at_most n (added m op)))
    (λ e. omega (arith, list_false n (added m op) (none_other m n (added m op) (added_of m op) (λ is. absurd (clash is e)))))
  where
    clash : m ≡ n → eqb m n ≡ false → ⊥
    clash is e = let t : eqb m n ≡ true = eq-eqb m n is in cc

one_joined : (n : ℕ) (xs ys : List Row) → one_list n (xs ++ ys) ≤ one_list n xs + one_list n ys
one_joined n xs ys = by (has_number xs n) (has_number ys n) (list_any-append (λ (r : Row). eqb (number_of r.birth) n) xs ys)
  where
    by : (a b : Bool) → has_number (xs ++ ys) n ≡ (a || b) → cond (has_number (xs ++ ys) n) 1 0 ≤ cond a 1 0 + cond b 1 0
    by true b e = omega (arith, one_at_most n (xs ++ ys))
    by false true e = omega (arith, one_at_most n (xs ++ ys))
    by false false e = omega (arith, list_false n (xs ++ ys) e)

-- the rows that operations add are of these
rows_few : (n : ℕ) (ops : List Numbered) → one_list n (rows_added ops) ≤ ops_at n ops
rows_few n [] = omega arith
rows_few n (o ∷ ops) = omega (arith, one_joined n (added o.0 o.1) (rows_added ops), one_added n o.0 o.1, rows_few n ops)

-- ---- the pieces of workers

few_at : (n : ℕ) (told : List Numbered) (gave : List Piece) (rest : List Row) → Gave told gave rest
    → lists_at n (piece_lists gave) + one_list n rest ≤ ops_at n told
few_at n told [] rest is = omega (arith, ap (one_list n) is, rows_few n told)
few_at n told (p ∷ gave) rest of =
    omega (
      arith,
      ap (ops_at n) of.2,
      ops_append n of.0 of.1,
      ap (one_list n) of.3,
      rows_few n of.0,
      few_at n of.1 gave rest of.4,
    )

all_at : (n : ℕ) (q : DeleteQueue) (lefts : List Left) → AllByRecursion (λ (l : Left). Did q l.parts l.told l.gave) lefts
    → AllByRecursion (λ (l : Left). IsLast (base_of q) l.parts.rest l.last) lefts → lists_at n (piece_lists (all_pieces lefts)) ≤ ops_at n (all_told lefts)
all_at n q [] did lasts = omega arith
all_at n q (l ∷ lefts) did lasts =
    let rows : Piece → List Row = λ p. p.frozen.rows.items in
    omega (
      arith,
      lists_joined rows n (l.gave ++ l.last ∷ []) (all_pieces lefts),
      lists_joined rows n l.gave (l.last ∷ []),
      ap (one_list n) lasts.0.rows,
      few_at n l.told l.gave (born_rows l.parts.rest) did.0.rows,
      all_at n q lefts did.1 lasts.1,
      ops_append n l.told (all_told lefts),
    )

-- ---- of the whole order

ops_later : (n last : ℕ) (ops : List Operation) → n ≤ last → ops_at n (numbered_from last ops) ≡ 0
ops_later n last [] le = refl
ops_later n last (op ∷ ops) le =
    omega (arith, op_false (last + 1) n (ne_eqb (last + 1) n (λ is. absurd (omega (arith, is, le)))), ops_later n (last + 1) ops (omega (arith, le)))

ops_once : (n last : ℕ) (ops : List Operation) → ops_at n (numbered_from last ops) ≤ 1
ops_once n last [] = omega arith
ops_once n last (op ∷ ops) =
    by_bool (eqb (last + 1) n)
    (λ e. let is = eqb-true (last + 1) n e in omega (arith, op_true (last + 1) n e, ops_later n (last + 1) ops (omega (arith, is))))
    (λ e. omega (arith, op_false (last + 1) n e, ops_once n (last + 1) ops))

pub pieces_apart : (q : DeleteQueue) (lefts : List Left) (base : ℕ) (ts : List Working) → AllByRecursion (λ (l : Left). Did q l.parts l.told l.gave) lefts
    → AllByRecursion (λ (l : Left). IsLast (base_of q) l.parts.rest l.last) lefts → AllByRecursion (λ (t : Working). t.0 < length lefts) ts → ((i : ℕ) → told_of i base ts ≡ told_at lefts i)
    → PiecesApart (all_pieces lefts)
pieces_apart q lefts base ts did lasts few order n =
    omega (
      arith,
      all_at n q lefts did lasts,
      ap (ops_at n) (told_whole lefts base ts order),
      woven_measure (ops_at n) refl (ops_append n) (length lefts) base ts few,
      ops_once n base (seconds ts),
    )
