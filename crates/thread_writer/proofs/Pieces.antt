-- A piece from one moment of its seat to a later one, and the rows of pieces.
use Rattle.std.proofs.Common.{◌≡◌, ◌∙◌, ℕ, ◌+◌, ◌≤◌, Bool, true, false, if◌then◌else◌, List, [], ◌∷◌, ◌++◌, refl, sym, ap, subst, arith, append_assoc}
use Rattle.std.specs.List.{AllByRecursion}
use Rattle.ix_base.specs.declared.document.Row.{Row}
use Rattle.ix_base.specs.declared.document.Operation.{Operation}
use Rattle.ix_base.specs.declared.document.Operation.TheVariants.{Add, AddBlock, Update, UpdateBlock, DeleteTerm, DeleteQuery, SetNumber, Commit}
use Rattle.delete_queue.specs.declared.queue.DeleteQueue.{DeleteQueue}
use Rattle.delete_queue.specs.declared.seat.Seat.{Seat}
use Rattle.delete_queue.specs.Seats.{Grows}
use Rattle.row_fates.specs.Fate.{Numbered, added, adds, rows_added, adding}
use Rattle.thread_writer.specs.declared.piece.Piece.{Piece}
use Rattle.thread_writer.specs.Writing.{piece_rows, IsPiece}
use Rattle.thread_writer.specs.Laws.{PiecesStay, PiecesHaveAll, PiecesAreFew, has_row}
use Rattle.thread_writer.proofs.Knowing.{entries_stay}

pub pieces_stay : PiecesStay
pieces_stay q s t p g is = let last = g.extends.last in let within = is.within in record {
  worker = is.worker ∙ sym g.number;
  inversion = is.inversion;
  few = is.few;
  from = is.from;
  to = is.to;
  begun = is.begun;
  nothing = is.nothing;
  took = record {
    entries = is.took.entries;
    ends = is.took.ends;
    stand = entries_stay s t is.from is.took.entries g.extends is.took.stand;
    fates = is.took.fates;
    bounds = is.took.bounds;
    upto = is.took.upto;
  };
  births = is.births;
  born = is.born;
  numbers = is.numbers;
  reach = is.reach;
  not_before = is.not_before;
  within = omega (arith, last, within);
}

pub all_stay : (q : DeleteQueue) (s t : Seat) (ps : List Piece) → Grows s t → AllByRecursion (IsPiece q s) ps → AllByRecursion (IsPiece q t) ps
all_stay q s t [] g is = tt
all_stay q s t (p ∷ ps) g is = (pieces_stay q s t p g is.0, all_stay q s t ps g is.1)

-- ---- the rows of pieces

rows_joined : (xs ys : List Numbered) → rows_added (xs ++ ys) ≡ rows_added xs ++ rows_added ys
rows_joined [] ys = refl
rows_joined (x ∷ xs) ys = ap (λ (rs : List Row). added x.0 x.1 ++ rs) (rows_joined xs ys) ∙ sym (append_assoc (added x.0 x.1) (rows_added xs) (rows_added ys))

pub pieces_have_all : PiecesHaveAll
pieces_have_all told [] rest is = is
pieces_have_all told (p ∷ gave) rest is =
    append_assoc p.frozen.rows.items (piece_rows gave) rest
    ∙ ap (λ (rs : List Row). p.frozen.rows.items ++ rs) (pieces_have_all is.1 gave rest is.4)
    ∙ ap (λ (rs : List Row). rs ++ rows_added is.1) is.3 ∙ sym (ap rows_added is.2 ∙ rows_joined is.0 is.1)

one_at_most : (b : Bool) → (if b then 1 else 0) ≤ 1
one_at_most true = omega arith
one_at_most false = omega arith

-- an operation that adds no document has no row
one_more : (n k : ℕ) (op : Operation) (rows : List Row) → (if has_row rows then 1 else 0) ≤ k
    → (if has_row (added n op ++ rows) then 1 else 0) ≤ (if adds op then 1 else 0) + k
one_more n k (Add doc) rows le = omega arith
one_more n k (AddBlock docs) rows le = let one = one_at_most (has_row (added n (AddBlock docs) ++ rows)) in omega (arith, one)
one_more n k (Update term doc) rows le = omega arith
one_more n k (UpdateBlock term docs) rows le = let one = one_at_most (has_row (added n (UpdateBlock term docs) ++ rows)) in omega (arith, one)
one_more n k (DeleteTerm term) rows le = omega (arith, le)
one_more n k (DeleteQuery query) rows le = omega (arith, le)
one_more n k (SetNumber term name value) rows le = omega (arith, le)
one_more n k (Commit pairs) rows le = omega (arith, le)

some_adds : (ops : List Numbered) → (if has_row (rows_added ops) then 1 else 0) ≤ adding ops
some_adds [] = omega arith
some_adds (o ∷ ops) = one_more o.0 (adding ops) o.1 (rows_added ops) (some_adds ops)

adding_joined : (xs ys : List Numbered) → adding (xs ++ ys) ≡ adding xs + adding ys
adding_joined [] ys = omega arith
adding_joined (x ∷ xs) ys = let more = adding_joined xs ys in omega (arith, more)

have_few : (ops : List Numbered) (rows : List Row) → rows ≡ rows_added ops → (if has_row rows then 1 else 0) ≤ adding ops
have_few ops rows is = subst (λ (rs : List Row). (if has_row rs then 1 else 0) ≤ adding ops) (sym is) (some_adds ops)

pub pieces_are_few : PiecesAreFew
pieces_are_few told [] rest is = let few = have_few told rest is in omega (arith, few)
pieces_are_few told (p ∷ gave) rest is =
    let first = have_few is.0 p.frozen.rows.items is.3 in
    let others = pieces_are_few is.1 gave rest is.4 in
    let all : adding told ≡ adding is.0 + adding is.1 = ap adding is.2 ∙ adding_joined is.0 is.1 in
    omega (arith, first, others, all)
