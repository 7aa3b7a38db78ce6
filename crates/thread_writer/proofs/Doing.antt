-- What a writer did, from one call to the next.
use Rattle.std.proofs.Common.{◌≡◌, ◌∙◌, ℕ, ◌+◌, ◌<◌, true, false, not, List, [], ◌∷◌, ◌++◌, slice_index, refl, sym, ap, subst, arith, append-nil, append_assoc, eq-eqb, ne_eqb}
use Rattle.std.specs.List.{AllByRecursion}
use Rattle.std.proofs.lemmas.List.Elements.{filter-append}
use Rattle.ix_base.specs.Entry.{Entry, entry_of, kind_of, turn}
use Rattle.ix_base.proofs.EntryLaws.{head_again, most_bytes}
use Rattle.ix_base.specs.Words.{Spells, head_kind, entry_words}
use Rattle.ix_base.specs.declared.document.Row.{Row}
use Rattle.ix_base.specs.declared.document.Operation.{Operation}
use Rattle.ix_base.specs.declared.document.Operation.TheVariants.{Add, AddBlock, Update, UpdateBlock, DeleteTerm, DeleteQuery, SetNumber, Commit}
use Rattle.queue_rule.specs.declared.view.Own.{Own}
use Rattle.queue_rule.specs.Chain.{own}
use Rattle.delete_queue.specs.declared.queue.DeleteQueue.{DeleteQueue}
use Rattle.delete_queue.specs.declared.seat.Linked.{Linked}
use Rattle.delete_queue.specs.declared.seat.Linked.TheVariants.{At, Closed, Full}
use Rattle.delete_queue.specs.Answers.{IfAt, IfClosed, IfFull}
use Rattle.delete_queue.specs.Seats.{Grows, Links, FindsClosed, base_of, own_of, seen_of}
use Rattle.row_fates.specs.Fate.{Numbered, added, rows_added}
use Rattle.ram_postings.specs.Buffer.{born_rows}
use Rattle.thread_writer.specs.declared.piece.Piece.{Piece}
use Rattle.thread_writer.specs.declared.piece.HandedBack.{HandedBack}
use Rattle.thread_writer.specs.Writing.{is_turn, numbered_own, Tells, IsPiece, Gave, Did}
use Rattle.thread_writer.proofs.Pieces.{all_stay}

-- ---- kinds

-- the head of an entry's words has its kind
pub kind_is : (words : List ℕ) (e : Entry) → Spells words e → head_kind (slice_index words 0) ≡ kind_of e
kind_is words e is =
    let most = most_bytes e is.fits in
    ap (λ (ws : List ℕ). head_kind (slice_index ws 0)) is.spelled ∙ (head_again (kind_of e) _ (omega (arith, most))).0

pub turns : (words : List ℕ) → Spells words turn → is_turn words ≡ true
turns words is = eq-eqb _ 7 (kind_is words turn is)

pub operation_kind : (op : Operation) → kind_of (entry_of op) < 7
operation_kind (Add doc) = omega arith
operation_kind (AddBlock docs) = omega arith
operation_kind (Update term doc) = omega arith
operation_kind (UpdateBlock term docs) = omega arith
operation_kind (DeleteTerm term) = omega arith
operation_kind (DeleteQuery query) = omega arith
operation_kind (SetNumber term name value) = omega arith
operation_kind (Commit pairs) = omega arith

pub is_no_turn : (words : List ℕ) (op : Operation) → Spells words (entry_of op) → is_turn words ≡ false
is_no_turn words op is =
    let kind = kind_is words (entry_of op) is in let low = operation_kind op in
    ne_eqb _ 7 (λ e. let z : ⊥ = omega (arith, kind, low, e) in z)

-- ---- what was told

tells_more : (base n place : ℕ) (told : List Numbered) (os : List Own) (words : List ℕ) (op : Operation) → Tells base told os → n ≡ base + place → Spells words (entry_of op)
    → Tells base (told ++ (n, op) ∷ []) (os ++ own place words ∷ [])
tells_more base n place [] [] words op h is s = (is, s, tt)
tells_more base n place [] (o ∷ os) words op h is s = absurd h
tells_more base n place (t ∷ told) [] words op h is s = absurd h
tells_more base n place (t ∷ told) (o ∷ os) words op h is s = (h.0, h.1, tells_more base n place told os words op h.2 is s)

own_more : (os : List Own) (place : ℕ) (words : List ℕ) → is_turn words ≡ false → numbered_own (os ++ own place words ∷ []) ≡ numbered_own os ++ own place words ∷ []
own_more os place words is = filter-append (λ (o : Own). not (is_turn o.words)) os (own place words ∷ []) ∙ rw is refl

own_same : (os : List Own) (place : ℕ) (words : List ℕ) → is_turn words ≡ true → numbered_own (os ++ own place words ∷ []) ≡ numbered_own os
own_same os place words is = filter-append (λ (o : Own). not (is_turn o.words)) os (own place words ∷ []) ∙ rw is (append-nil (numbered_own os))

added_more : (ops : List Numbered) (o : Numbered) → rows_added (ops ++ o ∷ []) ≡ rows_added ops ++ added o.0 o.1
added_more [] o = append-nil _
added_more (x ∷ ops) o = ap (λ (rs : List Row). added x.0 x.1 ++ rs) (added_more ops o) ∙ sym (append_assoc (added x.0 x.1) (rows_added ops) (added o.0 o.1))

-- one more operation adds its rows to those that are left
gave_more : (told : List Numbered) (gave : List Piece) (rest : List Row) (o : Numbered) → Gave told gave rest → Gave (told ++ o ∷ []) gave (rest ++ added o.0 o.1)
gave_more told [] rest o is = ap (λ (rs : List Row). rs ++ added o.0 o.1) is ∙ sym (added_more told o)
gave_more told (p ∷ gave) rest o is = (
  is.0,
  is.1 ++ o ∷ [],
  ap (λ (l : List Numbered). l ++ o ∷ []) is.2 ∙ append_assoc is.0 is.1 (o ∷ []),
  is.3,
  gave_more is.1 gave rest o is.4,
)

-- the rows that were left are those of a piece
gave_end : (told : List Numbered) (gave : List Piece) (rest : List Row) (p : Piece) → p.frozen.rows.items ≡ rest → Gave told gave rest → Gave told (gave ++ p ∷ []) []
gave_end told [] rest p rows is = (told, [], sym (append-nil told), rows ∙ is, refl)
gave_end told (x ∷ gave) rest p rows is = (is.0, is.1, is.2, is.3, gave_end is.1 gave rest p rows is.4)

-- ---- from call to call

-- the writer was told a number
pub did_more : (q : DeleteQueue) (old new : HandedBack) (words : List ℕ) (op : Operation) (n : ℕ) → Grows old.seat new.seat
    → own_of new.seat ≡ own_of old.seat ++ own (seen_of new.seat) words ∷ [] → n ≡ base_of q + seen_of new.seat → Spells words (entry_of op)
    → born_rows new.rest ≡ born_rows old.rest ++ added n op
    → (told : List Numbered) (gave : List Piece) → Did q old told gave → Did q new (told ++ (n, op) ∷ []) gave
did_more q old new words op n grows mine number spells rows told gave did = record {
  tells =
      subst (Tells (base_of q) (told ++ (n, op) ∷ [])) (sym (ap numbered_own mine ∙ own_more (own_of old.seat) (seen_of new.seat) words (is_no_turn words op spells)))
      (tells_more (base_of q) n (seen_of new.seat) told (numbered_own (own_of old.seat)) words op did.tells number spells);
  rows = subst (Gave (told ++ (n, op) ∷ []) gave) (sym rows) (gave_more told gave (born_rows old.rest) (n, op) did.rows);
  pieces = all_stay q old.seat new.seat gave grows did.pieces;
}

-- nothing was told, and no row came or went
pub did_same : (q : DeleteQueue) (old new : HandedBack) → Grows old.seat new.seat
    → numbered_own (own_of new.seat) ≡ numbered_own (own_of old.seat) → born_rows new.rest ≡ born_rows old.rest
    → (told : List Numbered) (gave : List Piece) → Did q old told gave → Did q new told gave
did_same q old new grows mine rows told gave did = record {
  tells = subst (Tells (base_of q) told) (sym mine) did.tells;
  rows = subst (Gave told gave) (sym rows) did.rows;
  pieces = all_stay q old.seat new.seat gave grows did.pieces;
}

-- a turn was linked
pub did_turn : (q : DeleteQueue) (old new : HandedBack) (n : ℕ) → Grows old.seat new.seat → Links old.seat new.seat (entry_words turn) n
    → new.rest ≡ old.rest → (told : List Numbered) (gave : List Piece) → Did q old told gave → Did q new told gave
did_turn q old new n grows links rest =
    did_same q old new grows
    (ap numbered_own links.own ∙ own_same (own_of old.seat) (seen_of new.seat) (entry_words turn) (turns (entry_words turn) (record { fits = tt; spelled = refl })))
    (ap born_rows rest)

-- a turn was linked, or the queue was closed
pub did_close : (q : DeleteQueue) (old new : HandedBack) (linked : Linked) → Grows old.seat new.seat
    → IfAt linked (λ n. Links old.seat new.seat (entry_words turn) n) → IfClosed linked (FindsClosed old.seat new.seat) → IfFull linked ⊥
    → new.rest ≡ old.rest → (told : List Numbered) (gave : List Piece) → Did q old told gave → Did q new told gave
did_close q old new (At n) grows at closed full rest = did_turn q old new n grows at rest
did_close q old new Closed grows at closed full rest = did_same q old new grows (ap numbered_own closed.own) (ap born_rows rest)
did_close q old new (Full need left) grows at closed full rest = absurd full

-- the rows of the buffer went into a piece
pub did_give : (q : DeleteQueue) (old new : HandedBack) (p : Piece) → Grows old.seat new.seat → own_of new.seat ≡ own_of old.seat
    → new.rest ≡ [] → p.frozen.rows.items ≡ born_rows old.rest → IsPiece q new.seat p
    → (told : List Numbered) (gave : List Piece) → Did q old told gave → Did q new told (gave ++ p ∷ [])
did_give q old new p grows mine rest rows is told gave did = record {
  tells = subst (λ (os : List Own). Tells (base_of q) told (numbered_own os)) (sym mine) did.tells;
  rows = subst (λ xs. Gave told (gave ++ p ∷ []) (born_rows xs)) (sym rest) (gave_end told gave (born_rows old.rest) p rows did.rows);
  pieces = all_end (all_stay q old.seat new.seat gave grows did.pieces);
}
  where
    ends : (ps : List Piece) → AllByRecursion (IsPiece q new.seat) ps → AllByRecursion (IsPiece q new.seat) (ps ++ p ∷ [])
    ends [] all = (is, tt)
    ends (x ∷ ps) all = (all.0, ends ps all.1)

    all_end : AllByRecursion (IsPiece q new.seat) gave → AllByRecursion (IsPiece q new.seat) (gave ++ p ∷ [])
    all_end all = ends gave all
