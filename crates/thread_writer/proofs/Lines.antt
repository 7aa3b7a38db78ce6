-- A line, from its entry to what it was told.
use Rattle.std.proofs.Common.{◌≡◌, ◌∙◌, ℕ, ◌+◌, ◌-◌, ◌<◌, ◌≤◌, Bool, true, false, IsTrue, List, [], ◌∷◌, ◌++◌, length, map, drop, slice_index, None, refl, sym, ap, subst, arith, ne_eqb, length-append}
use Rattle.std.proofs.lemmas.List.{length-map}
use Rattle.std.specs.List.{All}
use Rattle.ix_base.specs.Births.{first_birth, last_birth, block_rows}
use Rattle.ix_base.specs.Documents.{Document}
use Rattle.ix_base.specs.Entry.{entry_of, kind_of}
use Rattle.ix_base.proofs.EntryLaws.{IsEntryWords-at_most}
use Rattle.ix_base.specs.Words.{Spells, IsEntryWords}
use Rattle.ix_base.specs.declared.document.Row.{Row}
use Rattle.ix_base.specs.declared.document.Operation.{Operation}
use Rattle.ix_base.specs.declared.document.Operation.TheVariants.{Add, AddBlock, Update, UpdateBlock, DeleteTerm, DeleteQuery, SetNumber, Commit}
use Rattle.queue_rule.specs.declared.view.Own.{Own}
use Rattle.queue_rule.specs.Chain.{filled, own}
use Rattle.delete_queue.specs.declared.queue.DeleteQueue.{DeleteQueue}
use Rattle.delete_queue.specs.declared.seat.Seat.{Seat}
use Rattle.delete_queue.specs.Answers.{IsOperation}
use Rattle.delete_queue.specs.Seats.{IsSeatOf, Links, base_of, own_of, seen_of, last_of, left_of}
use Rattle.delete_slice.specs.declared.slice.Slice.{Slice}
use Rattle.delete_slice.specs.Laws.{SlicesStay}
use Rattle.delete_slice.specs.Slices.{IsSliceOf}
use Rattle.row_fates.specs.Fate.{adds, BornBy, BirthsRise}
use Rattle.ram_postings.specs.Buffer.{Staged, waiting, born_rows, with_births}
use Rattle.thread_writer.specs.declared.told.Told.{Told}
use Rattle.thread_writer.specs.declared.told.Told.TheVariants.{Numbered, RefusedTerm, RefusedQuery, Closed, Full, NoMemory}
use Rattle.thread_writer.specs.declared.writer.ThreadWriter.{ThreadWriter}
use Rattle.thread_writer.specs.Answers.{FindsFull, IfNumbered, IfNotNumbered}
use Rattle.thread_writer.specs.Lines.{Puts, Keeps, Does}
use Rattle.thread_writer.specs.Writing.{IsWriter, Numbers, Stays, parts_of, is_turn, added_documents, documents_of, numbered_own}
use Rattle.thread_writer.proofs.Buffers.{all_below, all_wait, born_more, births_added, born_added, born_last, count_same, added_is}
use Rattle.thread_writer.proofs.Doing.{kind_is, is_no_turn, did_more, did_same}
use Rattle.thread_writer.proofs.Knowing.{last_within, number_is, seen_inside}

-- ---- numbers

pub no_turn : (words : List ℕ) → IsOperation words → is_turn words ≡ false
no_turn words is = let low = is.kind in ne_eqb _ 7 (λ e. let z : ⊥ = omega (arith, low, e) in z)

pub linked_number : (q : DeleteQueue) (s t : Seat) (words : List ℕ) (n : ℕ) → IsSeatOf q t → is_turn words ≡ false → Links s t words n → n ≡ base_of q + seen_of t
linked_number q s t words n is plain links = links.number ∙ number_is q t (seen_of t) (slice_index words 0) is plain

-- the number is above the last before
pub last_below : (q : DeleteQueue) (s t : Seat) (words : List ℕ) (n : ℕ) → IsSeatOf q s → IsSeatOf q t → is_turn words ≡ false → Links s t words n → last_of s < n
last_below q s t words n h is plain links =
    let number = linked_number q s t words n is plain links in let within = last_within q s h in let later = links.later in omega (arith, number, within, later)

-- ---- one entry

open_kind : (op : Operation) → ((pairs : List (List ℕ × List ℕ)) → op ≡ Commit pairs → ⊥) → kind_of (entry_of op) < 6
open_kind (Add doc) other = omega arith
open_kind (AddBlock docs) other = omega arith
open_kind (Update term doc) other = omega arith
open_kind (UpdateBlock term docs) other = omega arith
open_kind (DeleteTerm term) other = omega arith
open_kind (DeleteQuery query) other = omega arith
open_kind (SetNumber term name value) other = omega arith
open_kind (Commit pairs) other = absurd (other pairs refl)

-- the words of an operation that is no commit don't close the queue
pub is_operation : (op : Operation) (words : List ℕ) → ((pairs : List (List ℕ × List ℕ)) → op ≡ Commit pairs → ⊥) → Spells words (entry_of op) → IsOperation words
unfolding IsEntryWords
is_operation op words other spells = let kind = kind_is words (entry_of op) spells in let low = open_kind op other in record {
  grammar = (entry_of op, spells);
  kind = omega (arith, kind, low);
}

some_own : (os : List Own) (n : ℕ) → n ≤ 16386 → 16642 - filled os - 2 < n → 0 < length os
some_own [] n few short = absurd (omega (arith, few, short))
some_own (o ∷ os) n few short = omega arith

pub finds_full : (old new : ThreadWriter) (words : List ℕ) (need left : ℕ) → IsOperation words → new.seat ≡ old.seat
    → need ≡ length words + 1 → left ≡ left_of old.seat → left_of old.seat < length words + 1 → FindsFull words old new need left
finds_full old new words need left is same needs rest short = record {
  need_is = needs;
  left_is = rest;
  short = omega (arith, needs, rest, short);
  some = let few = IsEntryWords-at_most words is.grammar in
      subst (λ (s : Seat). 0 < length (own_of s)) (sym same) (some_own (own_of old.seat) (length words + 1) (omega (arith, few)) short);
}

-- births in the buffer, with documents that wait, are below those of the new number
pub all_before : (q : DeleteQueue) (old : ThreadWriter) (t : Seat) (xs : List Staged) (words : List ℕ) (n : ℕ) → IsWriter q old
    → IsOperation words → IsSeatOf q t → Links old.seat t words n → born_rows xs ≡ born_rows old.rows → All (λ (row : Row). row.birth < first_birth n) (born_rows xs)
all_before q old t xs words n writer is seat links same =
    subst (λ (rows : List Row). All (λ (row : Row). row.birth < first_birth n) rows) (sym same)
    (all_below (last_of old.seat) n (born_rows old.rows) (last_below q old.seat t words n writer.ready.seat seat (no_turn words is) links) writer.ready.born)

pub wait_behind : (old xs : List Staged) (docs : List Document) (place : ℕ) → xs ≡ old ++ map waiting docs → place ≡ length old
    → All (λ s. s.birth ≡ None) (drop place xs)
wait_behind old xs docs place staged at =
    subst (λ (l : List Staged). All (λ s. s.birth ≡ None) (drop place l)) (sym staged)
    (subst (λ (k : ℕ). All (λ s. s.birth ≡ None) (drop k (old ++ map waiting docs))) (sym at) (all_wait old docs))

pub put_born : (old xs ys : List Staged) (docs : List Document) (place n : ℕ) → xs ≡ old ++ map waiting docs → place ≡ length old → length docs ≤ 64
    → ys ≡ with_births xs place (length docs) (first_birth n)
    → (born_rows ys ≡ born_rows old ++ block_rows n docs) × (length ys ≡ length old + length docs)
put_born old xs ys docs place n staged at few born =
    let all : ys ≡ with_births (old ++ map waiting docs) (length old) (length docs) (first_birth n) =
    born ∙ ap (λ (l : List Staged). with_births l place (length docs) (first_birth n)) staged
    ∙ ap (λ (p : ℕ). with_births (old ++ map waiting docs) p (length docs) (first_birth n)) at in
    let count = ap (λ (l : List Staged). length l) all ∙ count_same (old ++ map waiting docs) (length old) (length docs) (first_birth n) ∙ length-append old (map waiting docs) in
    (ap born_rows all ∙ born_last old docs 64 (first_birth n) few, omega (arith, count, length-map docs waiting))

-- ---- documents and refusals

-- only an operation that adds has documents
adds_none : (op : Operation) → adds op ≡ false → documents_of op ≡ 0
adds_none (Add doc) is = cc
adds_none (AddBlock docs) is = cc
adds_none (Update term doc) is = cc
adds_none (UpdateBlock term docs) is = cc
adds_none (DeleteTerm term) is = refl
adds_none (DeleteQuery query) is = refl
adds_none (SetNumber term name value) is = refl
adds_none (Commit pairs) is = refl

-- ---- a line

room_after : (op : Operation) (len size : ℕ) → (IsTrue (adds op) → len < size) → len ≤ size + 63 → documents_of op ≤ 64 → len + documents_of op ≤ size + 63
room_after op len size more le few = by (adds op) refl
  where
    by : (b : Bool) → adds op ≡ b → len + documents_of op ≤ size + 63
    by true is = let h = more is in omega (arith, h, few)
    by false is = let none = adds_none op is in omega (arith, none, le)

put_writer : SlicesStay → (q : DeleteQueue) (op : Operation) (words : List ℕ) (n : ℕ) (old new : ThreadWriter) → Spells words (entry_of op)
    → (IsTrue (adds op) → length old.rows < old.size) → documents_of op ≤ 64 → IsWriter q old → Puts q words (added_documents op) n old new → IsWriter q new
put_writer slices q op words n old new spells room few w p =
    let r = w.ready in
    let plain = is_no_turn words op spells in
    let below = last_below q old.seat new.seat words n r.seat p.seat plain p.links in
    let number = linked_number q old.seat new.seat words n p.seat plain p.links in
    let inside = seen_inside old.seat old.slice.from r.slice.from in
    let later = p.links.later in
    let fits = room_after op (length old.rows) old.size room w.room few in
    let count = p.count in let size = p.size in let some = w.some in let most = w.most in record {
      ready = record {
        seat = p.seat;
        slice = subst (IsSliceOf new.seat) (sym p.slice) (slices old.seat new.seat old.slice p.grows.extends r.slice);
        births =
            subst (λ (s : Slice). BirthsRise (last_birth (base_of q + s.from.at)) (born_rows new.rows)) (sym p.slice)
            (subst (BirthsRise (last_birth (base_of q + old.slice.from.at))) (sym p.born)
            (births_added (base_of q + old.slice.from.at) (last_of old.seat) n (born_rows old.rows) (added_documents op) r.births r.born (omega (arith, number, inside, later)) below));
        born =
            subst (λ (m : ℕ). BornBy m (born_rows new.rows)) (sym p.links.last)
            (subst (BornBy n) (sym p.born) (born_added (last_of old.seat) n (born_rows old.rows) (added_documents op) r.born below));
      };
      some = omega (arith, size, some);
      most = omega (arith, size, most);
      room = omega (arith, size, count, fits);
    }

keep_writer : SlicesStay → (q : DeleteQueue) (op : Operation) (old new : ThreadWriter)
    → (IsTrue (adds op) → length old.rows < old.size) → documents_of op ≤ 64 → IsWriter q old → Keeps q (documents_of op) old new → IsWriter q new
keep_writer slices q op old new room few w k =
    let r = w.ready in
    let fits = room_after op (length old.rows) old.size room w.room few in
    let count = k.count in let size = k.size in let some = w.some in let most = w.most in record {
      ready = record {
        seat = k.seat;
        slice = subst (IsSliceOf new.seat) (sym k.slice) (slices old.seat new.seat old.slice k.grows.extends r.slice);
        births =
            subst (λ (s : Slice). BirthsRise (last_birth (base_of q + s.from.at)) (born_rows new.rows)) (sym k.slice)
            (subst (BirthsRise (last_birth (base_of q + old.slice.from.at))) (sym k.born) r.births);
        born = subst (BornBy (last_of new.seat)) (sym k.born) (born_more (last_of old.seat) (last_of new.seat) (born_rows old.rows) k.grows.extends.last r.born);
      };
      some = omega (arith, size, some);
      most = omega (arith, size, most);
      room = omega (arith, size, count, fits);
    }

some_more : (xs : List Own) (o : Own) → 0 < length (xs ++ o ∷ [])
some_more [] o = omega arith
some_more (x ∷ xs) o = omega arith

numbers : (q : DeleteQueue) (op : Operation) (words : List ℕ) (n : ℕ) (old new : ThreadWriter) → Spells words (entry_of op)
    → Puts q words (added_documents op) n old new → Numbers q op n old new
numbers q op words n old new spells p =
    let number = linked_number q old.seat new.seat words n p.seat (is_no_turn words op spells) p.links in
    let later = p.links.later in record {
      history = did_more q (parts_of old) (parts_of new) words op n p.grows p.links.own number spells
          (p.born ∙ ap (λ (rs : List Row). born_rows old.rows ++ rs) (sym (added_is n op)));
      last = p.links.last;
      above = omega (arith, number, later);
      some = subst (λ (os : List Own). 0 < length os) (sym p.links.own) (some_more (own_of old.seat) (own (seen_of new.seat) words));
      rows = p.count;
    }

stays : (q : DeleteQueue) (most : ℕ) (old new : ThreadWriter) → Keeps q most old new → Stays q old new
stays q most old new k = record {
  own = k.own;
  rows = k.born;
  history = did_same q (parts_of old) (parts_of new) k.grows (ap numbered_own k.own) k.born;
}

-- ---- by what was told

pub told_writer : SlicesStay → (q : DeleteQueue) (op : Operation) (words : List ℕ) (told : Told) (old new : ThreadWriter)
    → (IsTrue (adds op) → length old.rows < old.size) → documents_of op ≤ 64 → IsWriter q old → IfNumbered told (λ n. Spells words (entry_of op))
    → Does q words (added_documents op) told old new → IsWriter q new
told_writer slices q op words (Numbered n) old new room few w spells does = put_writer slices q op words n old new spells room few w does
told_writer slices q op words (RefusedTerm size) old new room few w spells does = keep_writer slices q op old new room few w does
told_writer slices q op words (RefusedQuery size) old new room few w spells does = keep_writer slices q op old new room few w does
told_writer slices q op words Closed old new room few w spells does = keep_writer slices q op old new room few w does
told_writer slices q op words (Full need left) old new room few w spells does = keep_writer slices q op old new room few w does
told_writer slices q op words NoMemory old new room few w spells does = keep_writer slices q op old new room few w does

pub told_numbers : (q : DeleteQueue) (op : Operation) (words : List ℕ) (told : Told) (old new : ThreadWriter) → IfNumbered told (λ n. Spells words (entry_of op))
    → Does q words (added_documents op) told old new → IfNumbered told (λ n. Numbers q op n old new)
told_numbers q op words (Numbered n) old new spells does = numbers q op words n old new spells does
told_numbers q op words (RefusedTerm size) old new spells does = tt
told_numbers q op words (RefusedQuery size) old new spells does = tt
told_numbers q op words Closed old new spells does = tt
told_numbers q op words (Full need left) old new spells does = tt
told_numbers q op words NoMemory old new spells does = tt

pub told_stays : (q : DeleteQueue) (op : Operation) (words : List ℕ) (told : Told) (old new : ThreadWriter)
    → Does q words (added_documents op) told old new → IfNotNumbered told (Stays q old new)
told_stays q op words (Numbered n) old new does = tt
told_stays q op words (RefusedTerm size) old new does = stays q (documents_of op) old new does
told_stays q op words (RefusedQuery size) old new does = stays q (documents_of op) old new does
told_stays q op words Closed old new does = stays q (documents_of op) old new does
told_stays q op words (Full need left) old new does = stays q (documents_of op) old new does
told_stays q op words NoMemory old new does = stays q (documents_of op) old new does

pub told_links : (q : DeleteQueue) (op : Operation) (words : List ℕ) (told : Told) (old new : ThreadWriter)
    → Does q words (added_documents op) told old new → IfNumbered told (λ n. Links old.seat new.seat words n)
told_links q op words (Numbered n) old new does = does.links
told_links q op words (RefusedTerm size) old new does = tt
told_links q op words (RefusedQuery size) old new does = tt
told_links q op words Closed old new does = tt
told_links q op words (Full need left) old new does = tt
told_links q op words NoMemory old new does = tt
