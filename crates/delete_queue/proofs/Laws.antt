-- What the words for seats mean to the layers above.
use Rattle.std.proofs.Common.{◌≡◌, ℕ, zero, suc, ◌+◌, ◌-◌, ◌<◌, List, [], ◌∷◌, ◌++◌, length, get_or, sym, refl, ap, ◌∙◌, subst, arith, append_assoc, append-nil, le_refl}
use Rattle.std.proofs.lemmas.List.{ext_get_or}
use mathlib.Core.Option.{some, some-injective}
use lib.ListN.{get_elem?}
use Rattle.atomic_table.proofs.Lists.{at_longer}
use Rattle.ix_base.specs.Words.{word_count, IsEntryWords}
use Rattle.queue_rule.specs.declared.view.Own.{Own}
use Rattle.queue_rule.specs.Views.{Knows as KnowsWord, KnownFrom}
use Rattle.ix_base.proofs.EntryLaws.{IsEntryWords-not_empty, IsEntryWords-count}
use Rattle.delete_queue.proofs.Looking.{at_place}
use Rattle.delete_queue.specs.declared.queue.DeleteQueue.{DeleteQueue}
use Rattle.delete_queue.specs.declared.seat.Seat.{Seat}
use Rattle.delete_queue.specs.declared.seat.Place.{Place}
use Rattle.delete_queue.specs.declared.seat.Found.{Found}
use Rattle.delete_queue.specs.Seats.{IsSeatOf, HasSeen, HasSize, KnowsHead, Knows, Extends, Grows, Learns, IsFound, the_view, own_of, last_of}

-- ---- what a seat has seen and knows, it keeps

pub extends_same : (s : Seat) → Extends s s
extends_same s = record { base = refl; seen = ([], sym (append-nil (the_view s).seen)); known = λ a x k. k; last = le_refl (last_of s) }

pub extends_on : (s t u : Seat) → Extends s t → Extends t u → Extends s u
extends_on s t u f g = record {
  base = g.base ∙ f.base;
  seen = (f.seen.0 ++ g.seen.0, g.seen.1 ∙ (ap (λ l. l ++ g.seen.0) f.seen.1 ∙ append_assoc (the_view s).seen f.seen.0 g.seen.0));
  known = λ a x k. g.known a x (f.known a x k);
  last = let a = f.last in let b = g.last in omega (arith, a, b);
}

pub grows_on : (s t u : Seat) → Grows s t → Grows t u → Grows s u
grows_on s t u f g = record {
  extends = extends_on s t u f.extends g.extends;
  number = g.number ∙ f.number;
  olds = g.olds ∙ f.olds;
  own = (f.own.0 ++ g.own.0, g.own.1 ∙ (ap (λ l. l ++ g.own.0) f.own.1 ∙ append_assoc (own_of s) f.own.0 g.own.0));
}

pub learns_on : (s t u : Seat) → Learns s t → Learns t u → Learns s u
learns_on s t u f g = record { grows = grows_on s t u f.grows g.grows; own = g.own ∙ f.own }

pub seen_stays : (s t : Seat) (p : Place) → Extends s t → HasSeen s p → HasSeen t p
seen_stays s t p f h = ap (λ (l : List ℕ). get_elem? (0 ∷ l) p.at) f.seen.1 ∙ at_longer (0 ∷ (the_view s).seen) f.seen.0 p.at p.word h

pub head_known_stays : (s t : Seat) (p : Place) (head : ℕ) → Extends s t → KnowsHead s p head → KnowsHead t p head
head_known_stays s t p head f k = record { seen = seen_stays s t p f k.seen; entry = k.entry; known = f.known (p.word + 1) head k.known }

pub size_stays : (s t : Seat) (p : Place) (n : ℕ) → Extends s t → HasSize s p n → HasSize t p n
size_stays s t p n f h = (h.0, head_known_stays s t p h.0 f h.1, h.2)

pub knows_stays : (s t : Seat) (place : ℕ) (words : List ℕ) → Extends s t → Knows s place words → Knows t place words
knows_stays s t place words f k = record {
  address = k.address;
  entry = k.entry;
  seen = ap (λ (l : List ℕ). get_elem? (0 ∷ l) place) f.seen.1 ∙ at_longer (0 ∷ (the_view s).seen) f.seen.0 place k.address k.seen;
  some_word = k.some_word;
  size = k.size;
  each = λ d lt. f.known (k.address + 1 + d) (get_or words d 0) (k.each d lt);
}

-- an entry that was found has a size that is known
pub found_size : (s : Seat) (f : Found) → IsFound s f → HasSize s f.place f.words
found_size s f is = (is.head, is.known, is.words)

-- ---- known words are in the grammar, and there is one list of them for a place

pub knows_grammar : (q : DeleteQueue) (s : Seat) (place : ℕ) (words : List ℕ) → IsSeatOf q s → Knows s place words → IsEntryWords words
knows_grammar q s zero words h k = let some_place = k.entry in absurd (omega (arith, some_place))
knows_grammar q s (suc n) words h k = h.table.1.grammar n k.address words k.seen k.some_word k.size k.each

pub knows_once : (q : DeleteQueue) (s : Seat) (place : ℕ) (ws xs : List ℕ) → IsSeatOf q s → Knows s place ws → Knows s place xs → ws ≡ xs
knows_once q s place ws xs h k l =
    let v = the_view s in
    let same : k.address ≡ l.address = some-injective k.address l.address (sym k.seen ∙ l.seen) in
    let word : (d : ℕ) → d < length ws → d < length xs → get_or ws d 0 ≡ get_or xs d 0 = λ d lt gt.
    h.table.1.agree (l.address + 1 + d) (get_or ws d 0) (get_or xs d 0) (subst (λ (a : ℕ). KnowsWord v (a + 1 + d) (get_or ws d 0)) same (k.each d lt)) (l.each d gt) in
    let len : length ws ≡ length xs = k.size ∙ (ap word_count (word 0 k.some_word l.some_word) ∙ sym l.size) in
    ext_get_or 0 ws xs len (λ d lt. word d lt (omega (arith, lt, len)))

own_at : (s : Seat) (o : Own) → IsEntryWords o.words → (a : ℕ) × (0 < o.place) × (get_elem? (the_view s).seen (o.place - 1) ≡ some a) × KnownFrom (the_view s).known (a + 1) o.words → Knows s o.place o.words
own_at s o grammar r = record {
  address = r.0;
  entry = r.1;
  seen = let p = r.1 in subst (λ (m : ℕ). get_elem? (0 ∷ (the_view s).seen) m ≡ some r.0) (let is : o.place - 1 + 1 ≡ o.place = omega (arith, p) in is) (at_place (the_view s).seen (o.place - 1) r.0 r.2);
  some_word = IsEntryWords-not_empty o.words grammar;
  size = IsEntryWords-count o.words grammar;
  each = r.3;
}

-- at the place of a seat's own entry it knows that entry's words, and so no others
pub own_known : (q : DeleteQueue) (s : Seat) (i : ℕ) (o : Own) → IsSeatOf q s → get_elem? (own_of s) i ≡ some o → Knows s o.place o.words
own_known q s i o h got = own_at s o (h.table.1.own_words i o got) (h.table.1.owns i o got)
