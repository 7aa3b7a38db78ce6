-- What a seat has seen and knows, and its last number.
use Rattle.std.proofs.Common.{◌≡◌, ◌∙◌, ℕ, zero, suc, ◌+◌, ◌-◌, ◌<◌, ◌≤◌, ◌==◌, Bool, true, false, if◌then◌else◌, List, [], ◌∷◌, ◌++◌, length, slice_index, append_assoc, refl, sym, ap, subst, arith, ⊎_elim}
use mathlib.Core.Option.{some, some-ne-none}
use lib.ListN.{get_elem?}
use Rattle.ix_base.specs.Words.{head_kind}
use Rattle.node_words.specs.declared.entry.Entry.{Entry}
use Rattle.queue_rule.specs.declared.view.Known.{Known}
use Rattle.queue_rule.specs.declared.view.Own.{Own}
use Rattle.queue_rule.specs.declared.view.View.{View}
use Rattle.queue_rule.specs.Lists.{last_or}
use Rattle.queue_rule.specs.Views.{Knows as KnowsWord, known}
use Rattle.delete_queue.specs.declared.queue.DeleteQueue.{DeleteQueue}
use Rattle.delete_queue.specs.declared.seat.Seat.{Seat}
use Rattle.delete_queue.specs.declared.seat.Place.{Place}
use Rattle.delete_queue.specs.Seats.{IsSeatOf, Extends, Grows, HasSeen, Knows, own_of, the_view, base_of, seen_of, last_of, number_at}
use Rattle.delete_slice.specs.Entries.{HasEntries}

-- ---- lists

at_longer : (l r : List ℕ) (j a : ℕ) → get_elem? l j ≡ some a → get_elem? (l ++ r) j ≡ some a
at_longer [] r j a e = absurd (some-ne-none a (sym e))
at_longer (x ∷ l) r zero a e = e
at_longer (x ∷ l) r (suc j) a e = at_longer l r j a e

at_inside : (l : List ℕ) (j a : ℕ) → get_elem? l j ≡ some a → j < length l
at_inside [] j a e = absurd (some-ne-none a (sym e))
at_inside (x ∷ l) zero a e = omega arith
at_inside (x ∷ l) (suc j) a e = let h = at_inside l j a e in omega (arith, h)

-- ---- what is seen and known stays

knows_stays : (s t : Seat) (place : ℕ) (words : List ℕ) → Extends s t → Knows s place words → Knows t place words
knows_stays s t place words ext k = record {
  address = k.address;
  entry = k.entry;
  seen =
      subst (λ (l : List ℕ). get_elem? (0 ∷ l) place ≡ some k.address) (sym ext.seen.1)
      (at_longer (0 ∷ (the_view s).seen) ext.seen.0 place k.address k.seen);
  some_word = k.some_word;
  size = k.size;
  each = λ d lt. ext.known (k.address + 1 + d) (slice_index words d) (k.each d lt);
}

pub entries_stay : (s t : Seat) (from : ℕ) (entries : List Entry) → Extends s t → HasEntries (Knows s) from entries → HasEntries (Knows t) from entries
entries_stay s t from [] ext has = tt
entries_stay s t from (e ∷ es) ext has =
    (record { words = has.0.words; stand = knows_stays s t (from + 1) has.0.words ext has.0.stand; spell = has.0.spell }, entries_stay s t (from + 1) es ext has.1)

-- a place that was seen is no further than the last one
pub seen_inside : (s : Seat) (p : Place) → HasSeen s p → p.at ≤ seen_of s
seen_inside s p has = let lt = at_inside (0 ∷ (the_view s).seen) p.at p.word has in omega (arith, lt)

pub grows_on : (r s t : Seat) → Grows r s → Grows s t → Grows r t
grows_on r s t g h = let first = g.extends.last in let second = h.extends.last in record {
  extends = record {
    base = h.extends.base ∙ g.extends.base;
    seen = (
      g.extends.seen.0 ++ h.extends.seen.0,
      h.extends.seen.1 ∙ ap (λ (l : List ℕ). l ++ h.extends.seen.0) g.extends.seen.1 ∙ append_assoc (the_view r).seen g.extends.seen.0 h.extends.seen.0,
    );
    known = λ a x k. h.extends.known a x (g.extends.known a x k);
    last = omega (arith, first, second);
  };
  number = h.number ∙ g.number;
  olds = h.olds ∙ g.olds;
  own = (
    g.own.0 ++ h.own.0,
    h.own.1 ∙ ap (λ (l : List Own). l ++ h.own.0) g.own.1 ∙ append_assoc (own_of r) g.own.0 h.own.0,
  );
}

-- ---- the last number

number_within : (base place : ℕ) (b : Bool) → base + place - (if b then 1 else 0) ≤ base + place
number_within base place true = omega arith
number_within base place false = omega arith

-- the last number is no further than the last entry seen
pub last_within : (q : DeleteQueue) (s : Seat) → IsSeatOf q s → last_of s ≤ base_of q + seen_of s
last_within q s is = let base = is.base in let within = number_within s.base (seen_of s) (head_kind s.progress.head == 7) in omega (arith, base, within)

from_zero : (base head : ℕ) → head ≡ 0 → base ≤ number_at base 0 head
from_zero base head is = let P : ℕ → Type 0 = λ h. base ≤ number_at base 0 h in subst P (sym is) (omega arith)

from_some : (base place : ℕ) (b : Bool) → base ≤ base + suc place - (if b then 1 else 0)
from_some base place true = omega arith
from_some base place false = omega arith

number_from : (base place head : ℕ) → (place ≡ 0 → head ≡ 0) → base ≤ number_at base place head
number_from base zero head none = from_zero base head (none refl)
number_from base (suc place) head none = from_some base place (head_kind head == 7)

knows_none : (v : View) (a x : ℕ) → v.known ≡ [] → KnowsWord v a x → ⊥
knows_none v a x none k = some-ne-none (known a x) (sym (ap (λ (l : List Known). get_elem? l k.0) (sym none) ∙ k.1))

-- a seat that has seen no entry has no head
no_head : (q : DeleteQueue) (s : Seat) → IsSeatOf q s → seen_of s ≡ 0 → s.progress.head ≡ 0
no_head q s is none =
    let v = the_view s in
    ⊎_elim (λ (z : (v.seen ≡ []) × (s.progress.head ≡ 0)). z.1)
    (λ k. absurd (knows_none v (last_or 0 v.seen + 1) s.progress.head (is.table.1.blank none) k)) is.shows.head

-- the last number isn't before the base
pub base_before : (q : DeleteQueue) (s : Seat) → IsSeatOf q s → base_of q ≤ last_of s
base_before q s is = let base = is.base in let from = number_from s.base (seen_of s) s.progress.head (no_head q s is) in omega (arith, base, from)

-- the number of an entry that is no turn
pub number_is : (q : DeleteQueue) (s : Seat) (place head : ℕ) → IsSeatOf q s → (head_kind head == 7) ≡ false → number_at s.base place head ≡ base_of q + place
number_is q s place head is plain = ap (λ (b : Bool). s.base + place - (if b then 1 else 0)) plain ∙ (let base = is.base in omega (arith, base))
