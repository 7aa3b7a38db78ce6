-- Numbers, kinds and places of entries, as the layers above use them.
use Rattle.std.proofs.Common.{◌≡◌, ℕ, zero, suc, ◌+◌, ◌-◌, ◌<◌, ◌≤◌, ◌⊎◌, inl, inr, List, [], ◌∷◌, length, get_or, Bool, if◌then◌else◌, sym, refl, ap, ◌∙◌, subst, ⊎_elim, arith, ne_eqb, eq-eqb}
use mathlib.Core.Option.{some-injective}
use mathlib.Core.Logic.{dite}
use native.Mathlib.Decide.{ℕ_discrete}
use Rattle.ix_base.specs.Words.{head_kind, word_count}
use Rattle.queue_rule.specs.Lists.{last_or}
use Rattle.queue_rule.specs.Views.{Knows as KnowsWord}
use Rattle.delete_queue.specs.declared.queue.DeleteQueue.{DeleteQueue}
use Rattle.delete_queue.specs.declared.seat.Seat.{Seat}
use Rattle.delete_queue.specs.declared.seat.Place.{Place}
use Rattle.delete_queue.specs.declared.seat.Found.{Found}
use Rattle.delete_queue.specs.Seats.{IsSeatOf, HasSeen, Knows, IsFound, Links, the_view, base_of, seen_of, last_of, number_at}
use Rattle.delete_queue.specs.Answers.{IsOperation}
use Rattle.queue_rule.proofs.Lists.{at_inside}
use Rattle.delete_queue.proofs.Fields.{knows_none}

-- an entry that is no turn has the base plus its place
pub numbered : (base place head : ℕ) → head_kind head < 7 → number_at base place head ≡ base + place
numbered base place head low = ap (λ (b : Bool). base + place - (if b then 1 else 0)) (ne_eqb (head_kind head) 7 (λ is. let z : ⊥ = omega (arith, is, low) in z)) ∙ omega arith

-- a turn has one less
pub turn_numbered : (base place head : ℕ) → head_kind head ≡ 7 → number_at base place head ≡ base + place - 1
turn_numbered base place head is = ap (λ (b : Bool). base + place - (if b then 1 else 0)) (eq-eqb (head_kind head) 7 is)

pub linked_number : (q : DeleteQueue) (s t : Seat) (words : List ℕ) (n : ℕ) → IsSeatOf q t → IsOperation words → Links s t words n → n ≡ base_of q + seen_of t
linked_number q s t words n h is l = let low = is.kind in l.number ∙ (numbered t.base (seen_of t) (get_or words 0 0) (omega (arith, low)) ∙ ap (λ (b : ℕ). b + seen_of t) h.base)

pub found_number : (q : DeleteQueue) (s : Seat) (f : Found) → IsSeatOf q s → IsFound s f → f.kind < 7 → f.number ≡ base_of q + f.place.at
found_number q s f h is low = is.number ∙ (numbered s.base f.place.at is.head (subst (λ (k : ℕ). k < 7) is.kind low) ∙ ap (λ (b : ℕ). b + f.place.at) h.base)

-- a place that was seen is no further than the last one
pub seen_inside : (s : Seat) (p : Place) → HasSeen s p → p.at ≤ seen_of s
seen_inside s p h = let lt = at_inside (0 ∷ (the_view s).seen) p.at p.word h in omega (arith, lt)

-- the head that was found begins the words that are read
pub found_words : (q : DeleteQueue) (s : Seat) (f : Found) (words : List ℕ) → IsSeatOf q s → IsFound s f → Knows s f.place.at words → (f.kind ≡ head_kind (get_or words 0 0)) × (f.words ≡ length words)
found_words q s f words h is k =
    let same : k.address ≡ f.place.word = some-injective k.address f.place.word (sym k.seen ∙ is.known.seen) in
    let plain : k.address + 1 + 0 ≡ f.place.word + 1 = omega (arith, same) in
    let head : get_or words 0 0 ≡ is.head = h.table.1.agree (f.place.word + 1) (get_or words 0 0) is.head (subst (λ (a : ℕ). KnowsWord (the_view s) a (get_or words 0 0)) plain (k.each 0 k.some_word)) is.known.known in
    (is.kind ∙ ap head_kind (sym head), is.words ∙ (ap word_count (sym head) ∙ sym k.size))

-- an entry behind which one was seen doesn't close the queue
pub knows_open : (q : DeleteQueue) (s : Seat) (place : ℕ) (words : List ℕ) → IsSeatOf q s → Knows s place words → place < seen_of s → head_kind (get_or words 0 0) < 6
knows_open q s zero words h k lt = let some_place = k.entry in absurd (omega (arith, some_place))
knows_open q s (suc n) words h k lt =
    let plain : k.address + 1 + 0 ≡ k.address + 1 = omega arith in
    h.table.1.opens n k.address (get_or words 0 0) k.seen (omega (arith, lt)) (subst (λ (a : ℕ). KnowsWord (the_view s) a (get_or words 0 0)) plain (k.each 0 k.some_word))

some_last : (l : List ℕ) → (l ≡ [] → ⊥) → 0 < length l
some_last [] f = absurd (f refl)
some_last (x ∷ l) f = omega arith

-- the last numbered entry seen is the last one seen, or the one before a turn
pub last_is : (q : DeleteQueue) (s : Seat) → IsSeatOf q s → (last_of s ≡ base_of q + seen_of s) ⊎ ((0 < seen_of s) × (last_of s + 1 ≡ base_of q + seen_of s) × KnowsWord (the_view s) (last_or 0 (the_view s).seen + 1) s.progress.head × (head_kind s.progress.head ≡ 7))
last_is q s h =
    let v = the_view s in let base = h.base in
    dite (ℕ_discrete (head_kind s.progress.head) 7)
    (λ turn. let n = turn_numbered s.base (seen_of s) s.progress.head turn in
    ⊎_elim (λ (z : (v.seen ≡ []) × (s.progress.head ≡ 0)). let is = z.1 in absurd (omega (arith, turn, is)))
    (λ k. let some_seen : 0 < length v.seen = some_last v.seen (λ e. knows_none v (last_or 0 v.seen + 1) s.progress.head (h.table.1.blank (ap length e)) k) in inr (some_seen, omega (arith, n, base, some_seen), k, turn)) h.shows.head)
    (λ other. inl (ap (λ (b : Bool). s.base + seen_of s - (if b then 1 else 0)) (ne_eqb (head_kind s.progress.head) 7 other) ∙ omega (arith, base)))
