-- The last numbered entry that a seat has seen has the highest number of those that it knows.
use Rattle.std.proofs.Common.{◌≡◌, ℕ, ◌+◌, ◌<◌, ◌≤◌, ◌⊎◌, inl, inr, List, [], ◌∷◌, length, get_or, sym, refl, ap, ◌∙◌, subst, ⊎_elim, arith}
use mathlib.Core.Option.{some-injective}
use mathlib.Core.Logic.{dite}
use native.Mathlib.Decide.{ℕ_discrete}
use Rattle.ix_base.specs.Entry as value
use Rattle.ix_base.specs.Words.{head_kind, Spells}
use Rattle.queue_rule.specs.Lists.{last_or}
use Rattle.queue_rule.specs.Views.{Knows as KnowsWord}
use Rattle.queue_rule.proofs.Lists.{at_inside}
use Rattle.node_words.specs.Entry.{value_of}
use Rattle.node_words.specs.declared.entry.Entry.{Entry}
use Rattle.node_words.specs.declared.entry.Entry.TheVariants as e
use Rattle.delete_queue.specs.declared.queue.DeleteQueue.{DeleteQueue}
use Rattle.delete_queue.specs.declared.seat.Seat.{Seat}
use Rattle.delete_queue.specs.Seats.{IsSeatOf, Knows, the_view, base_of, seen_of, last_of}
use Rattle.delete_queue.proofs.Looking.{at_count}
use Rattle.delete_queue.proofs.Numbers.{last_is}
use Rattle.delete_slice.specs.Entries.{HasEntries, own_number, numbers_behind}
use Rattle.delete_slice.specs.Taken.{AreWithin}
use Rattle.delete_slice.specs.Laws.{NumbersEndAtLast, PartsEndAtLast}
use Rattle.delete_slice.proofs.Lists.{all_join, own_within}
use Rattle.delete_slice.proofs.Words.{spelled_kind}

-- an entry of a turn's kind has no number of its own
no_number : (n : ℕ) (entry : Entry) → value.kind_of (value_of entry) ≡ 7 → own_number n entry ≡ []
no_number n e.Add is = absurd (omega (arith, is))
no_number n (e.Update term) is = absurd (omega (arith, is))
no_number n (e.DeleteTerm term) is = absurd (omega (arith, is))
no_number n (e.DeleteQuery query) is = absurd (omega (arith, is))
no_number n (e.SetNumber term num x) is = absurd (omega (arith, is))
no_number n e.Commit is = absurd (omega (arith, is))
no_number n e.Turn is = refl

-- the words of the last entry seen begin with the head that is known of it
last_head : (q : DeleteQueue) (s : Seat) (words : List ℕ) (head : ℕ) → IsSeatOf q s → Knows s (seen_of s) words
    → KnowsWord (the_view s) (last_or 0 (the_view s).seen + 1) head → get_or words 0 0 ≡ head
last_head q s words head h k known =
    let last = last_or 0 (the_view s).seen in
    let same : k.address ≡ last = some-injective k.address last (sym k.seen ∙ at_count 0 (the_view s).seen) in
    let plain : k.address + 1 + 0 ≡ last + 1 = omega (arith, same) in
    h.table.1.agree (last + 1) (get_or words 0 0) head (subst (λ (a : ℕ). KnowsWord (the_view s) a (get_or words 0 0)) plain (k.each 0 k.some_word)) known

-- an entry that is known has no number, or none above the last
entry_upto_last : (q : DeleteQueue) (s : Seat) (place : ℕ) (words : List ℕ) (entry : Entry) → IsSeatOf q s → Knows s place words → Spells words (value_of entry)
    → (own_number (base_of q + place) entry ≡ []) ⊎ (base_of q + place ≤ last_of s)
entry_upto_last q s place words entry h k spell =
    let inside : place < length (0 ∷ (the_view s).seen) = at_inside (0 ∷ (the_view s).seen) place k.address k.seen in
    ⊎_elim (λ (plain : last_of s ≡ base_of q + seen_of s). inr (omega (arith, inside, plain)))
    (λ turn. let below = turn.1 in dite (ℕ_discrete place (seen_of s))
    (λ is.
    let head = last_head q s words s.progress.head h (subst (λ (p : ℕ). Knows s p words) is k) turn.2 in
    inl (no_number (base_of q + place) entry (sym (spelled_kind words (value_of entry) spell) ∙ (ap head_kind head ∙ turn.3))))
    (λ other. inr (omega (arith, inside, below, other))))
    (last_is q s h)

-- entries that are known have numbers up to the last
entries_upto_last : (q : DeleteQueue) (s : Seat) (after from : ℕ) (entries : List Entry) → IsSeatOf q s → after ≤ base_of q + from → HasEntries (Knows s) from entries
    → AreWithin after (last_of s) (numbers_behind (base_of q) from entries)
entries_upto_last q s after from [] h low k = tt
entries_upto_last q s after from (entry ∷ rest) h low k =
    let n = base_of q + (from + 1) in
    all_join (λ (m : ℕ). (after < m) × (m ≤ last_of s)) (own_number n entry) (numbers_behind (base_of q) (from + 1) rest)
    (⊎_elim (λ (none : own_number n entry ≡ []). subst (AreWithin after (last_of s)) (sym none) tt)
    (λ (most : n ≤ last_of s). own_within after (last_of s) n entry (omega (arith, low)) most)
    (entry_upto_last q s (from + 1) k.0.words entry h k.0.stand k.0.spell))
    (entries_upto_last q s after (from + 1) rest h (omega (arith, low)) k.1)

pub numbers_end_at_last : NumbersEndAtLast
numbers_end_at_last q s from entries h k = entries_upto_last q s (base_of q + from) from entries h (omega arith) k

pub parts_end_at_last : PartsEndAtLast
parts_end_at_last q s from to after old new h f held low = f.bounds after (last_of s) held (entries_upto_last q s after from f.entries h low f.stand)
