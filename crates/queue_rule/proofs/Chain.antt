-- What a write past the linked words leaves.
use Rattle.std.proofs.Common.{◌≡◌, ◌≢◌, ℕ, ◌+◌, ◌<◌, ◌≤◌, ◌⊎◌, List, [], ◌∷◌, length, get_or, take, set, ap, ◌∙◌, inl, inr, ⊎_elim, arith, get_or-set_other, lt_of_not-le}
use mathlib.Core.Option.{some}
use mathlib.Core.Logic.{dite}
use native.Mathlib.Decide.{ℕ_discrete, dec_le}
use lib.ListN.{get_elem?}
use Rattle.queue_rule.specs.declared.view.View.{View}
use Rattle.queue_rule.specs.declared.view.Known.{Known}
use Rattle.queue_rule.specs.Lists.{Each}
use Rattle.ix_base.specs.Words.{word_count}
use Rattle.ix_base.proofs.EntryLaws.{IsEntryWords-not_empty, IsEntryWords-count}
use Rattle.queue_rule.specs.Chain.{ChainEntry, need, start, used, Chained, Spelled, Lies, IsLinked}
use Rattle.queue_rule.specs.Rule.{IsKnown, Fits}
use Rattle.queue_rule.proofs.Lists.{all_more, used_take}

-- the word at a is none of the entry's
abbrev pub Past : ℕ → ChainEntry → Type 0
Past a e = (a < e.at) ⊎ (e.at + need e ≤ a)

abbrev pub AllLie : ℕ → List ℕ → List ChainEntry → Type 0
AllLie k ws es = (j : ℕ) (e : ChainEntry) → get_elem? es j ≡ some e → Lies k ws (take j es) e

abbrev pub AllPast : ℕ → List ChainEntry → Type 0
AllPast a es = (j : ℕ) (e : ChainEntry) → get_elem? es j ≡ some e → Past a e

pub has_words : {k : ℕ} {ws : List ℕ} {before : List ChainEntry} {e : ChainEntry} → Lies k ws before e → 0 < length e.words
has_words {e = e} l = IsEntryWords-not_empty e.words l.grammar

pub has_count : {k : ℕ} {ws : List ℕ} {before : List ChainEntry} {e : ChainEntry} → Lies k ws before e → length e.words ≡ word_count (get_or e.words 0 0)
has_count {e = e} l = IsEntryWords-count e.words l.grammar

-- a word of seat n's stretch, past its entries
pub is_past : (k : ℕ) (ws : List ℕ) (es : List ChainEntry) (n a : ℕ) → AllLie k ws es → start n + used n es ≤ a → a < start n + 16642 → AllPast a es
is_past k ws es n a lies low high j e at = let l = lies j e at in let in_seat = used_take es j e at in let place = l.at in let room = l.room in dite (ℕ_discrete e.seat n)
    (λ is. let same : used e.seat es ≡ used n es = ap (λ (i : ℕ). used i es) is in inr (omega (arith, in_seat, place, low, same, is)))
    (λ other. ⊎_elim (λ (below : e.seat < n). inr (omega (arith, place, room, low, below))) (λ (above : n < e.seat). inl (omega (arith, place, high, above)))
    (dite (dec_le n e.seat) (λ le. inr (let ne : e.seat ≢ n = other in omega (arith, le, ne))) (λ gt. inl (lt_of_not-le gt))))

pub chained_set : (ws : List ℕ) (a x p : ℕ) (l : List ℕ) → Chained ws p l → p ≢ a → Each (λ b. b ≢ a) l → Chained (set ws a x) p l
chained_set ws a x p [] h n all = get_or-set_other ws a p x 0 n ∙ h
chained_set ws a x p (b ∷ l) h n all = (get_or-set_other ws a p x 0 n ∙ h.0, h.1, chained_set ws a x b l h.2 all.0 all.1)

pub spelled_set : (ws : List ℕ) (a x at : ℕ) (xs : List ℕ) → Spelled ws at xs → (a < at) ⊎ (at + length xs ≤ a) → Spelled (set ws a x) at xs
spelled_set ws a x at xs h apart j l = get_or-set_other ws a (at + j) x 0 (λ e. ⊎_elim (λ (low : a < at). let x : ⊥ = omega (arith, e, low) in x) (λ (high : at + length xs ≤ a). let x : ⊥ = omega (arith, e, high, l) in x) apart) ∙ h j l

pub lies_set : (k : ℕ) (ws : List ℕ) (a x : ℕ) (before : List ChainEntry) (e : ChainEntry) → Lies k ws before e → Past a e → Lies k (set ws a x) before e
lies_set k ws a x before e h past = record {
  seat = h.seat;
  at = h.at;
  room = h.room;
  spelled = spelled_set ws a x (e.at + 1) e.words h.spelled (⊎_elim (λ (low : a < e.at). inl (omega (arith, low))) (λ (high : e.at + need e ≤ a). inr (omega (arith, high))) past);
  grammar = h.grammar;
}

-- a linked word isn't a word past the entries
pub linked_else : (es : List ChainEntry) (a b : ℕ) → AllPast a es → 0 < a → IsLinked es b → b ≢ a
linked_else es a b past some_a linked is = ⊎_elim (λ (z : b ≡ 0). let x : ⊥ = omega (arith, z, is, some_a) in x)
    (λ (t : (j : ℕ) × (e : ChainEntry) × (get_elem? es j ≡ some e) × (e.at ≤ b) × (b < e.at + need e)).
    let low = t.3 in let high = t.4 in
    ⊎_elim (λ (l : a < t.1.at). let x : ⊥ = omega (arith, l, is, low) in x) (λ (h : t.1.at + need t.1 ≤ a). let x : ⊥ = omega (arith, h, is, high) in x) (past t.0 t.1 t.2)) linked

pub known_set : (ws : List ℕ) (es : List ChainEntry) (a x : ℕ) (o : Known) → AllPast a es → 0 < a → IsKnown ws es o → IsKnown (set ws a x) es o
known_set ws es a x o past some_a h = record { linked = h.linked; present = get_or-set_other ws a o.at x 0 (linked_else es a o.at past some_a h.linked) ∙ h.present; stays = h.stays }

-- what another seat knows stays so
pub fits_else : (k : ℕ) (ws : List ℕ) (es : List ChainEntry) (n a x : ℕ) (v : View) → AllPast a es → start n ≤ a → a < start n + 16642 → v.number ≢ n → Fits k ws es v → Fits k (set ws a x) es v
fits_else k ws es n a x v past low high other h = let room = h.room in let some_a : 0 < a = omega (arith, low) in record {
  number = h.number;
  seats = h.seats;
  owns = h.owns;
  held = h.held;
  olds = h.olds;
  blank = h.blank;
  spares = h.spares;
  room = h.room;
  draft = spelled_set ws a x (start v.number + used v.number es) v.draft h.draft
      (⊎_elim (λ (below : v.number < n). inr (omega (arith, low, room, below))) (λ (above : n < v.number). inl (omega (arith, high, above)))
      (dite (dec_le n v.number) (λ le. inr (let ne : v.number ≢ n = other in omega (arith, le, ne))) (λ gt. inl (lt_of_not-le gt))));
  unseen = h.unseen;
  seen = h.seen;
  known = all_more (IsKnown ws es) (IsKnown (set ws a x) es) v.known (λ o. known_set ws es a x o past some_a) h.known;
}
