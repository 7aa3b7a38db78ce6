-- The number and the words of an entry that is taken.
use Rattle.std.proofs.Common.{◌≡◌, ℕ, ◌+◌, ◌<◌, ◌≤◌, List, [], ◌∷◌, ◌++◌, length, slice_index, sym, ap, ◌∙◌, subst, refl, arith, append-nil, Result, Ok, Err, OnOk, OnErr}
use mathlib.Core.Logic.{dite}
use native.Mathlib.Decide.{ℕ_discrete}
use Rattle.ix_base.specs.Entry as value
use Rattle.ix_base.specs.Words.{head_kind, Spells, IsEntryWords}
use Rattle.ix_base.proofs.EntryLaws.{head_again, most_bytes, IsEntryWords-kind}
use Rattle.node_words.specs.Entry.{value_of}
use Rattle.node_words.specs.declared.entry.Entry.{Entry}
use Rattle.node_words.specs.declared.entry.Entry.TheVariants as e
use Rattle.row_fates.specs.Fate.{Numbered, SameFates}
use Rattle.frozen_packet.specs.declared.updates.Updates.{Updates}
use Rattle.frozen_packet.specs.Updates.{as_operations, entry_operation, Takes, KeepsBounds}
use Rattle.row_fates.proofs.Same.{same-same}
use Rattle.delete_queue.specs.Seats.{number_at}
use Rattle.delete_queue.proofs.Numbers.{numbered, turn_numbered}
use Rattle.delete_slice.specs.Entries.{Standing, own_number}
use Rattle.delete_slice.specs.Taken.{AreWithin, KeepsBoundsOf, HaveUpTo, TakesEntry, TakesWords}
use Rattle.delete_slice.proofs.Lists.{upto_later}
use Rattle.delete_slice.proofs.Parts.{takes_entry}

-- the head of the words has the entry's kind
pub spelled_kind : (words : List ℕ) (v : value.Entry) → Spells words v → head_kind (slice_index words 0) ≡ value.kind_of v
spelled_kind words v is =
    let short = most_bytes v is.fits in
    subst (λ (ws : List ℕ). head_kind (slice_index ws 0) ≡ value.kind_of v) (sym is.spelled) (head_again (value.kind_of v) (length (value.entry_bytes v)) (omega (arith, short))).0

-- an entry's number is the base plus its place, or one less for a turn
near : (base place h : ℕ) → head_kind h ≤ 7 → (base + place ≤ number_at base place h + 1) × (number_at base place h ≤ base + place)
near base place h most =
    dite (ℕ_discrete (head_kind h) 7)
    (λ turn. let n = turn_numbered base place h turn in (omega (arith, n), omega (arith, n)))
    (λ other. let n = numbered base place h (omega (arith, most, other)) in (omega (arith, n), omega (arith, n)))

-- the number given is not below those of the entries before
pub before_it : (base from : ℕ) (words : List ℕ) (u : Updates) → IsEntryWords words → HaveUpTo (base + from) u → HaveUpTo (number_at base (from + 1) (slice_index words 0)) u
before_it base from words u grammar held =
    let close = near base (from + 1) (slice_index words 0) (IsEntryWords-kind words grammar).1 in let low = close.0 in
    upto_later (base + from) (number_at base (from + 1) (slice_index words 0)) (omega (arith, low)) (as_operations u) held

-- two numbers that agree unless the entry is a turn
abbrev Agree : ℕ → ℕ → Entry → Type 0
Agree n m entry = value.kind_of (value_of entry) < 7 → n ≡ m

same_operation : (n m : ℕ) (entry : Entry) → Agree n m entry → entry_operation n entry ≡ entry_operation m entry
same_operation n m e.Add h = refl
same_operation n m (e.Update term) h = ap (λ (k : ℕ). entry_operation k (e.Update term)) (h (omega arith))
same_operation n m (e.DeleteTerm term) h = ap (λ (k : ℕ). entry_operation k (e.DeleteTerm term)) (h (omega arith))
same_operation n m (e.DeleteQuery query) h = ap (λ (k : ℕ). entry_operation k (e.DeleteQuery query)) (h (omega arith))
same_operation n m (e.SetNumber term num x) h = ap (λ (k : ℕ). entry_operation k (e.SetNumber term num x)) (h (omega arith))
same_operation n m e.Commit h = refl
same_operation n m e.Turn h = refl

same_number : (n m : ℕ) (entry : Entry) → Agree n m entry → own_number n entry ≡ own_number m entry
same_number n m e.Add h = ap (λ (k : ℕ). own_number k e.Add) (h (omega arith))
same_number n m (e.Update term) h = ap (λ (k : ℕ). own_number k (e.Update term)) (h (omega arith))
same_number n m (e.DeleteTerm term) h = ap (λ (k : ℕ). own_number k (e.DeleteTerm term)) (h (omega arith))
same_number n m (e.DeleteQuery query) h = ap (λ (k : ℕ). own_number k (e.DeleteQuery query)) (h (omega arith))
same_number n m (e.SetNumber term num x) h = ap (λ (k : ℕ). own_number k (e.SetNumber term num x)) (h (omega arith))
same_number n m e.Commit h = ap (λ (k : ℕ). own_number k e.Commit) (h (omega arith))
same_number n m e.Turn h = refl

-- the words that stand at the next place were taken with its number
pub taken_there : (Stands : Standing) (base from number : ℕ) (words : List ℕ) (old new : Updates) → Stands (from + 1) words
    → IsEntryWords words → number ≡ number_at base (from + 1) (slice_index words 0) → TakesWords number words old new → TakesEntry Stands base from old new
taken_there Stands base from number words old new stand grammar is f =
    let at = base + (from + 1) in
    let kind = spelled_kind words (value_of f.entry) f.spell in
    let agree : Agree number at f.entry = λ low. is ∙ numbered base (from + 1) (slice_index words 0) (omega (arith, kind, low)) in
    let close = (near base (from + 1) (slice_index words 0) (IsEntryWords-kind words grammar).1).1 in
    takes_entry Stands base from f.entry old new (record { words = words; stand = stand; spell = f.spell })
    (subst (λ (ops : List Numbered). SameFates (as_operations new) (as_operations old ++ ops)) (same_operation number at f.entry agree) f.fates)
    (subst (λ (ns : List ℕ). KeepsBoundsOf ns old new) (same_number number at f.entry agree) f.bounds)
    (upto_later number at (omega (arith, is, close)) (as_operations new) f.upto)

-- a turn changes nothing
pub took_turn : (number : ℕ) (words : List ℕ) (u : Updates) → Spells words (value_of e.Turn) → HaveUpTo number u → TakesWords number words u u
took_turn number words u spell upto = record {
  entry = e.Turn;
  spell = spell;
  fates = same-same (as_operations u) (as_operations u ++ []) (sym (append-nil (as_operations u)));
  bounds = λ after most held numbers. held;
  upto = upto;
}

-- an entry that is no turn has the number given
numbered_own : (n : ℕ) (entry : Entry) → (entry ≡ e.Turn → ⊥) → own_number n entry ≡ n ∷ []
numbered_own n e.Add is_not = refl
numbered_own n (e.Update term) is_not = refl
numbered_own n (e.DeleteTerm term) is_not = refl
numbered_own n (e.DeleteQuery query) is_not = refl
numbered_own n (e.SetNumber term num x) is_not = refl
numbered_own n e.Commit is_not = refl
numbered_own n e.Turn is_not = absurd (is_not refl)

pub took : (number : ℕ) (words : List ℕ) (entry : Entry) (old new : Updates) → Spells words (value_of entry) → (entry ≡ e.Turn → ⊥)
    → Takes old number entry new → KeepsBounds old number new → HaveUpTo number new → TakesWords number words old new
took number words entry old new spell is_not fates bounds upto = record {
  entry = entry;
  spell = spell;
  fates = fates;
  bounds = λ after most held numbers. let within = subst (AreWithin after most) (numbered_own number entry is_not) numbers in bounds after most held within.0.0 within.0.1;
  upto = upto;
}

-- what follows from what an answer Ok says, it says too
pub on_ok : {T E : Type 0} (r : Result T E) (P Q : Type 0) → (P → Q) → OnOk r P → OnOk r Q
on_ok (Ok x) P Q f p = f p
on_ok (Err x) P Q f p = p

pub took_on_ok : {T E : Type 0} (r : Result T E) (number : ℕ) (words : List ℕ) (entry : Entry) (old new : Updates) → Spells words (value_of entry) → (entry ≡ e.Turn → ⊥)
    → OnOk r (Takes old number entry new) → OnOk r (KeepsBounds old number new) → OnOk r (HaveUpTo number new) → OnOk r (TakesWords number words old new)
took_on_ok (Ok x) number words entry old new spell is_not fates bounds upto = took number words entry old new spell is_not fates bounds upto
took_on_ok (Err x) number words entry old new spell is_not fates bounds upto = fates

-- where an answer Err says something, it is so of any answer
pub on_err : {T E : Type 0} (r : Result T E) (P : Type 0) → P → OnErr r P
on_err (Ok x) P p = tt
on_err (Err x) P p = p
