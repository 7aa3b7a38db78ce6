-- A seat that has linked a closing entry has seen that the queue is closed.
use Rattle.std.proofs.Common.{◌≡◌, ℕ, zero, suc, ◌+◌, ◌-◌, ◌<◌, ◌≤◌, List, [], ◌∷◌, ◌++◌, Bool, true, false, cond, length, slice_index, not, refl, sym, ap, subst, arith, lt_of_not-le}
use Rattle.std.specs.List.{filter}
use mathlib.Core.Option.{some, some-injective, some-ne-none}
use mathlib.Core.Logic.{dite}
use native.Mathlib.Decide.{dec_le}
use lib.ListN.{get_elem?}
use Rattle.std.proofs.lemmas.Bool.{false≢true}
use Rattle.ix_base.specs.Entry.{entry_of, turn}
use Rattle.ix_base.specs.Words.{Spells, entry_words, head_kind}
use Rattle.ix_base.specs.declared.document.Operation.{Operation}
use Rattle.ix_base.specs.declared.document.Operation.TheVariants as op
use Rattle.queue_rule.specs.Chain.{own}
use Rattle.queue_rule.specs.Lists.{last_or}
use Rattle.queue_rule.specs.Told.{Sound}
use Rattle.queue_rule.specs.Views.{Knows}
use Rattle.queue_rule.specs.declared.view.Own.{Own}
use Rattle.queue_rule.specs.declared.view.View.{View}
use Rattle.delete_queue.specs.declared.queue.DeleteQueue.{DeleteQueue}
use Rattle.delete_queue.specs.declared.seat.Seat.{Seat}
use Rattle.delete_queue.specs.declared.seat.Linked.{Linked}
use Rattle.delete_queue.specs.declared.seat.Linked.TheVariants as linked
use Rattle.delete_queue.specs.Answers as queue
use Rattle.delete_queue.specs.Seats.{FindsClosed, IsSeatOf, Links, SawClosed, own_of, seen_of, the_view}
use Rattle.row_fates.specs.Fate.{Numbered as NumberedOperation}
use Rattle.thread_writer.specs.Writing.{Tells, is_turn, numbered_own}
use Rattle.round_order.specs.Order.{is_commit}

-- ---- lists

within : (xs : List ℕ) (n a : ℕ) → get_elem? xs n ≡ some a → n < length xs
within [] n a at = absurd (some-ne-none a (sym at))
within (x ∷ xs) zero a at = omega arith
within (x ∷ xs) (suc n) a at = let more = within xs n a at in omega (arith, more)

last_at : (a : ℕ) (xs : List ℕ) (b n : ℕ) → get_elem? xs n ≡ some b → length xs ≡ n + 1 → last_or a xs ≡ b
last_at a [] b n at many = absurd (some-ne-none b (sym at))
last_at a (x ∷ []) b zero at many = some-injective x b at
last_at a (x ∷ []) b (suc n) at many = absurd (some-ne-none b (sym at))
last_at a (x ∷ y ∷ xs) b zero at many = absurd (omega (arith, many))
last_at a (x ∷ y ∷ xs) b (suc n) at many = last_at x (y ∷ xs) b n at (omega (arith, many))

put_at : (os : List Own) (o : Own) → get_elem? (os ++ o ∷ []) (length os) ≡ some o
put_at [] o = refl
put_at (x ∷ os) o = put_at os o

kept_from : (b : Bool) (x : Own) (os kept : List Own) (n : ℕ) (o : Own) → ((m : ℕ) → get_elem? kept m ≡ some o → (j : ℕ) × (get_elem? os j ≡ some o))
    → get_elem? (cond b (x ∷ kept) kept) n ≡ some o → (j : ℕ) × (get_elem? (x ∷ os) j ≡ some o)
kept_from true x os kept zero o rest is = (zero, is)
kept_from true x os kept (suc n) o rest is = let more = rest n is in (suc more.0, more.1)
kept_from false x os kept n o rest is = let more = rest n is in (suc more.0, more.1)

-- what a filter keeps stands in the list
kept_at : (p : Own → Bool) (os : List Own) (i : ℕ) (o : Own) → get_elem? (filter p os) i ≡ some o → (j : ℕ) × (get_elem? os j ≡ some o)
kept_at p [] i o at = absurd (some-ne-none o (sym at))
kept_at p (x ∷ os) i o at = kept_from (p x) x os (filter p os) i o (λ m is. kept_at p os m o is) at

-- ---- closing entries

-- who has an entry that closes the queue has seen that it is closed: nothing is linked behind it
pub closing_seen : (v : View) (i h : ℕ) (o : Own) → Sound v → get_elem? v.own i ≡ some o → slice_index o.words 0 ≡ h → 0 < length o.words → 6 ≤ head_kind h → SawClosed v
closing_seen v i h o sound at is some_word closing =
    let has = sound.owns i o at in
    let a = has.0 in
    let same : a + 1 + 0 ≡ a + 1 = omega arith in
    let there : Knows v (a + 1) (slice_index o.words 0) = subst (λ (b : ℕ). Knows v b (slice_index o.words 0)) same (has.3 0 some_word) in
    let head : Knows v (a + 1) h = subst (λ (x : ℕ). Knows v (a + 1) x) is there in
    let n = o.place - 1 in
    let place = within v.seen n a has.2 in
    let last : length v.seen ≡ n + 1 = dite (dec_le (length v.seen) (n + 1)) (λ end. omega (arith, end, place))
    (λ more. let open_kind = sound.opens n a h has.2 (lt_of_not-le more) head in absurd (omega (arith, open_kind, closing))) in
    (h, subst (λ (b : ℕ). Knows v (b + 1) h) (sym (last_at 0 v.seen a n has.2 last)) head, closing)

-- ---- a turn

turn_seen : (q : DeleteQueue) (s t : Seat) (n : ℕ) → IsSeatOf q t → Links s t (entry_words turn) n → SawClosed (the_view t)
turn_seen q s t n is links =
    closing_seen (the_view t) (length (own_of s)) (slice_index (entry_words turn) 0) one is.table.1 placed refl (omega arith) (omega arith)
  where
    one : Own
    one = own (seen_of t) (entry_words turn)

    placed : get_elem? (own_of t) (length (own_of s)) ≡ some one
    placed = subst (λ (os : List Own). get_elem? os (length (own_of s)) ≡ some one) (sym links.own) (put_at (own_of s) one)

-- who asked for a turn has seen that the queue is closed
pub turned_seen : (q : DeleteQueue) (linked : Linked) (s t : Seat) → IsSeatOf q t → queue.IfAt linked (λ n. Links s t (entry_words turn) n)
    → queue.IfClosed linked (FindsClosed s t) → queue.IfFull linked ⊥ → SawClosed (the_view t)
turned_seen q (linked.At n) s t is at closed full = turn_seen q s t n is at
turned_seen q linked.Closed s t is at closed full = closed.closed
turned_seen q (linked.Full need left) s t is at closed full = absurd full

-- ---- a commit

-- the last operation that was told has an own entry
told_last : (base : ℕ) (before : List NumberedOperation) (t : NumberedOperation) (os : List Own) → Tells base (before ++ t ∷ []) os
    → (i : ℕ) × (o : Own) × (get_elem? os i ≡ some o) × Spells o.words (entry_of t.1)
told_last base [] t [] tells = absurd tells
told_last base [] t (o ∷ os) tells = (zero, o, refl, tells.1)
told_last base (x ∷ before) t [] tells = absurd tells
told_last base (x ∷ before) t (o ∷ os) tells = let more = told_last base before t os tells.2 in (suc more.0, more.1, more.2, more.3)

commit_seen : (v : View) (i : ℕ) (o : Own) → Sound v → get_elem? v.own i ≡ some o → Spells o.words (entry_of (op.Commit [])) → SawClosed v
commit_seen v i o sound at spells =
    let words : List ℕ = entry_words (entry_of (op.Commit [])) in
    closing_seen v i (slice_index words 0) o sound at (ap (λ (ws : List ℕ). slice_index ws 0) spells.spelled)
    (let long = ap (λ (ws : List ℕ). length ws) spells.spelled in omega (arith, long)) (omega arith)

-- who was told the number of a commit has seen that the queue is closed
pub committed_seen : (q : DeleteQueue) (t : Seat) (base n : ℕ) (before : List NumberedOperation) (is : Operation) → IsSeatOf q t → is_commit is ≡ true
    → Tells base (before ++ (n, is) ∷ []) (numbered_own (own_of t)) → SawClosed (the_view t)
committed_seen q t base n before (op.Add doc) seat commit tells = absurd (false≢true commit)
committed_seen q t base n before (op.AddBlock docs) seat commit tells = absurd (false≢true commit)
committed_seen q t base n before (op.Update term doc) seat commit tells = absurd (false≢true commit)
committed_seen q t base n before (op.UpdateBlock term docs) seat commit tells = absurd (false≢true commit)
committed_seen q t base n before (op.DeleteTerm term) seat commit tells = absurd (false≢true commit)
committed_seen q t base n before (op.DeleteQuery query) seat commit tells = absurd (false≢true commit)
committed_seen q t base n before (op.SetNumber term name value) seat commit tells = absurd (false≢true commit)
committed_seen q t base n before (op.Commit pairs) seat commit tells =
    let last = told_last base before (n, op.Commit pairs) (numbered_own (own_of t)) tells in
    let placed = kept_at (λ (o : Own). not (is_turn o.words)) (own_of t) last.0 last.1 last.2 in
    commit_seen (the_view t) placed.0 last.1 seat.table.1 placed.1 last.3
