-- What closes a queue was linked by one of its writers.
use Rattle.std.proofs.Common.{◌≡◌, ℕ, zero, suc, ◌+◌, ◌<◌, ◌≤◌, List, [], ◌∷◌, length, sym, ap, subst, arith, eq-eqb}
use Rattle.std.specs.Prelude.{slice_index_or}
use Rattle.std.specs.Global.{Vec}
use mathlib.Core.Option.{some-ne-none}
use Rattle.queue_rule.specs.Lists.{Each, last_or}
use Rattle.queue_rule.specs.Views.{IsAmong, known}
use Rattle.queue_rule.specs.declared.view.Known.{Known}
use Rattle.delete_queue.specs.declared.log.QueueLog.{QueueLog}
use Rattle.delete_queue.specs.declared.queue.DeleteQueue.{DeleteQueue}
use Rattle.delete_queue.specs.declared.seat.Seat.{Seat}
use Rattle.delete_queue.specs.Log.{HasAllOf, IsLogOf, Logged, entries_of, own_in}
use Rattle.delete_queue.specs.Seats.{IsSeatOf, SawClosed, number_of, seats_of, seen_of, the_view}
use Rattle.row_fates.specs.Fate.{Numbered}
use Rattle.thread_writer.specs.declared.piece.Piece.{Piece}
use Rattle.thread_writer.specs.declared.writer.ThreadWriter.{ThreadWriter}
use Rattle.index_writer.specs.declared.round.RoundParts.{RoundParts}
use Rattle.index_writer.specs.Rounds.{ArePartsOf, AreWorkersFrom}
use Rattle.index_writer.specs.Working.{IsStuck, links_in}
use Rattle.index_writer.proofs.Gathering.{seats_in}

-- ---- a log without entries

-- a seat that has seen nothing has not seen that the queue is closed
unseen : (q : DeleteQueue) (s : Seat) → IsSeatOf q s → seen_of s ≤ 0 → SawClosed (the_view s) → ⊥
unseen q s is none closed =
    let at = last_or 0 (the_view s).seen + 1 in
    let among = subst (λ (ks : List Known). IsAmong ks at closed.0) (is.table.1.blank (omega (arith, none))) closed.1 in
    some-ne-none (known at closed.0) (sym among.1)

nobody_saw : (q : DeleteQueue) (i : ℕ) (told : List (List Numbered)) (ws : List ThreadWriter) (ps : List (Vec Piece)) (entries : List (List ℕ)) (at : ℕ) (w : ThreadWriter)
    → AreWorkersFrom q i told ws ps → Each (HasAllOf entries []) (seats_in ws) → at < length ws → slice_index_or ws at w ≡ w → SawClosed (the_view w.seat) → ⊥
nobody_saw q i [] [] [] entries at w are has inside is closed = absurd (omega (arith, inside))
nobody_saw q i [] [] (p ∷ ps) entries at w are has inside is closed = absurd are
nobody_saw q i [] (x ∷ ws) [] entries at w are has inside is closed = absurd are
nobody_saw q i [] (x ∷ ws) (p ∷ ps) entries at w are has inside is closed = absurd are
nobody_saw q i (t ∷ told) [] [] entries at w are has inside is closed = absurd are
nobody_saw q i (t ∷ told) [] (p ∷ ps) entries at w are has inside is closed = absurd are
nobody_saw q i (t ∷ told) (x ∷ ws) [] entries at w are has inside is closed = absurd are
nobody_saw q i (t ∷ told) (x ∷ ws) (p ∷ ps) entries zero w are has inside is closed =
    unseen q x.seat are.0.writer.ready.seat has.0.seen (subst (λ (u : ThreadWriter). SawClosed (the_view u.seat)) (sym is) closed)
nobody_saw q i (t ∷ told) (x ∷ ws) (p ∷ ps) entries (suc at) w are has inside is closed =
    nobody_saw q (i + 1) told ws ps entries at w are.1 has.1 (omega (arith, inside)) is closed

-- ---- a log with a first entry

own_some : (e : Logged) (es : List Logged) (i p : ℕ) → e.seat ≡ i → 0 < length (own_in i p (e ∷ es))
own_some e es i p is = rw (eq-eqb e.seat i is) (omega arith)

-- its writer has linked it
first_linked : (q : DeleteQueue) (i at : ℕ) (told : List (List Numbered)) (ws : List ThreadWriter) (ps : List (Vec Piece)) (entries : List (List ℕ)) (e : Logged) (es : List Logged)
    → AreWorkersFrom q i told ws ps → Each (HasAllOf entries (e ∷ es)) (seats_in ws) → links_in ws ≡ 0 → e.seat ≡ i + at → at < length ws → ⊥
first_linked q i at [] [] [] entries e es are has none is inside = absurd (omega (arith, inside))
first_linked q i at [] [] (p ∷ ps) entries e es are has none is inside = absurd are
first_linked q i at [] (w ∷ ws) [] entries e es are has none is inside = absurd are
first_linked q i at [] (w ∷ ws) (p ∷ ps) entries e es are has none is inside = absurd are
first_linked q i at (t ∷ told) [] [] entries e es are has none is inside = absurd are
first_linked q i at (t ∷ told) [] (p ∷ ps) entries e es are has none is inside = absurd are
first_linked q i at (t ∷ told) (w ∷ ws) [] entries e es are has none is inside = absurd are
first_linked q i zero (t ∷ told) (w ∷ ws) (p ∷ ps) entries e es are has none is inside =
    let number = are.0.number_is in
    let owns = ap length has.0.owns in
    let some = own_some e es (number_of w.seat) 1 (omega (arith, is, number)) in absurd (omega (arith, none, owns, some))
first_linked q i (suc at) (t ∷ told) (w ∷ ws) (p ∷ ps) entries e es are has none is inside =
    first_linked q (i + 1) at told ws ps entries e es are.1 has.1 (omega (arith, none)) (omega (arith, is)) (omega (arith, inside))

-- ---- both

pub not_stuck : (base : ℕ) (told : List (List Numbered)) (parts : RoundParts) (seats : List Seat) (log : QueueLog) → ArePartsOf base told parts
    → seats ≡ seats_in parts.writers.items → IsLogOf parts.queue seats log → IsStuck parts → ⊥
not_stuck base told parts seats log are seats_are is stuck = by is.list is.numbers (subst (Each (HasAllOf (entries_of log) is.list)) seats_are is.seats)
  where
    by : (list : List Logged) → Each (λ (e : Logged). e.seat < seats_of parts.queue) list
        → Each (HasAllOf (entries_of log) list) (seats_in parts.writers.items) → ⊥
    by [] few has =
        nobody_saw parts.queue 0 told parts.writers.items parts.pieces.items (entries_of log) stuck.1.0 stuck.1.1 are.workers has stuck.1.2 stuck.1.3 stuck.1.4
    by (e ∷ es) few has =
        first_linked parts.queue 0 e.seat told parts.writers.items parts.pieces.items (entries_of log) e es are.workers has stuck.0 (omega arith)
        (let all = are.all in let low = few.0 in omega (arith, all, low))
