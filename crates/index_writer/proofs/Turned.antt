-- A round ends by a turn exactly where one of its writers has linked one.
use Rattle.std.proofs.Common.{◌≡◌, ◌∙◌, ℕ, zero, suc, ◌+◌, ◌<◌, Bool, true, false, cond, eqb, List, [], ◌∷◌, map, length, slice_index, refl, sym, ap, subst, arith, eq-eqb, ne_eqb}
use Rattle.std.specs.Prelude.{◌↔◌}
use Rattle.std.specs.Global.{Vec}
use Rattle.std.specs.List.{filter}
use Rattle.std.proofs.lemmas.Bool.{eqb-true}
use mathlib.Core.Option.{some}
use lib.ListN.{get_elem?}
use Rattle.ix_base.specs.Words.{head_kind}
use Rattle.queue_rule.specs.Chain.{own}
use Rattle.queue_rule.specs.Lists.{Each}
use Rattle.queue_rule.specs.declared.view.Own.{Own}
use Rattle.delete_queue.specs.declared.log.QueueLog.{QueueLog}
use Rattle.delete_queue.specs.declared.queue.DeleteQueue.{DeleteQueue}
use Rattle.delete_queue.specs.declared.seat.Seat.{Seat}
use Rattle.delete_queue.specs.Log.{HasAllOf, IsLogOf, Logged, entries_of, last_head_or, own_in}
use Rattle.delete_queue.specs.Seats.{number_of, own_of, seats_of}
use Rattle.row_fates.specs.Fate.{Numbered}
use Rattle.thread_writer.specs.declared.piece.Piece.{Piece}
use Rattle.thread_writer.specs.declared.writer.ThreadWriter.{ThreadWriter}
use Rattle.thread_writer.specs.Writing.{is_turn}
use Rattle.index_writer.specs.declared.round.RoundParts.{RoundParts}
use Rattle.index_writer.specs.Rounds.{ArePartsOf, AreWorkersFrom}
use Rattle.index_writer.specs.Working.{SomeTurned, turns_by, turns_in}
use Rattle.index_writer.proofs.Gathering.{seats_in}

-- ---- the log's list

abbrev pub words_in : List Logged → List (List ℕ)
words_in list = map (λ (e : Logged). e.words) list

-- only the last entry may close the queue
abbrev pub OpenBefore : List Logged → Type 0
OpenBefore [] = Unit {0}
OpenBefore (e ∷ []) = Unit {0}
OpenBefore (e ∷ f ∷ es) = (head_kind (slice_index e.words 0) < 6) × OpenBefore (f ∷ es)

open_before : (list : List Logged)
    → ((i : ℕ) (e : Logged) → get_elem? list i ≡ some e → i + 1 < length list → head_kind (slice_index e.words 0) < 6) → OpenBefore list
open_before [] h = tt
open_before (e ∷ []) h = tt
open_before (e ∷ f ∷ es) h = (h zero e refl (omega arith), open_before (f ∷ es) (λ i x at lt. h (suc i) x at (omega (arith, lt))))

-- the kind of the last entry; 0 where there is none
abbrev pub last_kind : List Logged → ℕ
last_kind list = head_kind (last_head_or 0 (words_in list))

no_turn : (words : List ℕ) → head_kind (slice_index words 0) < 6 → is_turn words ≡ false
no_turn words lt = ne_eqb (head_kind (slice_index words 0)) 7 (λ e. absurd (omega (arith, e, lt)))

-- ---- the entries of one seat

-- an own entry that is a turn is the last one of the list
turn_is_last : (i p : ℕ) (list : List Logged) → OpenBefore list → 0 < turns_in (own_in i p list) → last_kind list ≡ 7
turn_is_last i p [] closes has = absurd (omega (arith, has))
turn_is_last i p (e ∷ []) closes has = by (eqb e.seat i) (is_turn e.words) refl has
  where
    by : (b t : Bool) → is_turn e.words ≡ t → 0 < turns_in (cond b (own p e.words ∷ []) []) → head_kind (slice_index e.words 0) ≡ 7
    by false t turns more = absurd (omega (arith, more))
    by true true turns more = eqb-true (head_kind (slice_index e.words 0)) 7 turns
    by true false turns more = absurd (let none = rw turns at more in omega (arith, none))
turn_is_last i p (e ∷ f ∷ es) closes has = by (eqb e.seat i) has (λ more. turn_is_last i (p + 1) (f ∷ es) closes.1 more)
  where
    rest : List Own
    rest = own_in i (p + 1) (f ∷ es)

    by : (b : Bool) → 0 < turns_in (cond b (own p e.words ∷ rest) rest) → (0 < turns_in rest → last_kind (f ∷ es) ≡ 7) → last_kind (f ∷ es) ≡ 7
    by false more before = before more
    by true more before = before (rw (no_turn e.words closes.0) at more)

-- one more own entry takes no turn away
no_less : (b : Bool) (o : Own) (os : List Own) → 0 < turns_in os → 0 < turns_in (cond b (o ∷ os) os)
no_less false o os has = has
no_less true o os has = by (is_turn o.words)
  where
    by : (t : Bool) → 0 < length (cond t (o ∷ filter (λ (x : Own). is_turn x.words) os) (filter (λ (x : Own). is_turn x.words) os))
    by true = omega arith
    by false = has

-- the seat that linked the last entry has a turn where that is one
pub record HasTurn (n p : ℕ) (list : List Logged) : Type 0 where
  pub seat : ℕ
  pub inside : seat < n
  pub some : 0 < turns_in (own_in seat p list)

last_is_turn : (n p : ℕ) (list : List Logged) → Each (λ (e : Logged). e.seat < n) list → last_kind list ≡ 7 → HasTurn n p list
last_is_turn n p [] few is = absurd (omega (arith, is))
last_is_turn n p (e ∷ []) few is = record {
  seat = e.seat;
  inside = few.0;
  some = rw (eq-eqb e.seat e.seat refl, eq-eqb (head_kind (slice_index e.words 0)) 7 is) (omega arith);
}
last_is_turn n p (e ∷ f ∷ es) few is =
    let more = last_is_turn n (p + 1) (f ∷ es) few.1 is in
    record {
      seat = more.seat;
      inside = more.inside;
      some = no_less (eqb e.seat more.seat) (own p e.words) (own_in more.seat (p + 1) (f ∷ es)) more.some;
    }

-- ---- the writers

-- one of them has a turn: the last entry is one
turned_last : (q : DeleteQueue) (i : ℕ) (told : List (List Numbered)) (ws : List ThreadWriter) (ps : List (Vec Piece)) (entries : List (List ℕ)) (list : List Logged)
    → AreWorkersFrom q i told ws ps → Each (HasAllOf entries list) (seats_in ws) → OpenBefore list → 0 < turns_by ws → last_kind list ≡ 7
turned_last q i told [] ps entries list are has closes turns = absurd (omega (arith, turns))
turned_last q i [] (w ∷ ws) ps entries list are has closes turns = absurd are
turned_last q i (t ∷ told) (w ∷ ws) [] entries list are has closes turns = absurd are
turned_last q i (t ∷ told) (w ∷ ws) (p ∷ ps) entries list are has closes turns =
    by (turns_in (own_of w.seat)) refl (λ more. turned_last q (i + 1) told ws ps entries list are.1 has.1 closes more)
  where
    by : (n : ℕ) → turns_in (own_of w.seat) ≡ n → (0 < turns_by ws → last_kind list ≡ 7) → last_kind list ≡ 7
    by zero is before = before (omega (arith, is, turns))
    by (suc n) is before =
        let owns = ap turns_in has.0.owns in
        turn_is_last (number_of w.seat) 1 list closes (omega (arith, owns, is))

-- the writer at that place has one
last_turned : (q : DeleteQueue) (i at : ℕ) (told : List (List Numbered)) (ws : List ThreadWriter) (ps : List (Vec Piece)) (entries : List (List ℕ)) (list : List Logged)
    → AreWorkersFrom q i told ws ps → Each (HasAllOf entries list) (seats_in ws) → at < length ws → 0 < turns_in (own_in (i + at) 1 list) → 0 < turns_by ws
last_turned q i at told [] ps entries list are has inside turns = absurd (omega (arith, inside))
last_turned q i at [] (w ∷ ws) ps entries list are has inside turns = absurd are
last_turned q i at (t ∷ told) (w ∷ ws) [] entries list are has inside turns = absurd are
last_turned q i zero (t ∷ told) (w ∷ ws) (p ∷ ps) entries list are has inside turns =
    let number : number_of w.seat ≡ i + zero = omega (arith, are.0.number_is) in
    let owns = ap turns_in has.0.owns in
    let same = ap (λ (n : ℕ). turns_in (own_in n 1 list)) number in omega (arith, owns, same, turns)
last_turned q i (suc at) (t ∷ told) (w ∷ ws) (p ∷ ps) entries list are has inside turns =
    let place : i + suc at ≡ i + 1 + at = omega arith in
    let more = last_turned q (i + 1) at told ws ps entries list are.1 has.1 (omega (arith, inside)) (subst (λ (n : ℕ). 0 < turns_in (own_in n 1 list)) place turns) in
    omega (arith, more)

-- ---- both

pub turned : (base : ℕ) (told : List (List Numbered)) (parts : RoundParts) (seats : List Seat) (log : QueueLog) → ArePartsOf base told parts
    → seats ≡ seats_in parts.writers.items → IsLogOf parts.queue seats log
    → (head_kind (last_head_or 0 (entries_of log)) ≡ 7) ↔ SomeTurned parts
turned base told parts seats log are seats_are is = (
  λ seven.
      let last = last_is_turn (seats_of parts.queue) 1 is.list is.numbers (sym kind ∙ seven) in
      last_turned parts.queue 0 last.seat told parts.writers.items parts.pieces.items (entries_of log) is.list are.workers has
      (omega (arith, last.inside, are.all)) (subst (λ (n : ℕ). 0 < turns_in (own_in n 1 is.list)) (omega arith) last.some),
  λ turns. kind ∙ turned_last parts.queue 0 told parts.writers.items parts.pieces.items (entries_of log) is.list are.workers has closes turns,
)
  where
    kind : head_kind (last_head_or 0 (entries_of log)) ≡ last_kind is.list
    kind = ap (λ (ws : List (List ℕ)). head_kind (last_head_or 0 ws)) is.words

    has : Each (HasAllOf (entries_of log) is.list) (seats_in parts.writers.items)
    has = subst (Each (HasAllOf (entries_of log) is.list)) seats_are is.seats

    closes : OpenBefore is.list
    closes = open_before is.list is.closes
