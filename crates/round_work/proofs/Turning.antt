-- A writer links a turn only where its part of the queue has no room for the operation.
use Rattle.std.proofs.Common.{◌≡◌, ◌∙◌, ℕ, ◌-◌, ◌^◌, ◌<◌, ◌⊎◌, List, [], ◌∷◌, ◌++◌, Option, Result, Ok, Err, false}
use Rattle.std.proofs.Common.{length, slice_index, refl, sym, ap, subst, arith, append-nil, inl, inr, ne_eqb}
use Rattle.std.specs.Prelude.{slice_index_or}
use Rattle.std.specs.List.{filter}
use Rattle.std.proofs.lemmas.List.Elements.{filter-append}
use Rattle.ix_base.specs.Entry.{entry_bytes, entry_of, kind_of, turn}
use Rattle.ix_base.proofs.EntryLaws.{head_again, most_bytes}
use Rattle.ix_base.specs.Words.{Spells, entry_words, head_kind}
use Rattle.ix_base.specs.declared.document.Operation.{Operation}
use Rattle.ix_base.specs.declared.document.Operation.TheVariants as op
use Rattle.queue_rule.specs.Chain.{filled, own}
use Rattle.queue_rule.specs.declared.view.Own.{Own}
use Rattle.delete_queue.specs.declared.queue.DeleteQueue.{DeleteQueue}
use Rattle.delete_queue.specs.declared.seat.Linked.{Linked}
use Rattle.delete_queue.specs.declared.seat.Linked.TheVariants as linked
use Rattle.delete_queue.specs.Answers as queue
use Rattle.delete_queue.specs.Seats.{FindsClosed, Links, left_of, own_of, seen_of}
use Rattle.thread_writer.specs.Answers as answers
use Rattle.thread_writer.specs.Writing.{Stays, is_turn}
use Rattle.thread_writer.specs.declared.piece.Piece.{Piece}
use Rattle.thread_writer.specs.declared.told.Told.{Told}
use Rattle.thread_writer.specs.declared.told.Told.TheVariants as told
use Rattle.thread_writer.specs.declared.writer.ThreadWriter.{ThreadWriter}
use Rattle.round_work.specs.Lines.{TurnsFor, reply_for}
use Rattle.worker_tasks.specs.Shares.{share_of}
use Rattle.round_work.specs.Working.{LacksRoom, turns_of}
use Rattle.round_work.specs.declared.line.Halt.{Halt}
use Rattle.worker_tasks.specs.declared.task.Reply.{Reply}
use Rattle.worker_tasks.specs.declared.task.Task.{Task}

-- ---- own entries

operation_kind : (is : Operation) → kind_of (entry_of is) < 7
operation_kind (op.Add doc) = omega arith
operation_kind (op.AddBlock docs) = omega arith
operation_kind (op.Update term doc) = omega arith
operation_kind (op.UpdateBlock term docs) = omega arith
operation_kind (op.DeleteTerm term) = omega arith
operation_kind (op.DeleteQuery query) = omega arith
operation_kind (op.SetNumber term name value) = omega arith
operation_kind (op.Commit pairs) = omega arith

-- the entry of an operation is no turn
no_turn : (is : Operation) → Spells (entry_words (entry_of is)) (entry_of is)
    → is_turn (entry_words (entry_of is)) ≡ false
no_turn is spells =
    let e = entry_of is in
    let most = most_bytes e spells.fits in
    let few : length (entry_bytes e) < 2 ^ 32 = omega (arith, most) in
    let kind : head_kind (slice_index (entry_words e) 0) ≡ kind_of e =
    (head_again (kind_of e) (length (entry_bytes e)) few).0 in
    let low = operation_kind is in
    ne_eqb _ 7 (λ is_seven. let z : ⊥ = omega (arith, kind, low, is_seven) in z)

turns_still : (os : List Own) (place : ℕ) (words : List ℕ) → is_turn words ≡ false
    → length (filter (λ (o : Own). is_turn o.words) (os ++ own place words ∷ []))
    ≡ length (filter (λ (o : Own). is_turn o.words) os)
turns_still os place words is =
    ap (λ (l : List Own). length l)
    (filter-append (λ (o : Own). is_turn o.words) os (own place words ∷ []) ∙ rw is (append-nil _))

-- who has linked nothing has as many words left
same_left : (s t : ThreadWriter) → own_of t.seat ≡ own_of s.seat → left_of t.seat ≡ left_of s.seat
same_left s t mine = ap (λ (os : List Own). 16642 - filled os - 2) mine

-- ---- a line

pub same_turns : (old new : ThreadWriter) → own_of new.seat ≡ own_of old.seat → turns_of new ≡ turns_of old
same_turns old new mine = ap (λ (os : List Own). length (filter (λ (o : Own). is_turn o.words) os)) mine

pub stays_own : (q : DeleteQueue) (said : Told) (old new : ThreadWriter) → answers.IfNotNumbered said (Stays q old new)
    → answers.IfNotNumbered said (own_of new.seat ≡ own_of old.seat)
stays_own q (told.Numbered n) old new stays = tt
stays_own q (told.RefusedTerm size) old new stays = stays.own
stays_own q (told.RefusedQuery size) old new stays = stays.own
stays_own q told.Closed old new stays = stays.own
stays_own q (told.Full need left) old new stays = stays.own
stays_own q told.NoMemory old new stays = stays.own

-- a line alone links no turn
pub lined_turns : (is : Operation) (said : Told) (old new : ThreadWriter)
    → answers.IfNumbered said (λ n. Links old.seat new.seat (entry_words (entry_of is)) n)
    → answers.IfNumbered said (λ n. Spells (entry_words (entry_of is)) (entry_of is))
    → answers.IfNotNumbered said (own_of new.seat ≡ own_of old.seat) → turns_of new ≡ turns_of old
lined_turns is (told.Numbered n) old new links spells stays =
    ap (λ (os : List Own). length (filter (λ (o : Own). is_turn o.words) os)) links.own
    ∙ turns_still (own_of old.seat) (seen_of new.seat) (entry_words (entry_of is)) (no_turn is spells)
lined_turns is (told.RefusedTerm size) old new links spells stays = same_turns old new stays
lined_turns is (told.RefusedQuery size) old new links spells stays = same_turns old new stays
lined_turns is told.Closed old new links spells stays = same_turns old new stays
lined_turns is (told.Full need left) old new links spells stays = same_turns old new stays
lined_turns is told.NoMemory old new links spells stays = same_turns old new stays

-- a step without a turn
pub no_turns : (is : Operation) (r : Result Reply Halt) (old new : ThreadWriter) → turns_of new ≡ turns_of old
    → TurnsFor r is old new
no_turns is (Ok reply) old new same = same
no_turns is (Err h) old new same = inl same

-- a step that asked for a turn, since a line found no room
pub full_turns : (is : Operation) (said : Told) (need left : ℕ) (linked : Linked) (old ready done new : ThreadWriter)
    → said ≡ told.Full need left
    → answers.FindsFull (entry_words (entry_of is)) ready done need left
    → own_of ready.seat ≡ own_of old.seat → own_of done.seat ≡ own_of ready.seat
    → queue.IfAt linked (λ n. Links done.seat new.seat (entry_words turn) n)
    → queue.IfClosed linked (FindsClosed done.seat new.seat) → queue.IfFull linked ⊥
    → TurnsFor (reply_for said) is old new
full_turns is said need left (linked.At n) old ready done new full finds first second at closed never =
    subst (λ (t : Told). TurnsFor (reply_for t) is old new) (sym full) (inr (
      refl,
      record {
        before = done.seat;
        number = n;
        turn = at;
        full =
            (let needs = finds.need_is in let had = finds.left_is in let short = finds.short in
            let same = same_left ready done second in
            omega (arith, needs, had, short, same));
      },
    ))
full_turns is said need left linked.Closed old ready done new full finds first second at closed never =
    subst (λ (t : Told). TurnsFor (reply_for t) is old new) (sym full) (inl (same_turns old new (closed.own ∙ second ∙ first)))
full_turns is said need left (linked.Full a b) old ready done new full finds first second at closed never = absurd never

-- ---- a worker

-- a task was told nothing, after tasks without a turn
pub stop_turns : (a b c : ThreadWriter) (tasks : List Task) (replies noted : List Reply) (held : Option Piece)
    (t : Task) (h : Halt) → turns_of b ≡ turns_of a → length replies < length tasks
    → slice_index_or tasks (length replies) t ≡ t → noted ≡ replies
    → TurnsFor (Err h) t.operation b c → (turns_of c ≡ turns_of a) ⊎ LacksRoom c (share_of tasks noted held)
stop_turns a b c tasks replies noted held t h before inside at same (inl still) = inl (still ∙ before)
stop_turns a b c tasks replies noted held t h before inside at same (inr lacks) = inr (record {
  task = t;
  inside = subst (λ (rs : List Reply). length rs < length tasks) (sym same) inside;
  is = subst (λ (rs : List Reply). slice_index_or tasks (length rs) t ≡ t) (sym same) at;
  turned = lacks.1;
})
