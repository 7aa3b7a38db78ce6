-- Writers at work.
use Rattle.std.proofs.Common.{◌≡◌, ◌∙◌, ℕ, ◌<◌, List, [], ◌∷◌, ◌++◌, Option, None, Some, Result, Ok, Err, OnOk, IfOk, true, length, refl, sym, ap, subst, arith, append-nil, append_assoc}
use Rattle.std.specs.List.{AllByRecursion}
use Rattle.std.proofs.lemmas.Bool.{false≢true}
use Rattle.ix_base.specs.Refusals.{refusal}
use Rattle.ix_base.specs.declared.document.Operation.{Operation}
use Rattle.ix_base.specs.declared.document.Operation.TheVariants as op
use Rattle.ix_base.specs.declared.refusal.Refusal.{Refusal}
use Rattle.delete_queue.specs.declared.queue.DeleteQueue.{DeleteQueue}
use Rattle.delete_queue.specs.Seats.{Grows, base_of, own_of}
use Rattle.row_fates.specs.Fate.{Numbered as NumberedOperation}
use Rattle.thread_writer.specs.declared.piece.Piece.{Piece}
use Rattle.thread_writer.specs.declared.told.Told.{Told}
use Rattle.thread_writer.specs.declared.told.Told.TheVariants as told
use Rattle.thread_writer.specs.declared.writer.ThreadWriter.{ThreadWriter}
use Rattle.thread_writer.specs.Answers as answers
use Rattle.thread_writer.specs.Writing.{Did, IsWriter, Numbers, Stays, parts_of}
use Rattle.round_order.specs.Order.{is_commit}
use Rattle.round_work.specs.declared.line.Halt.{Halt}
use Rattle.round_work.specs.declared.line.Halt.TheVariants as halt
use Rattle.worker_tasks.specs.declared.task.Reply.{Reply}
use Rattle.worker_tasks.specs.declared.task.Reply.TheVariants as reply
use Rattle.round_work.specs.Lines.{Closes, reply_for, told_for}
use Rattle.round_work.specs.Working.{WorksOn}
use Rattle.worker_tasks.specs.Replies.{IsReplyTo}
use Rattle.round_work.proofs.Seeing.{committed_seen}

-- ---- lists

all_append : (P : NumberedOperation → Type 0) (xs ys : List NumberedOperation) → AllByRecursion P xs → AllByRecursion P ys → AllByRecursion P (xs ++ ys)
all_append P [] ys first second = second
all_append P (x ∷ xs) ys first second = (first.0, all_append P xs ys first.1 second)

front_none : (xs ys : List NumberedOperation) → xs ++ ys ≡ [] → xs ≡ []
front_none [] ys none = refl
front_none (x ∷ xs) ys none = absurd (let zero_is = ap length none in omega (arith, zero_is))

back_none : (xs ys : List NumberedOperation) → xs ++ ys ≡ [] → ys ≡ []
back_none [] ys none = none
back_none (x ∷ xs) ys none = absurd (let zero_is = ap length none in omega (arith, zero_is))

-- ---- steps of a writer

-- nothing was told
pub told_nothing : (q : DeleteQueue) (old new : ThreadWriter) (gave given : List Piece) → IsWriter q new → Grows old.seat new.seat → new.size ≡ old.size
    → (own_of old.seat ≡ [] → own_of new.seat ≡ []) → ((before : List NumberedOperation) → Did q (parts_of old) before gave → Did q (parts_of new) before given)
    → (pieces : List Piece) → given ≡ gave ++ pieces → WorksOn q [] old gave new given
told_nothing q old new gave given writer grows size still history pieces given_is = record {
  writer = writer;
  number_is = grows.number;
  size_is = size;
  history = λ before did. subst (λ (told : List NumberedOperation). Did q (parts_of new) told given) (sym (append-nil before)) (history before did);
  gave_more = (pieces, given_is);
  above = tt;
  still = λ own none. still own;
}

-- no step at all
pub works_not : (q : DeleteQueue) (w : ThreadWriter) (gave : List Piece) → IsWriter q w → WorksOn q [] w gave w gave
works_not q w gave writer = record {
  writer = writer;
  number_is = refl;
  size_is = refl;
  history = λ before did. subst (λ (told : List NumberedOperation). Did q (parts_of w) told gave) (sym (append-nil before)) did;
  gave_more = ([], sym (append-nil gave));
  above = tt;
  still = λ own none. own;
}

-- one step, and a further one
pub works_then : (q : DeleteQueue) (xs ys : List NumberedOperation) (a b c : ThreadWriter) (one two three : List Piece) → WorksOn q xs a one b two
    → WorksOn q ys b two c three → WorksOn q (xs ++ ys) a one c three
works_then q xs ys a b c one two three first second = record {
  writer = second.writer;
  number_is = second.number_is ∙ first.number_is;
  size_is = second.size_is ∙ first.size_is;
  history = λ before did.
      subst (λ (told : List NumberedOperation). Did q (parts_of c) told three) (append_assoc before xs ys) (second.history (before ++ xs) (first.history before did));
  gave_more =
      let some = first.gave_more.0 in
      let others = second.gave_more.0 in
      (some ++ others, second.gave_more.1 ∙ (ap (λ (ps : List Piece). ps ++ others) first.gave_more.1 ∙ append_assoc one some others));
  above = all_append (λ (t : NumberedOperation). base_of q < t.0) xs ys first.above second.above;
  still = λ own none. second.still (first.still own (front_none xs ys none)) (back_none xs ys none);
}

-- the same where nothing was told in the further one
pub works_on : (q : DeleteQueue) (xs : List NumberedOperation) (a b c : ThreadWriter) (one two three : List Piece) → WorksOn q xs a one b two
    → WorksOn q [] b two c three → WorksOn q xs a one c three
works_on q xs a b c one two three first second =
    subst (λ (told : List NumberedOperation). WorksOn q told a one c three) (append-nil xs) (works_then q xs [] a b c one two three first second)

stayed : (q : DeleteQueue) (old new : ThreadWriter) (gave : List Piece) → IsWriter q new → Grows old.seat new.seat → new.size ≡ old.size → Stays q old new
    → WorksOn q [] old gave new gave
stayed q old new gave writer grows size stays =
    told_nothing q old new gave gave writer grows size (λ own. stays.own ∙ own) (λ before did. stays.history before gave did) [] (sym (append-nil gave))

-- a line was tried
pub lined : (q : DeleteQueue) (is : Operation) (said : Told) (old new : ThreadWriter) (gave : List Piece) → IsWriter q new → Grows old.seat new.seat
    → new.size ≡ old.size → answers.IfNumbered said (λ n. Numbers q is n old new) → answers.IfNotNumbered said (Stays q old new)
    → WorksOn q (told_for (reply_for said) is) old gave new gave
lined q is (told.Numbered n) old new gave writer grows size numbers stays = record {
  writer = writer;
  number_is = grows.number;
  size_is = size;
  history = λ before did. numbers.history before gave did;
  gave_more = ([], sym (append-nil gave));
  above = (numbers.above, tt);
  still = λ own none. absurd (let zero_is = ap length none in omega (arith, zero_is));
}
lined q is (told.RefusedTerm size) old new gave writer grows same numbers stays = stayed q old new gave writer grows same stays
lined q is (told.RefusedQuery size) old new gave writer grows same numbers stays = stayed q old new gave writer grows same stays
lined q is told.Closed old new gave writer grows size numbers stays = stayed q old new gave writer grows size stays
lined q is (told.Full need left) old new gave writer grows size numbers stays = stayed q old new gave writer grows size stays
lined q is told.NoMemory old new gave writer grows size numbers stays = stayed q old new gave writer grows size stays

-- ---- what a line is told

pub replied : (is : Operation) (said : Told) → answers.RefusedExactly said (refusal is) → IfOk (reply_for said) (λ reply. IsReplyTo is reply)
replied is (told.Numbered n) exactly = exactly
replied is (told.RefusedTerm size) exactly = exactly
replied is (told.RefusedQuery size) exactly = exactly
replied is told.Closed exactly = tt
replied is (told.Full need left) exactly = tt
replied is told.NoMemory exactly = tt

abbrev open_result : Result Reply Halt → Type 0
open_result (Ok r) = Unit {0}
open_result (Err halt.Closed) = ⊥
open_result (Err halt.NoMemory) = Unit {0}

pub closed_for : (said : Told) (P : Type 0) → answers.IfClosed said P → ((need left : ℕ) → said ≡ told.Full need left → P)
    → reply_for said ≡ Err halt.Closed → P
closed_for (told.Numbered n) P closed full is = absurd (subst open_result is tt)
closed_for (told.RefusedTerm size) P closed full is = absurd (subst open_result is tt)
closed_for (told.RefusedQuery size) P closed full is = absurd (subst open_result is tt)
closed_for told.Closed P closed full is = closed
closed_for (told.Full need left) P closed full is = full need left refl
closed_for told.NoMemory P closed full is = absurd (subst open_result is tt)

abbrev none_only : Option Refusal → Type 0
none_only None = Unit {0}
none_only (Some r) = ⊥

no_refusal : (is : Operation) (r : Refusal) → is_commit is ≡ true → refusal is ≡ Some r → ⊥
no_refusal (op.Add doc) r commit refused = false≢true commit
no_refusal (op.AddBlock docs) r commit refused = false≢true commit
no_refusal (op.Update term doc) r commit refused = false≢true commit
no_refusal (op.UpdateBlock term docs) r commit refused = false≢true commit
no_refusal (op.DeleteTerm term) r commit refused = false≢true commit
no_refusal (op.DeleteQuery query) r commit refused = false≢true commit
no_refusal (op.SetNumber term name value) r commit refused = false≢true commit
no_refusal (op.Commit pairs) r commit refused = subst none_only refused tt

-- a commit that was told its number has closed the queue
pub closes_for : (q : DeleteQueue) (is : Operation) (said : Result Reply Halt) (old new : ThreadWriter) (gave given : List Piece) → is_commit is ≡ true
    → IfOk said (λ reply. IsReplyTo is reply) → WorksOn q (told_for said is) old gave new given → OnOk said (Closes q old gave new)
closes_for q is (Ok (reply.Numbered n)) old new gave given commit fits works = λ before did.
    committed_seen q new.seat (base_of q) n before is works.writer.ready.seat commit (works.history before did).tells
closes_for q is (Ok (reply.Refused r)) old new gave given commit fits works = absurd (no_refusal is r commit fits)
closes_for q is (Err h) old new gave given commit fits works = tt
