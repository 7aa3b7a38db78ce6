-- The replies that the workers still have.
use Rattle.std.proofs.Common.{◌≡◌, ℕ, zero, suc, ◌+◌, ◌<◌, ◌≤◌, ◌%◌, true, false, List, [], ◌∷◌, length, refl, sym}
use Rattle.std.proofs.Common.{ap, subst, arith}
use Rattle.std.specs.Prelude.{slice_index_or, slice_set}
use Rattle.std.specs.Vec.Iter.{into_iter_items, into_iter_len}
use Rattle.std.proofs.lemmas.List.{length-set}
use Rattle.op_script.specs.declared.script.Line.{Line}
use Rattle.worker_tasks.specs.declared.task.Reply.{Reply}
use Rattle.line_shares.proofs.LineLaws.{is_own, other_worker, own_first, own_not, same_worker}
use Rattle.line_shares.specs.Shares.{is_doing, own_lines}
use Rattle.index_run.specs.Replied.{AreLeft, AreLeftFrom, AreRepliesFor, Counts, IsReplyFor, Replies}

-- the replies left are the same where none of these workers does the line
left_stay : (n i base : ℕ) (log : List Line) (l : Line) (rest : List Line) (told : List Replies)
    → ((worker : ℕ) → i ≤ worker → is_own n worker l ≡ false) → AreLeftFrom n i base log (l ∷ rest) told
    → AreLeftFrom n i base log rest told
left_stay n i base log l rest [] not are = tt
left_stay n i base log l rest (own ∷ told) not are = (
  subst (λ (ls : List Line). AreRepliesFor base log ls (into_iter_items own)) (own_not n i l rest (not i (omega arith)))
      are.0,
  are.1,
  left_stay n (i + 1) base log l rest told (λ worker le. not worker (omega (arith, le))) are.2,
)

-- a search takes no reply
pub left_searched : (base : ℕ) (log : List Line) (l : Line) (rest : List Line) (told : List Replies)
    → is_doing l.act ≡ false → AreLeft base log (l ∷ rest) told → AreLeft base log rest told
left_searched base log l rest told search are = record {
  some = are.some;
  each = left_stay (length told) 0 base log l rest told (λ worker le. rw search refl) are.each;
}

-- some reply is left of the worker that does the line
reply_some : (n i base : ℕ) (log : List Line) (l : Line) (rest : List Line) (told : List Replies) (at : ℕ)
    (own : Replies)
    → is_doing l.act ≡ true → l.caller % n ≡ i + at → at < length told → slice_index_or told at own ≡ own
    → AreLeftFrom n i base log (l ∷ rest) told
    → AreRepliesFor base log (l ∷ own_lines n (i + at) rest) (into_iter_items own) × Counts own
reply_some n i base log l rest [] at own doing is inside same are = absurd (omega (arith, inside))
reply_some n i base log l rest (x ∷ told) zero own doing is inside same are =
    subst (λ (w : ℕ). AreRepliesFor base log (l ∷ own_lines n w rest) (into_iter_items own) × Counts own) (omega arith)
    (subst (λ (x : Replies). AreRepliesFor base log (l ∷ own_lines n i rest) (into_iter_items x) × Counts x) same (
      subst (λ (ls : List Line). AreRepliesFor base log ls (into_iter_items x))
          (own_first n i l rest (same_worker n i l doing (omega (arith, is)))) are.0,
      are.1,
    ))
reply_some n i base log l rest (x ∷ told) (suc at) own doing is inside same are =
    subst (λ (w : ℕ). AreRepliesFor base log (l ∷ own_lines n w rest) (into_iter_items own) × Counts own) (omega arith)
    (reply_some n (i + 1) base log l rest told at own doing (omega (arith, is)) (omega (arith, inside)) same are.2)

-- the replies left once that worker's next one is taken
left_taken : (n i base : ℕ) (log : List Line) (l : Line) (rest : List Line) (told : List Replies) (at : ℕ)
    (new : Replies)
    → l.caller % n ≡ i + at → at < length told → AreLeftFrom n i base log (l ∷ rest) told
    → AreRepliesFor base log (own_lines n (i + at) rest) (into_iter_items new) → Counts new
    → AreLeftFrom n i base log rest (slice_set told at new)
left_taken n i base log l rest [] at new is inside are replies counts = absurd (omega (arith, inside))
left_taken n i base log l rest (x ∷ told) zero new is inside are replies counts = (
  subst (λ (w : ℕ). AreRepliesFor base log (own_lines n w rest) (into_iter_items new)) (omega arith) replies,
  counts,
  left_stay n (i + 1) base log l rest told
      (λ worker le. other_worker n worker l (λ same. absurd (omega (arith, is, le, same)))) are.2,
)
left_taken n i base log l rest (x ∷ told) (suc at) new is inside are replies counts = (
  subst (λ (ls : List Line). AreRepliesFor base log ls (into_iter_items x))
      (own_not n i l rest (other_worker n i l (λ same. absurd (omega (arith, is, same))))) are.0,
  are.1,
  left_taken n (i + 1) base log l rest told at new (omega (arith, is)) (omega (arith, inside)) are.2
      (subst (λ (w : ℕ). AreRepliesFor base log (own_lines n w rest) (into_iter_items new))
      (omega arith) replies) counts,
)

-- ---- the next reply

-- A worker's next reply was taken: the reply, and what it has then.
pub record IsNext (old new : Replies) (r : Reply) : Type 0 where
  pub items : into_iter_items old ≡ r ∷ into_iter_items new
  pub count : into_iter_len new + 1 ≡ into_iter_len old

-- there is one
pub some_left : (base : ℕ) (log : List Line) (l : Line) (rest : List Line) (told : List Replies) (at : ℕ)
    (own : Replies)
    → is_doing l.act ≡ true → at ≡ l.caller % length told → slice_index_or told at own ≡ own
    → AreLeft base log (l ∷ rest) told → at < length told → 0 < into_iter_len own
some_left base log l rest told at own doing is same are inside =
    let next = reply_some (length told) 0 base log l rest told at own doing (omega (arith, is)) inside same are.each in
    let some = counted (into_iter_items own) next.0 in
    omega (arith, next.1, some)
  where
    counted : (rs : List Reply) → AreRepliesFor base log (l ∷ own_lines (length told) (0 + at) rest) rs → 0 < length rs
    counted [] none = absurd none
    counted (r ∷ rs) some = omega arith

replies_next : (n worker base : ℕ) (log : List Line) (l : Line) (rest : List Line) (rs new : List Reply) (r : Reply)
    → rs ≡ r ∷ new → AreRepliesFor base log (l ∷ own_lines n worker rest) rs
    → IsReplyFor base log l r × AreRepliesFor base log (own_lines n worker rest) new
replies_next n worker base log l rest rs new r is are =
    subst (AreRepliesFor base log (l ∷ own_lines n worker rest)) is are

-- it is the line's
pub reply_is : (base : ℕ) (log : List Line) (l : Line) (rest : List Line) (told : List Replies) (at : ℕ)
    (own new : Replies)
    (r : Reply) → is_doing l.act ≡ true → at ≡ l.caller % length told → slice_index_or told at own ≡ own
    → AreLeft base log (l ∷ rest) told → at < length told → IsNext own new r → IsReplyFor base log l r
reply_is base log l rest told at own new r doing is same are inside next =
    let n = length told in
    let some = reply_some n 0 base log l rest told at own doing (omega (arith, is)) inside same are.each in
    (replies_next n (0 + at) base log l rest (into_iter_items own) (into_iter_items new) r next.items some.0).0

-- and the rest is left
pub left_next : (base : ℕ) (log : List Line) (l : Line) (rest : List Line) (told : List Replies) (at : ℕ)
    (own new : Replies)
    (r : Reply) → is_doing l.act ≡ true → at ≡ l.caller % length told → slice_index_or told at own ≡ own
    → AreLeft base log (l ∷ rest) told → at < length told → IsNext own new r
    → AreLeft base log rest (slice_set told at new)
left_next base log l rest told at own new r doing is same are inside next =
    let n = length told in
    let some = reply_some n 0 base log l rest told at own doing (omega (arith, is)) inside same are.each in
    let more = replies_next n (0 + at) base log l rest (into_iter_items own)
    (into_iter_items new) r next.items some.0 in
    let long = ap length next.items in
    let counts : Counts new = omega (arith, next.count, some.1, long) in
    let count : length (slice_set told at new) ≡ n = length-set told at new in
    record {
      some = let first = are.some in omega (arith, first, count);
      each = subst (λ (m : ℕ). AreLeftFrom m 0 base log rest (slice_set told at new)) (sym count)
          (left_taken n 0 base log l rest told at new (omega (arith, is)) inside are.each more.1 counts);
    }

pub none_left : (base : ℕ) (log : List Line) (l : Line) (rest : List Line) (told : List Replies) (at : ℕ)
    (own : Replies)
    → is_doing l.act ≡ true → at ≡ l.caller % length told → slice_index_or told at own ≡ own
    → AreLeft base log (l ∷ rest) told → at < length told → into_iter_len own ≡ 0 → ⊥
none_left base log l rest told at own doing is same are inside none =
    let some = some_left base log l rest told at own doing is same are inside in omega (arith, some, none)
