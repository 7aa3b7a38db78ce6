-- One task after another.
use Rattle.std.proofs.Common.{◌≡◌, ◌∙◌, ℕ, ◌+◌, ◌<◌, ◌≤◌, List, [], ◌∷◌, ◌++◌, Option, false, length, refl, sym, ap, subst, arith, append-nil, append_assoc, length-append, length-drop}
use Rattle.std.specs.Prelude.{slice_index_or}
use Rattle.std.proofs.lemmas.Bool.{true≢false}
use Rattle.std.proofs.lemmas.List.{get_or-drop}
use Rattle.delete_queue.specs.declared.queue.DeleteQueue.{DeleteQueue}
use Rattle.delete_queue.specs.Seats.{SawClosed, the_view}
use Rattle.row_fates.specs.Fate.{Numbered as NumberedOperation}
use Rattle.thread_writer.specs.declared.piece.Piece.{Piece}
use Rattle.thread_writer.specs.declared.writer.ThreadWriter.{ThreadWriter}
use Rattle.round_order.specs.Order.{is_commit}
use Rattle.worker_tasks.specs.declared.task.Reply.{Reply}
use Rattle.worker_tasks.specs.declared.task.Task.{Task}
use Rattle.round_work.specs.Lines.{Closes}
use Rattle.worker_tasks.specs.declared.share.Share.{Share}
use Rattle.worker_tasks.specs.Shares.{open_tasks, share_of}
use Rattle.round_work.specs.Working.{Does, EndsAtCommit, IsAtWork, WorksOn, turns_of}
use Rattle.worker_tasks.specs.Replies.{AreReplies, IsReplyTo, told_by, told_in}
use Rattle.round_work.proofs.AtWork.{works_on, works_then}

-- None of the tasks that have these replies is a commit.
abbrev pub NoCommits : List Task → List Reply → Type 0
NoCommits ts [] = Unit {0}
NoCommits [] (r ∷ rs) = Unit {0}
NoCommits (t ∷ ts) (r ∷ rs) = (is_commit t.operation ≡ false) × NoCommits ts rs

-- Tasks were done, none of them a commit, and no turn was linked.
pub record Going (q : DeleteQueue) (old : ThreadWriter) (share : Share) (new : ThreadWriter) (after : Share) (given : List Piece)
    : Type 0 where
  pub does : Does q old share new after given
  pub none : NoCommits (open_tasks share) does.more
  pub turns : turns_of new ≡ turns_of old

-- ---- one reply more

replies_next : (ts : List Task) (rs : List Reply) (t : Task) (r : Reply) → length rs < length ts → slice_index_or ts (length rs) t ≡ t → AreReplies ts rs
    → IsReplyTo t.operation r → AreReplies ts (rs ++ r ∷ [])
replies_next [] rs t r inside is are fits = absurd (omega (arith, inside))
replies_next (x ∷ ts) [] t r inside is are fits = (subst (λ (u : Task). IsReplyTo u.operation r) (sym is) fits, tt)
replies_next (x ∷ ts) (y ∷ rs) t r inside is are fits = (are.0, replies_next ts rs t r (omega (arith, inside)) is are.1 fits)

ends_next : (ts : List Task) (rs : List Reply) (r : Reply) → NoCommits ts rs → EndsAtCommit ts (rs ++ r ∷ [])
ends_next [] [] r none = tt
ends_next [] (y ∷ rs) r none = tt
ends_next (x ∷ ts) [] r none = (λ commit. refl, tt)
ends_next (x ∷ ts) (y ∷ rs) r none = (λ commit. absurd (true≢false (sym commit ∙ none.0)), ends_next ts rs r none.1)

pub ends_none : (ts : List Task) (rs : List Reply) → NoCommits ts rs → EndsAtCommit ts rs
ends_none ts [] none = tt
ends_none [] (y ∷ rs) none = tt
ends_none (x ∷ ts) (y ∷ rs) none = (λ commit. absurd (true≢false (sym commit ∙ none.0)), ends_none ts rs none.1)

none_next : (ts : List Task) (rs : List Reply) (t : Task) (r : Reply) → length rs < length ts → slice_index_or ts (length rs) t ≡ t → NoCommits ts rs
    → is_commit t.operation ≡ false → NoCommits ts (rs ++ r ∷ [])
none_next [] rs t r inside is none no_commit = absurd (omega (arith, inside))
none_next (x ∷ ts) [] t r inside is none no_commit = (subst (λ (u : Task). is_commit u.operation ≡ false) (sym is) no_commit, tt)
none_next (x ∷ ts) (y ∷ rs) t r inside is none no_commit = (none.0, none_next ts rs t r (omega (arith, inside)) is none.1 no_commit)

told_next : (ts : List Task) (rs : List Reply) (t : Task) (r : Reply) → length rs < length ts → slice_index_or ts (length rs) t ≡ t
    → told_in ts (rs ++ r ∷ []) ≡ told_in ts rs ++ told_by t.operation r
told_next [] rs t r inside is = absurd (omega (arith, inside))
told_next (x ∷ ts) [] t r inside is = append-nil (told_by x.operation r) ∙ ap (λ (u : Task). told_by u.operation r) is
told_next (x ∷ ts) (y ∷ rs) t r inside is =
    ap (λ (told : List NumberedOperation). told_by x.operation y ++ told) (told_next ts rs t r (omega (arith, inside)) is)
    ∙ sym (append_assoc (told_by x.operation y) (told_in ts rs) (told_by t.operation r))

-- ---- a worker's steps

-- the task at the place of the next reply is the next of the tasks that had none
next_open : (share : Share) (replies more : List Reply) (t : Task) → replies ≡ share.replies ++ more → length replies < length share.tasks
    → slice_index_or share.tasks (length replies) t ≡ t → (length more < length (open_tasks share)) × (slice_index_or (open_tasks share) (length more) t ≡ t)
next_open share replies more t is inside at =
    let k = length share.replies in
    let many : length replies ≡ k + length more = ap (λ (rs : List Reply). length rs) is ∙ length-append share.replies more in
    let left = length-drop k share.tasks in (
      omega (arith, many, left, inside),
      get_or-drop k share.tasks (length more) t ∙ (ap (λ (i : ℕ). slice_index_or share.tasks i t) (sym many) ∙ at),
    )

pub does_start : (q : DeleteQueue) (writer : ThreadWriter) (share : Share) (given : List Piece) → length share.replies ≤ length share.tasks
    → WorksOn q [] writer [] writer given → Going q writer share writer share given
does_start q writer share given few works = record {
  does = record { tasks = refl; more = []; replies = sym (append-nil share.replies); few = few; fits = tt; commit = tt; works = works };
  none = tt;
  turns = refl;
}

-- one task more was told something
pub does_next : (q : DeleteQueue) (a b c : ThreadWriter) (share : Share) (replies noted : List Reply) (one_held two_held : Option Piece)
    (two three : List Piece) (t : Task) (r : Reply) → Going q a share b (share_of share.tasks replies one_held) two
    → length replies < length share.tasks → slice_index_or share.tasks (length replies) t ≡ t → IsReplyTo t.operation r
    → noted ≡ replies ++ r ∷ [] → WorksOn q (told_by t.operation r) b two c three → Does q a share c (share_of share.tasks noted two_held) three
does_next q a b c share replies noted one_held two_held two three t r going inside at fits noted_is works =
    let does = going.does in
    let more = does.more in
    let ts = open_tasks share in
    let next = next_open share replies more t does.replies inside at in record {
      tasks = refl;
      more = more ++ r ∷ [];
      replies = noted_is ∙ (ap (λ (rs : List Reply). rs ++ r ∷ []) does.replies ∙ append_assoc share.replies more (r ∷ []));
      few =
          let many = ap (λ (rs : List Reply). length rs) noted_is in
          let one = length-append replies (r ∷ []) in
          omega (arith, many, one, inside);
      fits = replies_next ts more t r next.0 next.1 does.fits fits;
      commit = ends_next ts more r going.none;
      works = subst (λ (told : List NumberedOperation). WorksOn q told a [] c three) (sym (told_next ts more t r next.0 next.1))
          (works_then q (told_in ts more) (told_by t.operation r) a b c [] two three does.works works);
    }

-- and it was no commit, and linked no turn
pub going_next : (q : DeleteQueue) (a b c : ThreadWriter) (share : Share) (replies noted : List Reply) (one_held two_held : Option Piece)
    (two three : List Piece) (t : Task) (r : Reply) → Going q a share b (share_of share.tasks replies one_held) two
    → length replies < length share.tasks → slice_index_or share.tasks (length replies) t ≡ t → IsReplyTo t.operation r
    → noted ≡ replies ++ r ∷ [] → WorksOn q (told_by t.operation r) b two c three → is_commit t.operation ≡ false
    → turns_of c ≡ turns_of b → Going q a share c (share_of share.tasks noted two_held) three
unfolding does_next
going_next q a b c share replies noted one_held two_held two three t r going inside at fits noted_is works no_commit same =
    let next = next_open share replies going.does.more t going.does.replies inside at in record {
      does = does_next q a b c share replies noted one_held two_held two three t r going inside at fits noted_is works;
      none = none_next (open_tasks share) going.does.more t r next.0 next.1 going.none no_commit;
      turns = same ∙ going.turns;
    }

-- a task was told nothing
pub does_stop : (q : DeleteQueue) (a b c : ThreadWriter) (share : Share) (replies noted : List Reply) (one_held two_held : Option Piece)
    (two three : List Piece) → Going q a share b (share_of share.tasks replies one_held) two → noted ≡ replies → WorksOn q [] b two c three
    → Does q a share c (share_of share.tasks noted two_held) three
does_stop q a b c share replies noted one_held two_held two three going noted_is works =
    let does = going.does in record {
      tasks = refl;
      more = does.more;
      replies = noted_is ∙ does.replies;
      few = subst (λ (rs : List Reply). length rs ≤ length share.tasks) (sym noted_is) does.few;
      fits = does.fits;
      commit = does.commit;
      works = works_on q (told_in (open_tasks share) does.more) a b c [] two three does.works works;
    }

-- a commit was told its number
pub closed_next : (q : DeleteQueue) (number : ℕ) (a b c : ThreadWriter) (share after : Share) (two : List Piece) → IsAtWork q number a share
    → Going q a share b after two → Closes q b two c → SawClosed (the_view c.seat)
closed_next q number a b c share after two at going closes =
    closes (at.so_far ++ told_in (open_tasks share) going.does.more) (going.does.works.history at.so_far at.did)
