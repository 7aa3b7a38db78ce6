-- What workers whose shares went on were told since.
use Rattle.std.proofs.Common.{◌≡◌, ◌∙◌, ℕ, zero, suc, ◌+◌, ◌%◌, List, [], ◌∷◌, ◌++◌}
use Rattle.std.proofs.Common.{length, map, take, drop, slice_index_or, refl, sym, ap, subst, arith}
use Rattle.std.proofs.lemmas.List.{drop_at, drop-map}
use Rattle.std.specs.List.{AllByRecursion, AllZip}
use Rattle.op_script.specs.declared.script.Line.{Line}
use Rattle.worker_tasks.specs.declared.share.Share.{Share}
use Rattle.worker_tasks.specs.declared.task.Reply.{Reply}
use Rattle.worker_tasks.specs.declared.task.Reply.TheVariants.{Numbered, Refused}
use Rattle.worker_tasks.specs.declared.task.Task.{Task}
use Rattle.worker_tasks.specs.Shares.{open_tasks}
use Rattle.worker_tasks.specs.Replies.{AreReplies, told_in}
use Rattle.run_log.specs.Headline.{numbered}
use Rattle.run_log.specs.Telling.{AreTells, IsPartOf, IsTell, Tell, lines_of, of_caller, pairs_of}
use Rattle.line_shares.proofs.OwnLaws.{numbered_split, each_dropped, numbered_parts, own_callers, own_doing}
use Rattle.line_shares.proofs.ReplyLaws.{IsDoingLine, doing_act, lines_told_in, pairs_told_in}
use Rattle.line_shares.proofs.ReplyLaws.{replies_behind, tells_append, tells_each}
use Rattle.line_shares.proofs.ShareLaws.{fits_at, more_at, shares_go_on}
use Rattle.line_shares.specs.Shares.{AreShares, AreSharesFrom, GoesOn, IsShare, own_lines, task_of}
use Rattle.line_shares.specs.Tells.{pairs_since, replies_at, tell_of, tells_in, told_since, told_so_far}

-- ---- so far

-- the lines that a worker was told so far are the numbered ones of its lines that have replies
pub lines_so_far : (n : ℕ) (lines : List Line) (shares : List Share) → AreShares n lines shares → (worker : ℕ)
    → lines_of (told_so_far n lines shares worker)
    ≡ numbered (take (length (replies_at shares worker)) (own_lines n worker lines))
lines_so_far n lines shares are worker =
    lines_told_in (own_lines n worker lines) (replies_at shares worker) (own_doing n worker lines)
    (fits_at n lines shares are worker).are

-- ---- since

-- the lines of a worker that had no replies yet
abbrev pub lines_left : ℕ → List Line → List Share → ℕ → List Line
lines_left n lines shares worker = drop (length (replies_at shares worker)) (own_lines n worker lines)

-- they write or commit
left_doing : (n : ℕ) (lines : List Line) (shares : List Share) (worker : ℕ)
    → AllByRecursion IsDoingLine (lines_left n lines shares worker)
left_doing n lines shares worker =
    each_dropped IsDoingLine (length (replies_at shares worker)) (own_lines n worker lines) (own_doing n worker lines)

-- they are of its callers
pub left_callers : (n : ℕ) (lines : List Line) (shares : List Share) (worker : ℕ)
    → AllByRecursion (λ (l : Line). l.caller % n ≡ worker) (lines_left n lines shares worker)
left_callers n lines shares worker =
    each_dropped (λ (l : Line). l.caller % n ≡ worker) (length (replies_at shares worker))
    (own_lines n worker lines) (own_callers n worker lines)

-- its replies since
abbrev pub replies_since : List Share → List Share → ℕ → List Reply
replies_since olds news worker = drop (length (replies_at olds worker)) (replies_at news worker)

module _ (n : ℕ) (lines : List Line) (olds news : List Share) where
  since_is : (go : AllZip GoesOn olds news) (worker : ℕ)
      → replies_since olds news worker ≡ (more_at olds news worker go).0
  since_is go worker =
      let more = more_at olds news worker go in
      ap (λ (rs : List Reply). drop (length (replies_at olds worker)) rs) more.1
      ∙ drop_at (replies_at olds worker) more.0 (length (replies_at olds worker)) refl

  -- What a worker was told grows at its end.
  pub tells_grow : AreShares n lines olds → AllZip GoesOn olds news → (worker : ℕ)
      → told_so_far n lines news worker ≡ told_so_far n lines olds worker ++ told_since n lines olds news worker
  tells_grow are go worker =
      let own = own_lines n worker lines in
      let old = replies_at olds worker in
      let more = more_at olds news worker go in
      ap (λ (rs : List Reply). tells_in own rs) more.1
      ∙ tells_append own old more.0 (fits_at n lines olds are worker).few
      ∙ ap (λ (rs : List Reply). tells_in own old ++ tells_in (drop (length old) own) rs) (sym (since_is go worker))

  -- the replies since fit the lines that had none
  since_fits : AreShares n lines olds → AllZip GoesOn olds news → (worker : ℕ)
      → AreReplies (map task_of (lines_left n lines olds worker)) (replies_since olds news worker)
  since_fits are go worker =
      let own = own_lines n worker lines in
      let old = replies_at olds worker in
      let more = more_at olds news worker go in
      let fits = fits_at n lines news (shares_go_on n lines olds news are go) worker in
      let behind : AreReplies (drop (length old) (map task_of own)) more.0 =
      replies_behind (map task_of own) old more.0
      (subst (λ (rs : List Reply). AreReplies (map task_of own) rs) more.1 fits.are) in
      subst (λ (rs : List Reply). AreReplies (map task_of (drop (length old) own)) rs) (sym (since_is go worker))
      (subst (λ (ts : List Task). AreReplies ts more.0) (drop-map task_of (length old) own) behind)

  -- the lines that a worker was told since are the numbered ones of those
  lines_since : AreShares n lines olds → AllZip GoesOn olds news → (worker : ℕ)
      → lines_of (told_since n lines olds news worker)
      ≡ numbered (take (length (replies_since olds news worker)) (lines_left n lines olds worker))
  lines_since are go worker =
      lines_told_in (lines_left n lines olds worker) (replies_since olds news worker)
      (left_doing n lines olds worker) (since_fits are go worker)

  since_part : AreShares n lines olds → AllZip GoesOn olds news → (caller : ℕ)
      → IsPartOf (of_caller caller (lines_of (told_since n lines olds news (caller % n))))
      (of_caller caller (numbered lines))
  since_part are go caller =
      let k = length (replies_at olds (caller % n)) in
      let m = length (replies_since olds news (caller % n)) in
      let left = lines_left n lines olds (caller % n) in
      let front = of_caller caller (numbered (take k (own_lines n (caller % n) lines))) in
      let back = of_caller caller (numbered (drop m left)) in
      let part = of_caller caller (numbered (take m left)) in
      record {
        front = front;
        back = back;
        is =
            numbered_parts n caller k lines ∙ ap (λ (ls : List Line). front ++ ls) (numbered_split caller m left)
            ∙ ap (λ (ls : List Line). front ++ (of_caller caller ls ++ back))
            (sym (lines_since are go (caller % n)));
      }

-- a line that was told a number has its own operation
tell_good : (l : Line) (r : Reply) → IsDoingLine l → AllByRecursion IsTell (tell_of l r)
tell_good l (Numbered n) doing = (doing_act l.act doing, tt)
tell_good l (Refused refused) doing = tt

-- and its own caller
tell_own : (n worker : ℕ) (l : Line) (r : Reply) → l.caller % n ≡ worker
    → AllByRecursion (λ (t : Tell). t.line.caller % n ≡ worker) (tell_of l r)
tell_own n worker l (Numbered number) is = (is, tt)
tell_own n worker l (Refused refused) is = tt

-- What workers were told since is of the numbered lines.
pub tells_since : (n : ℕ) (lines : List Line) (olds news : List Share) → AreShares n lines olds
    → AllZip GoesOn olds news → AreTells n (numbered lines) (told_since n lines olds news)
tells_since n lines olds news are go = record {
  good =
      λ worker.
      tells_each IsTell IsDoingLine (lines_left n lines olds worker) (replies_since olds news worker) tell_good
      (left_doing n lines olds worker);
  own =
      λ worker.
      tells_each (λ (t : Tell). t.line.caller % n ≡ worker) (λ (l : Line). l.caller % n ≡ worker)
      (lines_left n lines olds worker) (replies_since olds news worker) (tell_own n worker)
      (left_callers n lines olds worker);
  part = since_part n lines olds news are go;
}

-- ---- the operations with their numbers

pairs_share : (n worker : ℕ) (lines : List Line) (old : Share) (rs : List Reply) → IsShare n worker lines old
    → told_in (open_tasks old) rs ≡ pairs_of (tells_in (drop (length old.replies) (own_lines n worker lines)) rs)
pairs_share n worker lines old rs is =
    let own = own_lines n worker lines in
    let k = length old.replies in
    ap (λ (ts : List Task). told_in (drop k ts) rs) is.tasks
    ∙ ap (λ (ts : List Task). told_in ts rs) (drop-map task_of k own)
    ∙ pairs_told_in (drop k own) rs

-- what the worker at this place of the shares was told since, of the lines of this worker
abbrev told_at : ℕ → ℕ → List Line → List Share → List Share → ℕ → List Tell
told_at n worker lines olds news i =
    tells_in (drop (length (replies_at olds i)) (own_lines n worker lines)) (replies_since olds news i)

pairs_from : (n low : ℕ) (lines : List Line) (olds news : List Share) (i : ℕ) → AreSharesFrom n low lines olds
    → AllZip GoesOn olds news
    → slice_index_or (pairs_since olds news) i [] ≡ pairs_of (told_at n (low + i) lines olds news i)
pairs_from n low lines [] [] i are go = refl
pairs_from n low lines [] (new ∷ news) i are go = absurd go
pairs_from n low lines (old ∷ olds) [] i are go = absurd go
pairs_from n low lines (old ∷ olds) (new ∷ news) zero are go =
    let at : low ≡ low + 0 = omega arith in
    pairs_share n low lines old (drop (length old.replies) new.replies) are.0
    ∙ ap (λ (w : ℕ). pairs_of (told_at n w lines (old ∷ olds) (new ∷ news) zero)) at
pairs_from n low lines (old ∷ olds) (new ∷ news) (suc i) are go =
    let at : low + 1 + i ≡ low + suc i = omega arith in
    pairs_from n (low + 1) lines olds news i are.1 go.1
    ∙ ap (λ (w : ℕ). pairs_of (told_at n w lines olds news i)) at

-- The operations that each worker was told since are those of its lines.
pub pairs_are : (n : ℕ) (lines : List Line) (olds news : List Share) → AreShares n lines olds
    → AllZip GoesOn olds news → (worker : ℕ)
    → slice_index_or (pairs_since olds news) worker [] ≡ pairs_of (told_since n lines olds news worker)
pairs_are n lines olds news are go worker =
    let at : 0 + worker ≡ worker = omega arith in
    pairs_from n 0 lines olds news worker are.each go
    ∙ ap (λ (w : ℕ). pairs_of (told_at n w lines olds news worker)) at
