-- Shares that workers went on with.
use Rattle.std.proofs.Common.{◌≡◌, ◌⊎◌, ◌∙◌, ℕ, zero, suc, ◌+◌, ◌-◌, ◌<◌, ◌≤◌, List, [], ◌∷◌, ◌++◌}
use Rattle.std.proofs.Common.{length, map, refl, sym, ap, subst, inl, inr, arith, append-nil, length-append}
use Rattle.std.proofs.lemmas.List.{length-map}
use Rattle.std.proofs.lemmas.Slice.Zip.{AllZip-long}
use Rattle.std.specs.List.{AllByRecursion, AllZip}
use Rattle.op_script.specs.declared.script.Line.{Line}
use Rattle.worker_tasks.specs.declared.share.Share.{Share}
use Rattle.worker_tasks.specs.declared.task.Reply.{Reply}
use Rattle.worker_tasks.specs.declared.task.Task.{Task}
use Rattle.worker_tasks.specs.Replies.{AreReplies}
use Rattle.line_shares.proofs.ReplyLaws.{replies_append}
use Rattle.line_shares.specs.Shares.{AreDone, AreShares, AreSharesFrom, GoesOn, IsFresh, IsShare}
use Rattle.line_shares.specs.Shares.{open_count, own_lines, task_of}
use Rattle.line_shares.specs.Tells.{replies_at}

-- ---- the replies of one worker

-- these are replies to the first of the lines
pub record Fits (ls : List Line) (rs : List Reply) : Type 0 where
  pub few : length rs ≤ length ls
  pub are : AreReplies (map task_of ls) rs

tasks_count : (n worker : ℕ) (lines : List Line) (share : Share) → IsShare n worker lines share
    → length share.tasks ≡ length (own_lines n worker lines)
tasks_count n worker lines share is =
    ap (λ (ts : List Task). length ts) is.tasks ∙ length-map (own_lines n worker lines) task_of

fits_share : (n worker : ℕ) (lines : List Line) (share : Share) → IsShare n worker lines share
    → Fits (own_lines n worker lines) share.replies
fits_share n worker lines share is = record {
  few = omega (arith, tasks_count n worker lines share is, is.few);
  are = subst (λ (ts : List Task). AreReplies ts share.replies) is.tasks is.fits;
}

fits_from : (n low : ℕ) (lines : List Line) (shares : List Share) (i : ℕ) → AreSharesFrom n low lines shares
    → Fits (own_lines n (low + i) lines) (replies_at shares i)
fits_from n low lines [] i are = record { few = omega arith; are = tt }
fits_from n low lines (s ∷ ss) zero are =
    let at : low ≡ low + 0 = omega arith in
    subst (λ (w : ℕ). Fits (own_lines n w lines) s.replies) at (fits_share n low lines s are.0)
fits_from n low lines (s ∷ ss) (suc i) are =
    let at : low + 1 + i ≡ low + suc i = omega arith in
    subst (λ (w : ℕ). Fits (own_lines n w lines) (replies_at ss i)) at (fits_from n (low + 1) lines ss i are.1)

-- Each worker's replies are those to the first of its lines.
pub fits_at : (n : ℕ) (lines : List Line) (shares : List Share) → AreShares n lines shares → (worker : ℕ)
    → Fits (own_lines n worker lines) (replies_at shares worker)
fits_at n lines shares are worker =
    let at : 0 + worker ≡ worker = omega arith in
    subst (λ (w : ℕ). Fits (own_lines n w lines) (replies_at shares worker)) at
    (fits_from n 0 lines shares worker are.each)

done_from : (n low : ℕ) (lines : List Line) (shares : List Share) (i : ℕ) → AreSharesFrom n low lines shares
    → AreDone shares → i < length shares → length (replies_at shares i) ≡ length (own_lines n (low + i) lines)
done_from n low lines [] i are done within = absurd (omega (arith, within))
done_from n low lines (s ∷ ss) zero are done within =
    let at : low ≡ low + 0 = omega arith in
    subst (λ (w : ℕ). length s.replies ≡ length (own_lines n w lines)) at
    (done.0 ∙ tasks_count n low lines s are.0)
done_from n low lines (s ∷ ss) (suc i) are done within =
    let at : low + 1 + i ≡ low + suc i = omega arith in
    subst (λ (w : ℕ). length (replies_at ss i) ≡ length (own_lines n w lines)) at
    (done_from n (low + 1) lines ss i are.1 done.1 (omega (arith, within)))

-- Where each task was told something, each worker has as many replies as lines.
pub done_at : (n : ℕ) (lines : List Line) (shares : List Share) → AreShares n lines shares → AreDone shares
    → (worker : ℕ) → worker < n → length (replies_at shares worker) ≡ length (own_lines n worker lines)
done_at n lines shares are done worker within =
    let at : 0 + worker ≡ worker = omega arith in
    subst (λ (w : ℕ). length (replies_at shares worker) ≡ length (own_lines n w lines)) at
    (done_from n 0 lines shares worker are.each done (omega (arith, within, are.count)))

-- a fresh share has no replies
pub fresh_at : (shares : List Share) (worker : ℕ) → AllByRecursion IsFresh shares → replies_at shares worker ≡ []
fresh_at [] worker fresh = refl
fresh_at (s ∷ ss) zero fresh = fresh.0
fresh_at (s ∷ ss) (suc worker) fresh = fresh_at ss worker fresh.1

-- ---- shares that workers went on with

goes_on : (n worker : ℕ) (lines : List Line) (old new : Share) → IsShare n worker lines old → GoesOn old new
    → IsShare n worker lines new
goes_on n worker lines old new is go = record {
  tasks = go.tasks ∙ is.tasks;
  few = go.few;
  fits =
      subst (λ (ts : List Task). AreReplies ts new.replies) (sym go.tasks)
      (subst (λ (rs : List Reply). AreReplies old.tasks rs) (sym go.replies)
      (replies_append old.tasks old.replies go.more is.fits go.fits));
  none = go.none;
}

go_from : (n low : ℕ) (lines : List Line) (olds news : List Share) → AreSharesFrom n low lines olds
    → AllZip GoesOn olds news → AreSharesFrom n low lines news
go_from n low lines [] [] are go = tt
go_from n low lines [] (new ∷ news) are go = absurd go
go_from n low lines (old ∷ olds) [] are go = absurd go
go_from n low lines (old ∷ olds) (new ∷ news) are go =
    (goes_on n low lines old new are.0 go.0, go_from n (low + 1) lines olds news are.1 go.1)

-- They stay the workers' shares.
pub shares_go_on : (n : ℕ) (lines : List Line) (olds news : List Share) → AreShares n lines olds
    → AllZip GoesOn olds news → AreShares n lines news
shares_go_on n lines olds news are go = record {
  some = are.some;
  count = AllZip-long GoesOn olds news go ∙ are.count;
  each = go_from n 0 lines olds news are.each go;
}

-- Each worker's replies are its old ones and some more.
pub more_at : (olds news : List Share) (worker : ℕ) → AllZip GoesOn olds news
    → (more : List Reply) × (replies_at news worker ≡ replies_at olds worker ++ more)
more_at [] [] worker go = ([], refl)
more_at [] (new ∷ news) worker go = absurd go
more_at (old ∷ olds) [] worker go = absurd go
more_at (old ∷ olds) (new ∷ news) zero go = (go.0.more, go.0.replies)
more_at (old ∷ olds) (new ∷ news) (suc worker) go = more_at olds news worker go.1

-- ---- how many tasks are open

-- the replies are the same
abbrev pub SameReplies : Share → Share → Type 0
SameReplies old new = new.replies ≡ old.replies

-- a share has fewer open tasks, or as many and the same replies
one_falls : (old new : Share) → GoesOn old new
    → (length new.tasks - length new.replies < length old.tasks - length old.replies)
    ⊎ ((length new.tasks - length new.replies ≤ length old.tasks - length old.replies) × SameReplies old new)
one_falls old new go = by go.more go.replies
  where
    many : length new.tasks ≡ length old.tasks
    many = ap (λ (ts : List Task). length ts) go.tasks

    by : (more : List Reply) → new.replies ≡ old.replies ++ more
        → (length new.tasks - length new.replies < length old.tasks - length old.replies)
        ⊎ ((length new.tasks - length new.replies ≤ length old.tasks - length old.replies) × SameReplies old new)
    by [] is =
        let same : new.replies ≡ old.replies = is ∙ append-nil old.replies in
        let count : length new.replies ≡ length old.replies = ap (λ (rs : List Reply). length rs) same in
        inr (omega (arith, many, count), same)
    by (r ∷ rs) is =
        let count : length new.replies ≡ length old.replies + suc (length rs) =
        ap (λ (xs : List Reply). length xs) is ∙ length-append old.replies (r ∷ rs) in
        let few : length new.replies ≤ length new.tasks = go.few in
        inl (omega (arith, many, count, few))

-- the count of open tasks doesn't rise, and it falls unless all replies are the same
falls : (olds news : List Share) → AllZip GoesOn olds news
    → (open_count news ≤ open_count olds) × ((open_count news < open_count olds) ⊎ AllZip SameReplies olds news)
falls [] [] go = (omega arith, inr tt)
falls [] (new ∷ news) go = absurd go
falls (old ∷ olds) [] go = absurd go
falls (old ∷ olds) (new ∷ news) go =
    let rest = falls olds news go.1 in by (one_falls old new go.0) rest.0 rest.1
  where
    by : (length new.tasks - length new.replies < length old.tasks - length old.replies)
        ⊎ ((length new.tasks - length new.replies ≤ length old.tasks - length old.replies) × SameReplies old new)
        → open_count news ≤ open_count olds
        → (open_count news < open_count olds) ⊎ AllZip SameReplies olds news
        → (open_count (new ∷ news) ≤ open_count (old ∷ olds))
        × ((open_count (new ∷ news) < open_count (old ∷ olds)) ⊎ AllZip SameReplies (old ∷ olds) (new ∷ news))
    by (inl less) le rest = (omega (arith, less, le), inl (omega (arith, less, le)))
    by (inr same) le (inl less) =
        let first = same.0 in (omega (arith, first, less), inl (omega (arith, first, less)))
    by (inr same) le (inr rest) = let first = same.0 in (omega (arith, first, le), inr (same.1, rest))

-- Where workers went on fewer tasks are open, or no worker was told anything.
pub count_falls : (olds news : List Share) → AllZip GoesOn olds news
    → (open_count news < open_count olds) ⊎ AllZip (λ (old new : Share). new.replies ≡ old.replies) olds news
count_falls olds news go = (falls olds news go).1
