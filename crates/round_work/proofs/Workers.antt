-- The workers of a round.
use Rattle.std.proofs.Common.{◌≡◌, ◌∙◌, ℕ, zero, suc, ◌+◌, List, [], ◌∷◌, ◌++◌, length, map, refl, sym, ap, subst, arith, length-append}
use Rattle.std.specs.List.{AllByRecursion, AllZip}
use Rattle.delete_queue.specs.declared.queue.DeleteQueue.{DeleteQueue}
use Rattle.piece_queue.specs.declared.queue.PieceQueue.{PieceQueue}
use Rattle.piece_queue.specs.declared.sender.Sender.{Sender}
use Rattle.piece_queue.specs.declared.view.Sent.{Sent}
use Rattle.piece_queue.specs.Passes.{number_of, sent_by}
use Rattle.piece_queue.specs.Views.{parcels_of, pieces_of}
use Rattle.thread_writer.specs.declared.piece.Piece.{Piece}
use Rattle.thread_writer.specs.declared.writer.ThreadWriter.{ThreadWriter}
use Rattle.worker_tasks.specs.declared.share.Share.{Share}
use Rattle.round_work.specs.declared.starting.Started.{Started}
use Rattle.round_work.specs.declared.worked.Stopped.{Stopped}
use Rattle.round_work.specs.Outboxes.{IsFresh}
use Rattle.round_work.specs.Rounds.{AreFresh, AreSenders, AreStarted, AreStopped, ComesBack, Starts, Stops, sent_of, with_pieces, without, worked_of}
use Rattle.round_work.specs.Working.{AreAtWork, AreWorked, IsAtWork, Works}

pub zip_more : {A B : Type 0} (R : A → B → Type 0) (xs : List A) (ys : List B) (x : A) (y : B) → AllZip R xs ys → R x y
    → AllZip R (xs ++ x ∷ []) (ys ++ y ∷ [])
zip_more R [] [] x y all holds = (holds, tt)
zip_more R [] (b ∷ ys) x y all holds = absurd all
zip_more R (a ∷ xs) [] x y all holds = absurd all
zip_more R (a ∷ xs) (b ∷ ys) x y all holds = (all.0, zip_more R xs ys x y all.1 holds)

-- ---- before

-- one worker more can go on
pub at_work_more : (q : DeleteQueue) (i n : ℕ) (ws : List ThreadWriter) (ss : List Share) (w : ThreadWriter) (s : Share)
    → AreAtWork q i ws ss → n ≡ i + length ws → IsAtWork q n w s → AreAtWork q i (ws ++ w ∷ []) (ss ++ s ∷ [])
at_work_more q i n [] [] w s all is at = (subst (λ (k : ℕ). IsAtWork q k w s) (let e : n ≡ i = omega (arith, is) in e) at, tt)
at_work_more q i n [] (y ∷ ss) w s all is at = absurd all
at_work_more q i n (x ∷ ws) [] w s all is at = absurd all
at_work_more q i n (x ∷ ws) (y ∷ ss) w s all is at = (all.0, at_work_more q (i + 1) n ws ss w s all.1 (omega (arith, is)) at)

-- as many writers as shares
pub at_work_many : (q : DeleteQueue) (i : ℕ) (ws : List ThreadWriter) (ss : List Share) → AreAtWork q i ws ss → length ws ≡ length ss
at_work_many q i [] [] all = refl
at_work_many q i [] (s ∷ ss) all = absurd all
at_work_many q i (w ∷ ws) [] all = absurd all
at_work_many q i (w ∷ ws) (s ∷ ss) all = ap suc (at_work_many q (i + 1) ws ss all.1)

no_more : (q : DeleteQueue) (i : ℕ) (ss : List Share) (s : Share) → AreAtWork q i [] (ss ++ s ∷ []) → ⊥
no_more q i [] s all = all
no_more q i (y ∷ ss) s all = all

none_before : (q : DeleteQueue) (i : ℕ) (ws : List ThreadWriter) (w : ThreadWriter) → AreAtWork q i (ws ++ w ∷ []) [] → ⊥
none_before q i [] w all = all
none_before q i (x ∷ ws) w all = all

-- the last worker, and those before it
at_work_last : (q : DeleteQueue) (i n : ℕ) (ws : List ThreadWriter) (ss : List Share) (w : ThreadWriter) (s : Share)
    → AreAtWork q i (ws ++ w ∷ []) (ss ++ s ∷ []) → n ≡ i + length ws → AreAtWork q i ws ss × IsAtWork q n w s
at_work_last q i n [] [] w s all is = (tt, subst (λ (k : ℕ). IsAtWork q k w s) (let e : i ≡ n = omega (arith, is) in e) all.0)
at_work_last q i n [] (y ∷ ss) w s all is = absurd (no_more q (i + 1) ss s all.1)
at_work_last q i n (x ∷ ws) [] w s all is = absurd (none_before q (i + 1) ws w all.1)
at_work_last q i n (x ∷ ws) (y ∷ ss) w s all is =
    let rest = at_work_last q (i + 1) n ws ss w s all.1 (omega (arith, is)) in ((all.0, rest.0), rest.1)

-- ---- senders

-- one sender more
pub fresh_more : (pieces : PieceQueue) (i n : ℕ) (xs : List Sender) (x : Sender) → AreFresh pieces i xs → n ≡ i + length xs
    → IsFresh pieces n x → AreFresh pieces i (xs ++ x ∷ [])
fresh_more pieces i n [] x all is fresh = (subst (λ (k : ℕ). IsFresh pieces k x) (let e : n ≡ i = omega (arith, is) in e) fresh, tt)
fresh_more pieces i n (y ∷ xs) x all is fresh = (all.0, fresh_more pieces (i + 1) n xs x all.1 (omega (arith, is)) fresh)

fresh_last : (pieces : PieceQueue) (i n : ℕ) (xs : List Sender) (x : Sender) → AreFresh pieces i (xs ++ x ∷ []) → n ≡ i + length xs
    → AreFresh pieces i xs × IsFresh pieces n x
fresh_last pieces i n [] x all is = (tt, subst (λ (k : ℕ). IsFresh pieces k x) (let e : i ≡ n = omega (arith, is) in e) all.0)
fresh_last pieces i n (y ∷ xs) x all is =
    let rest = fresh_last pieces (i + 1) n xs x all.1 (omega (arith, is)) in ((all.0, rest.0), rest.1)

-- ---- the last worker

-- The last worker can begin with the last sender, which has its number, and those before it with theirs.
pub record CanBegin (q : DeleteQueue) (pieces : PieceQueue) (ws : List ThreadWriter) (ss : List Share) (xs : List Sender)
    (w : ThreadWriter) (s : Share) (x : Sender) : Type 0 where
  pub before : AreAtWork q 0 ws ss
  pub others : AreFresh pieces 0 xs
  pub count : length xs ≡ length ws
  pub number : number_of x ≡ length ws
  pub sender : IsFresh pieces (number_of x) x
  pub worker : IsAtWork q (number_of x) w s

begins : (q : DeleteQueue) (pieces : PieceQueue) (ws : List ThreadWriter) (ss : List Share) (xs : List Sender) (w : ThreadWriter) (s : Share)
    (x : Sender) → AreAtWork q 0 (ws ++ w ∷ []) (ss ++ s ∷ []) → AreFresh pieces 0 (xs ++ x ∷ [])
    → length (xs ++ x ∷ []) ≡ length (ws ++ w ∷ []) → CanBegin q pieces ws ss xs w s x
begins q pieces ws ss xs w s x all fresh many =
    let count : length xs ≡ length ws =
    (let one = length-append xs (x ∷ []) in let two = length-append ws (w ∷ []) in omega (arith, many, one, two)) in
    let one = at_work_last q 0 (length ws) ws ss w s all (omega arith) in
    let two = fresh_last pieces 0 (length ws) xs x fresh (omega (arith, count)) in
    let number = two.1.number_is in
    record {
      before = one.0;
      others = two.0;
      count = count;
      number = number;
      sender = record { is = two.1.is; number_is = refl; sent = two.1.sent };
      worker = subst (λ (k : ℕ). IsAtWork q k w s) (sym number) one.1;
    }

pub can_begin : (q : DeleteQueue) (pieces : PieceQueue) (ws before : List ThreadWriter) (ss left : List Share) (xs others : List Sender)
    (w : ThreadWriter) (s : Share) (x : Sender) → AreAtWork q 0 ws ss → AreFresh pieces 0 xs → length xs ≡ length ws
    → ws ≡ before ++ w ∷ [] → ss ≡ left ++ s ∷ [] → xs ≡ others ++ x ∷ [] → CanBegin q pieces before left others w s x
can_begin q pieces ws before ss left xs others w s x all fresh many writers_are shares_are senders_are =
    begins q pieces before left others w s x
    (subst (λ (vs : List ThreadWriter). AreAtWork q 0 vs (left ++ s ∷ [])) writers_are
    (subst (λ (us : List Share). AreAtWork q 0 ws us) shares_are all)) (subst (AreFresh pieces 0) senders_are fresh)
    (sym (ap (λ (ys : List Sender). length ys) senders_are) ∙ many ∙ ap (λ (vs : List ThreadWriter). length vs) writers_are)

started_more : (q : DeleteQueue) (pieces : PieceQueue) (i n : ℕ) (ws : List ThreadWriter) (ss : List Share) (ts : List Started) (w : ThreadWriter)
    (s : Share) (t : Started) → AreStarted q pieces i ws ss ts → n ≡ i + length ws → Starts q pieces n w s t
    → AreStarted q pieces i (ws ++ w ∷ []) (ss ++ s ∷ []) (ts ++ t ∷ [])
started_more q pieces i n [] [] [] w s t are is starts =
    (subst (λ (k : ℕ). Starts q pieces k w s t) (let e : n ≡ i = omega (arith, is) in e) starts, tt)
started_more q pieces i n [] [] (z ∷ ts) w s t are is starts = absurd are
started_more q pieces i n [] (y ∷ ss) ts w s t are is starts = absurd are
started_more q pieces i n (x ∷ ws) [] ts w s t are is starts = absurd are
started_more q pieces i n (x ∷ ws) (y ∷ ss) [] w s t are is starts = absurd are
started_more q pieces i n (x ∷ ws) (y ∷ ss) (z ∷ ts) w s t are is starts =
    (are.0, started_more q pieces (i + 1) n ws ss ts w s t are.1 (omega (arith, is)) starts)

-- the last worker was started after those before it
pub started_last : (q : DeleteQueue) (pieces : PieceQueue) (ws before : List ThreadWriter) (ss left : List Share) (w : ThreadWriter) (s : Share)
    (ts some : List Started) (t : Started) → ws ≡ before ++ w ∷ [] → ss ≡ left ++ s ∷ [] → ts ≡ some ++ t ∷ []
    → AreStarted q pieces 0 before left some → Starts q pieces (length before) w s t → AreStarted q pieces 0 ws ss ts
started_last q pieces ws before ss left w s ts some t writers_are shares_are items are starts =
    subst (λ (xs : List ThreadWriter). AreStarted q pieces 0 xs ss ts) (sym writers_are)
    (subst (λ (ys : List Share). AreStarted q pieces 0 (before ++ w ∷ []) ys ts) (sym shares_are)
    (subst (λ (zs : List Started). AreStarted q pieces 0 (before ++ w ∷ []) (left ++ s ∷ []) zs) (sym items)
    (started_more q pieces 0 (length before) before left some w s t are (omega arith) starts)))

-- as many were started as there are writers
pub started_many : (q : DeleteQueue) (pieces : PieceQueue) (i : ℕ) (ws : List ThreadWriter) (ss : List Share) (ts : List Started)
    → AreStarted q pieces i ws ss ts → length ts ≡ length ws
started_many q pieces i [] [] [] are = refl
started_many q pieces i [] [] (z ∷ ts) are = absurd are
started_many q pieces i [] (y ∷ ss) ts are = absurd are
started_many q pieces i (x ∷ ws) [] ts are = absurd are
started_many q pieces i (x ∷ ws) (y ∷ ss) [] are = absurd are
started_many q pieces i (x ∷ ws) (y ∷ ss) (z ∷ ts) are = ap suc (started_many q pieces (i + 1) ws ss ts are.1)

-- ---- behind

pub stopped_all : (q : DeleteQueue) (pieces : PieceQueue) (i : ℕ) (ws : List ThreadWriter) (ss : List Share) (ts : List Started)
    (xs : List Stopped) → AreStarted q pieces i ws ss ts → AllZip ComesBack ts xs → AreStopped q pieces i ws ss xs
stopped_all q pieces i [] [] [] [] are back = tt
stopped_all q pieces i [] [] [] (x ∷ xs) are back = absurd back
stopped_all q pieces i [] [] (t ∷ ts) xs are back = absurd are
stopped_all q pieces i [] (s ∷ ss) ts xs are back = absurd are
stopped_all q pieces i (w ∷ ws) [] ts xs are back = absurd are
stopped_all q pieces i (w ∷ ws) (s ∷ ss) [] xs are back = absurd are
stopped_all q pieces i (w ∷ ws) (s ∷ ss) (t ∷ ts) [] are back = absurd back
stopped_all q pieces i (w ∷ ws) (s ∷ ss) (t ∷ ts) (x ∷ xs) are back =
    (back.0 q pieces i w s are.0, stopped_all q pieces (i + 1) ws ss ts xs are.1 back.1)

-- as many stopped as there are writers
pub stopped_many : (q : DeleteQueue) (pieces : PieceQueue) (i : ℕ) (ws : List ThreadWriter) (ss : List Share) (xs : List Stopped)
    → AreStopped q pieces i ws ss xs → length xs ≡ length ws
stopped_many q pieces i [] [] [] are = refl
stopped_many q pieces i [] [] (x ∷ xs) are = absurd are
stopped_many q pieces i [] (s ∷ ss) xs are = absurd are
stopped_many q pieces i (w ∷ ws) [] xs are = absurd are
stopped_many q pieces i (w ∷ ws) (s ∷ ss) [] are = absurd are
stopped_many q pieces i (w ∷ ws) (s ∷ ss) (x ∷ xs) are = ap suc (stopped_many q pieces (i + 1) ws ss xs are.1)

pub senders : (q : DeleteQueue) (pieces : PieceQueue) (i : ℕ) (ws : List ThreadWriter) (ss : List Share) (xs : List Stopped)
    → AreStopped q pieces i ws ss xs → AreSenders pieces xs
senders q pieces i [] [] [] are = tt
senders q pieces i [] [] (x ∷ xs) are = absurd are
senders q pieces i [] (s ∷ ss) xs are = absurd are
senders q pieces i (w ∷ ws) [] xs are = absurd are
senders q pieces i (w ∷ ws) (s ∷ ss) [] are = absurd are
senders q pieces i (w ∷ ws) (s ∷ ss) (x ∷ xs) are = (are.0.sender, senders q pieces (i + 1) ws ss xs are.1)

-- of each worker what was taken is what it sent
abbrev pub AllCame : List Piece → List Sent → Type 0
AllCame taken ended = AllByRecursion (λ (d : Sent). pieces_of d.worker taken ≡ d.put) ended

one_worked : (q : DeleteQueue) (pieces : PieceQueue) (i : ℕ) (w : ThreadWriter) (s : Share) (x : Stopped) (taken : List Piece)
    → Stops q pieces i w s x → pieces_of (number_of x.sender) taken ≡ sent_by x.sender → Works q w s (worked_of x (pieces_of i taken))
one_worked q pieces i w s x taken stops came =
    subst (λ (l : List Piece). Works q w s (worked_of x l)) (sym came ∙ ap (λ (k : ℕ). pieces_of k taken) stops.number_is) stops.works

-- each worker with the pieces that were taken of it did its work
pub all_worked : (q : DeleteQueue) (pieces : PieceQueue) (i n : ℕ) (ws : List ThreadWriter) (ss : List Share) (xs : List Stopped)
    (taken : List Piece) → AreStopped q pieces i ws ss xs → n ≡ length xs → AllCame taken (map sent_of xs)
    → AreWorked q ws ss (with_pieces (map without xs) (parcels_of i n taken))
all_worked q pieces i n [] [] [] taken are many came = tt
all_worked q pieces i n [] [] (x ∷ xs) taken are many came = absurd are
all_worked q pieces i n [] (s ∷ ss) xs taken are many came = absurd are
all_worked q pieces i n (w ∷ ws) [] xs taken are many came = absurd are
all_worked q pieces i n (w ∷ ws) (s ∷ ss) [] taken are many came = absurd are
all_worked q pieces i zero (w ∷ ws) (s ∷ ss) (x ∷ xs) taken are many came = absurd (omega (arith, many))
all_worked q pieces i (suc n) (w ∷ ws) (s ∷ ss) (x ∷ xs) taken are many came = (
  one_worked q pieces i w s x taken are.0 came.0,
  subst (λ (k : ℕ). AreWorked q ws ss (with_pieces (map without xs) (parcels_of k n taken))) (let e : i + 1 ≡ suc i = omega arith in e)
      (all_worked q pieces (i + 1) n ws ss xs taken are.1 (omega (arith, many)) came.1),
)
