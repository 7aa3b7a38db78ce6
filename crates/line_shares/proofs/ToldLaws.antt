-- A commit that a worker was told of since some time, and the log.
use Rattle.std.proofs.Common.{◌≡◌, ◌∙◌, inl, inr, ℕ, zero, suc, ◌+◌, ◌<◌, ◌≤◌, List, [], ◌∷◌, ◌++◌, length, map, drop}
use Rattle.std.proofs.Common.{Option, None, Some, slice_index_or, sym, ap, subst, arith}
use Rattle.std.specs.Prelude.{IfSome}
use Rattle.std.specs.List.{AllByRecursion}
use Rattle.op_script.specs.declared.script.Act.TheVariants.{Do}
use Rattle.op_script.specs.declared.script.Line.{Line}
use Rattle.run_log.specs.Headline.{number_of}
use Rattle.run_log.specs.Numbering.{HasLine}
use Rattle.run_log.specs.Telling.{Tell}
use Rattle.run_log.proofs.Lists.{each_in_second}
use Rattle.worker_tasks.specs.declared.share.Share.{Share}
use Rattle.worker_tasks.specs.declared.task.Reply.{Reply}
use Rattle.worker_tasks.specs.declared.task.Reply.TheVariants.{Numbered}
use Rattle.worker_tasks.specs.declared.task.Task.{Task}
use Rattle.worker_tasks.specs.Replies.{told_in}
use Rattle.commit_point.specs.Holds.{Pairs}
use Rattle.line_shares.specs.Committed.{IsToldPast, WasTold, commit_among, commit_in, either, told_past}
use Rattle.line_shares.proofs.OwnLaws.{own_doing}
use Rattle.line_shares.proofs.ReplyLaws.{IsDoingLine, doing_act}
use Rattle.line_shares.specs.Shares.{AreShares, AreSharesFrom, operation_of, own_lines, task_of}
use Rattle.line_shares.specs.Tells.{AreTold, IsTold, replies_at, tell_of, tells_in}

pub if_some : {X : Type 0} (o : Option X) (P Q : X → Type 0) → ((x : X) → P x → Q x) → IfSome o P → IfSome o Q
if_some None P Q says holds = holds
if_some (Some x) P Q says holds = says x holds

-- ---- one share

none_told : (task : Task) (reply : Reply) (rs : List Reply) → WasTold task reply [] rs → ⊥
none_told task reply [] told = told
none_told task reply (r ∷ rs) told = told

-- what was told behind the first so many was told behind fewer
pub told_later : (task : Task) (reply : Reply) (k at : ℕ) (ts : List Task) (rs : List Reply) → k ≤ at
    → WasTold task reply (drop at ts) (drop at rs) → WasTold task reply (drop k ts) (drop k rs)
told_later task reply zero zero ts rs le told = told
told_later task reply zero (suc at) [] rs le told = absurd (none_told task reply (drop (suc at) rs) told)
told_later task reply zero (suc at) (t ∷ ts) [] le told = absurd told
told_later task reply zero (suc at) (t ∷ ts) (r ∷ rs) le told =
    inr (told_later task reply zero at ts rs (omega arith) told)
told_later task reply (suc k) zero ts rs le told = absurd (omega (arith, le))
told_later task reply (suc k) (suc at) [] rs le told = absurd (none_told task reply (drop (suc at) rs) told)
told_later task reply (suc k) (suc at) (t ∷ ts) [] le told = absurd told
told_later task reply (suc k) (suc at) (t ∷ ts) (r ∷ rs) le told =
    told_later task reply k at ts rs (omega (arith, le)) told

-- the task at a place was told the reply there
pub told_here : (task : Task) (reply : Reply) (at : ℕ) (ts : List Task) (rs : List Reply) (other : Task) (some : Reply)
    → at < length rs → length rs ≤ length ts → slice_index_or ts at other ≡ task
    → slice_index_or rs at some ≡ reply → WasTold task reply (drop at ts) (drop at rs)
told_here task reply at ts [] other some within few is told = absurd (omega (arith, within))
told_here task reply at [] (r ∷ rs) other some within few is told = absurd (omega (arith, few))
told_here task reply zero (t ∷ ts) (r ∷ rs) other some within few is told = inl (is, told)
told_here task reply (suc at) (t ∷ ts) (r ∷ rs) other some within few is told =
    told_here task reply at ts rs other some (omega (arith, within)) (omega (arith, few)) is told

-- so it was told behind the first so many
pub told_found : (task t : Task) (reply some : Reply) (at count : ℕ) (ts us : List Task) (rs qs : List Reply) → ts ≡ us
    → rs ≡ qs → count ≤ at → at < length rs → length rs ≤ length ts → t ≡ slice_index_or ts at t
    → slice_index_or rs at some ≡ reply → t ≡ task → WasTold task reply (drop count us) (drop count qs)
told_found task t reply some at count ts us rs qs tasks replies behind within few is told same =
    let found : WasTold task reply (drop count ts) (drop count rs) =
    told_later task reply count at ts rs behind (told_here task reply at ts rs t some within few (sym is ∙ same) told) in
    subst (λ (xs : List Reply). WasTold task reply (drop count us) (drop count xs)) replies
    (subst (λ (xs : List Task). WasTold task reply (drop count xs) (drop count rs)) tasks found)

-- ---- all shares

-- the commit that is found in the share at a place is the first there is
pub among_here : (s at n : ℕ) (counts : List ℕ) (x other : Share) (shares : List Share) (here pairs : Pairs)
    → at < length counts → at < length shares → slice_index_or counts at 0 ≡ n → slice_index_or shares at other ≡ x
    → commit_in s (told_in (drop n x.tasks) (drop n x.replies)) ≡ Some here
    → commit_among s (told_past (drop at counts) (drop at shares)) ≡ Some pairs → here ≡ pairs
among_here s at n [] x other shares here pairs many within count is found among = absurd (omega (arith, many))
among_here s at n (m ∷ counts) x other [] here pairs many within count is found among = absurd (omega (arith, within))
among_here s zero n (m ∷ counts) x other (y ∷ shares) here pairs many within count is found among =
    let Found : ℕ → Share → Type 0 = λ k z. commit_in s (told_in (drop k z.tasks) (drop k z.replies)) ≡ Some here in
    let first : commit_in s (told_in (drop m y.tasks) (drop m y.replies)) ≡ Some here =
    subst (λ (k : ℕ). Found k y) (sym count) (subst (λ (z : Share). Found n z) (sym is) found) in
    let all : Some here ≡ Some pairs =
    ap (λ (o : Option Pairs). either o (commit_among s (told_past counts shares))) (sym first) ∙ among in
    cc
among_here s (suc at) n (m ∷ counts) x other (y ∷ shares) here pairs many within count is found among =
    among_here s at n counts x other shares here pairs (omega (arith, many)) (omega (arith, within)) count is found among

pub told_past_here : (task : Task) (reply : Reply) (at n : ℕ) (counts : List ℕ) (s other : Share) (shares : List Share)
    → at < length counts → at < length shares → slice_index_or counts at 0 ≡ n → slice_index_or shares at other ≡ s
    → WasTold task reply (drop n s.tasks) (drop n s.replies) → IsToldPast task reply counts shares
told_past_here task reply at n [] s other shares many within count is told = absurd (omega (arith, many))
told_past_here task reply at n (m ∷ counts) s other [] many within count is told = absurd (omega (arith, within))
told_past_here task reply zero n (m ∷ counts) s other (t ∷ shares) many within count is told =
    let Told : ℕ → Share → Type 0 = λ k x. WasTold task reply (drop k x.tasks) (drop k x.replies) in
    inl (subst (λ (k : ℕ). Told k t) (sym count) (subst (λ (x : Share). Told n x) (sym is) told))
told_past_here task reply (suc at) n (m ∷ counts) s other (t ∷ shares) many within count is told =
    inr (told_past_here task reply at n counts s other shares (omega (arith, many)) (omega (arith, within)) count is told)

-- ---- the log

-- the line of a task that was told a number, what is true of it, and of what it was told
record HasTell (P : Tell → Type 0) (Q : Line → Type 0) (task : Task) (number : ℕ) : Type 0 where
  line : Line
  same : task_of line ≡ task
  own : Q line
  tell : P (record { number = number; line = line; op = operation_of line.act })

-- what is true of all that lines were told is true of such a task
told_tell : (P : Tell → Type 0) (Q : Line → Type 0) (task : Task) (number : ℕ) (ls : List Line) (rs : List Reply)
    → WasTold task (Numbered number) (map task_of ls) rs → AllByRecursion P (tells_in ls rs) → AllByRecursion Q ls
    → HasTell P Q task number
told_tell P Q task number ls [] told all each = absurd told
told_tell P Q task number [] (r ∷ rs) told all each = absurd told
told_tell P Q task number (l ∷ ls) (r ∷ rs) told all each = elim told [
  | inl here ↦ record {
    line = l;
    same = here.0;
    own = each.0;
    tell = (subst (λ (x : Reply). AllByRecursion P (tell_of l x ++ tells_in ls rs)) here.1 all).0;
  }
  | inr later ↦ told_tell P Q task number ls rs later (each_in_second P (tell_of l r) (tells_in ls rs) all) each.1
]

-- the worker that was told it
told_worker : (n low : ℕ) (lines : List Line) (shares : List Share) (counts : List ℕ) (task : Task) (reply : Reply)
    → AreSharesFrom n low lines shares → IsToldPast task reply counts shares
    → (i : ℕ) × WasTold task reply (map task_of (own_lines n (low + i) lines)) (replies_at shares i)
told_worker n low lines shares [] task reply are told = absurd told
told_worker n low lines [] (k ∷ counts) task reply are told = absurd told
told_worker n low lines (s ∷ shares) (k ∷ counts) task reply are told = elim told [
  | inl here ↦
      let same : low ≡ low + 0 = omega arith in
      let all : WasTold task reply s.tasks s.replies =
      told_later task reply 0 k s.tasks s.replies (omega arith) here in (
        0,
        subst (λ (w : ℕ). WasTold task reply (map task_of (own_lines n w lines)) s.replies) same
            (subst (λ (ts : List Task). WasTold task reply ts s.replies) are.0.tasks all),
      )
  | inr later ↦
      let rest = told_worker n (low + 1) lines shares counts task reply are.1 later in
      let same : low + 1 + rest.0 ≡ low + suc rest.0 = omega arith in (
        suc rest.0,
        subst (λ (w : ℕ). WasTold task reply (map task_of (own_lines n w lines)) (replies_at shares rest.0)) same
            rest.1,
      )
]

-- A task that was told a number is that of a line that writes or commits, which stands in the log with this number.
pub record IsNumberedLine (base : ℕ) (log : List Line) (task : Task) (number : ℕ) : Type 0 where
  pub line : Line
  pub place : line.line ≡ task.line
  pub act : line.act ≡ Do task.operation
  pub told : HasLine log line.line × (number_of base log line.line ≡ number)

pub told_line : (n base : ℕ) (lines : List Line) (shares : List Share) (log : List Line) (counts : List ℕ) (task : Task)
    (number : ℕ) → AreShares n lines shares → AreTold n base lines shares log
    → IsToldPast task (Numbered number) counts shares → IsNumberedLine base log task number
told_line n base lines shares log counts task number are told past =
    let worker = told_worker n 0 lines shares counts task (Numbered number) are.each past in
    let same : 0 + worker.0 ≡ worker.0 = omega arith in
    let own = own_lines n worker.0 lines in
    let was : WasTold task (Numbered number) (map task_of own) (replies_at shares worker.0) =
    subst (λ (w : ℕ). WasTold task (Numbered number) (map task_of (own_lines n w lines)) (replies_at shares worker.0))
    same worker.1 in
    let found = told_tell (IsTold base log) IsDoingLine task number own (replies_at shares worker.0) was (told worker.0)
    (own_doing n worker.0 lines) in
    record {
      line = found.line;
      place = ap (λ (t : Task). t.line) found.same;
      act = doing_act found.line.act found.own ∙ ap (λ (t : Task). Do t.operation) found.same;
      told = found.tell;
    }

-- Its place in the log, by its place in the script.
pub told_number : (n base : ℕ) (lines : List Line) (shares : List Share) (log : List Line) (counts : List ℕ)
    (task : Task) (number : ℕ) → AreShares n lines shares → AreTold n base lines shares log
    → IsToldPast task (Numbered number) counts shares
    → HasLine log task.line × (number_of base log task.line ≡ number)
told_number n base lines shares log counts task number are told past =
    let found = told_line n base lines shares log counts task number are told past in
    subst (λ (place : ℕ). HasLine log place × (number_of base log place ≡ number)) found.place found.told
