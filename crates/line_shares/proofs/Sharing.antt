-- Lines on their way to the workers.
use Rattle.std.proofs.Common.{◌≡◌, ◌∙◌, ℕ, zero, suc, ◌+◌, ◌<◌, ◌≤◌, ◌%◌, true, false, List, [], ◌∷◌, ◌++◌, length}
use Rattle.std.proofs.Common.{map, refl, sym, ap, arith}
use Rattle.std.specs.Prelude.{slice_index_or, slice_set}
use Rattle.std.specs.Global.{Vec}
use Rattle.std.specs.List.{AllByRecursion, AllZip}
use Rattle.std.proofs.lemmas.List.{map-append}
use Rattle.op_script.specs.declared.script.Line.{Line}
use Rattle.worker_tasks.specs.declared.share.Share.{Share}
use Rattle.worker_tasks.specs.declared.task.Task.{Task}
use Rattle.line_shares.specs.Dealing.{AreTasksFrom, IsShareOf}
use Rattle.line_shares.proofs.LineLaws.{is_own, other_worker, own_passed, own_pushed, same_worker}
use Rattle.line_shares.specs.Shares.{AreShares, AreSharesFrom, IsFresh, IsShare, is_doing, own_lines, task_of}

-- ---- one line more

-- tasks stay as they are where none of these workers does the line
tasks_stay : (n i : ℕ) (done : List Line) (l : Line) (vs : List (Vec Task))
    → ((worker : ℕ) → i ≤ worker → is_own n worker l ≡ false) → AreTasksFrom n i done vs
    → AreTasksFrom n i (done ++ l ∷ []) vs
tasks_stay n i done l [] not are = tt
tasks_stay n i done l (v ∷ vs) not are = (
  are.0 ∙ sym (ap (map task_of) (own_passed n i done l (not i (omega arith)))),
  tasks_stay n (i + 1) done l vs (λ worker le. not worker (omega (arith, le))) are.1,
)

-- a search gives no worker a task
pub tasks_searched : (n i : ℕ) (done : List Line) (l : Line) (vs : List (Vec Task)) → is_doing l.act ≡ false
    → AreTasksFrom n i done vs → AreTasksFrom n i (done ++ l ∷ []) vs
tasks_searched n i done l vs search are = tasks_stay n i done l vs (λ worker le. rw search refl) are

-- any other line gives its worker one
pub tasks_done : (n i : ℕ) (done : List Line) (l : Line) (vs : List (Vec Task)) (at : ℕ) (v r : Vec Task)
    → is_doing l.act ≡ true → l.caller % n ≡ i + at → at < length vs → slice_index_or vs at v ≡ v
    → r.items ≡ v.items ++ task_of l ∷ [] → AreTasksFrom n i done vs
    → AreTasksFrom n i (done ++ l ∷ []) (slice_set vs at r)
tasks_done n i done l [] at v r doing own inside is pushed are = absurd (omega (arith, inside))
tasks_done n i done l (x ∷ vs) zero v r doing own inside is pushed are = (
  first,
  tasks_stay n (i + 1) done l vs (λ worker le. other_worker n worker l (λ same. absurd (omega (arith, own, le, same))))
      are.1,
)
  where
    first : r.items ≡ map task_of (own_lines n i (done ++ l ∷ []))
    first =
        let before : v.items ≡ map task_of (own_lines n i done) = ap (λ (w : Vec Task). w.items) (sym is) ∙ are.0 in
        pushed ∙ ap (λ (ts : List Task). ts ++ task_of l ∷ []) before
        ∙ sym (ap (map task_of) (own_pushed n i done l (same_worker n i l doing (omega (arith, own))))
        ∙ map-append task_of (own_lines n i done) (l ∷ []))
tasks_done n i done l (x ∷ vs) (suc at) v r doing own inside is pushed are = (
  are.0
      ∙ sym (ap (map task_of)
      (own_passed n i done l (other_worker n i l (λ same. absurd (omega (arith, own, same)))))),
  tasks_done n (i + 1) done l vs at v r doing (omega (arith, own)) (omega (arith, inside)) is pushed are.1,
)

-- ---- before the first line

pub none_more : (vs : List (Vec Task)) (v : Vec Task) → AllByRecursion (λ (own : Vec Task). own.items ≡ []) vs
    → v.items ≡ []
    → AllByRecursion (λ (own : Vec Task). own.items ≡ []) (vs ++ v ∷ [])
none_more [] v none empty = (empty, tt)
none_more (x ∷ vs) v none empty = (none.0, none_more vs v none.1 empty)

pub tasks_first : (n i : ℕ) (vs : List (Vec Task)) → AllByRecursion (λ (own : Vec Task). own.items ≡ []) vs
    → AreTasksFrom n i [] vs
tasks_first n i [] none = tt
tasks_first n i (v ∷ vs) none = (none.0, tasks_first n (i + 1) vs none.1)

-- ---- the shares

share_made : (n worker : ℕ) (lines : List Line) (v : Vec Task) (s : Share)
    → v.items ≡ map task_of (own_lines n worker lines) → IsShareOf v s → IsShare n worker lines s
share_made n worker lines v s tasks is = record {
  tasks = is.0 ∙ tasks;
  few = let none = ap length is.1 in omega (arith, none);
  fits = rw is.1 tt;
  none = is.2;
}

shares_made : (n i : ℕ) (lines : List Line) (vs : List (Vec Task)) (ss : List Share) → AreTasksFrom n i lines vs
    → AllZip IsShareOf vs ss → AreSharesFrom n i lines ss
shares_made n i lines [] [] are zip = tt
shares_made n i lines [] (s ∷ ss) are zip = absurd zip
shares_made n i lines (v ∷ vs) [] are zip = absurd zip
shares_made n i lines (v ∷ vs) (s ∷ ss) are zip =
    (share_made n i lines v s are.0 zip.0, shares_made n (i + 1) lines vs ss are.1 zip.1)

pub shares_fresh : (vs : List (Vec Task)) (ss : List Share) → AllZip IsShareOf vs ss → AllByRecursion IsFresh ss
shares_fresh [] [] zip = tt
shares_fresh [] (s ∷ ss) zip = absurd zip
shares_fresh (v ∷ vs) [] zip = absurd zip
shares_fresh (v ∷ vs) (s ∷ ss) zip = (zip.0.1, shares_fresh vs ss zip.1)

shares_count : (vs : List (Vec Task)) (ss : List Share) → AllZip IsShareOf vs ss → length ss ≡ length vs
shares_count [] [] zip = refl
shares_count [] (s ∷ ss) zip = absurd zip
shares_count (v ∷ vs) [] zip = absurd zip
shares_count (v ∷ vs) (s ∷ ss) zip = ap suc (shares_count vs ss zip.1)

pub shares_are : (n : ℕ) (lines : List Line) (vs : List (Vec Task)) (ss : List Share) → 1 ≤ n → length vs ≡ n
    → AreTasksFrom n 0 lines vs → AllZip IsShareOf vs ss → AreShares n lines ss
shares_are n lines vs ss some count are zip = record {
  some = omega (arith, some);
  count = shares_count vs ss zip ∙ count;
  each = shares_made n 0 lines vs ss are zip;
}
