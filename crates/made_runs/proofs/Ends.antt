-- Where each caller ends with a commit, so does every log.
use Rattle.std.proofs.Common.{◌≡◌, ◌≢◌, ◌⊎◌, ◌∙◌, ℕ, suc, ◌+◌, Bool, true, false, cond, eqb, eq-eqb, List, [], ◌∷◌, ◌++◌, length, refl, sym, ap, subst, inl, inr, arith}
use Rattle.ix_base.specs.declared.document.Operation.TheVariants.{Commit}
use Rattle.op_script.specs.declared.script.Line.{Line}
use Rattle.op_script.specs.declared.script.Act.{Act}
use Rattle.op_script.specs.declared.script.Act.TheVariants.{Do}
use Rattle.run_log.specs.Headline.{is_commit, commit_numbers}
use Rattle.run_log.proofs.Lists.{filter_pushed}
use Rattle.made_runs.specs.Apart.{SameCallers}
use Rattle.made_runs.specs.Ends.{EndsInCommit, CallersCommit, EndsAt, LastIsCommit}
use Rattle.made_runs.proofs.Tagged.{of_caller}

-- the last line, or this one where there is none
abbrev last_or : Line → List Line → Line
last_or d [] = d
last_or d (l ∷ ls) = last_or l ls

last_is : (d : Line) (ls : List Line) (l : Line) → last_or d (ls ++ l ∷ []) ≡ l
last_is d [] l = refl
last_is d (x ∷ ls) l = last_is x ls l

-- the lines before the last one, and the last one
record Split (ls : List Line) : Type 0 where
  front : List Line
  end : Line
  parts : ls ≡ front ++ end ∷ []

split : (l : Line) (ls : List Line) → Split (l ∷ ls)
split l [] = record { front = []; end = l; parts = refl }
split l (x ∷ ls) =
    let rest = split x ls in
    record { front = l ∷ rest.front; end = rest.end; parts = ap (λ (t : List Line). l ∷ t) rest.parts }

pub no_last : (ls : List Line) (l : Line) → ls ++ l ∷ [] ≡ [] → ⊥
no_last [] l e = absurd cc
no_last (x ∷ ls) l e = absurd cc

-- the last line of a log is the last one of its caller
own_last : (lines log front : List Line) (end : Line) → log ≡ front ++ end ∷ [] → SameCallers lines log
    → of_caller end.caller lines ≡ of_caller end.caller front ++ end ∷ []
own_last lines log front end parts same =
    same end.caller
    ∙ ap (of_caller end.caller) parts
    ∙ filter_pushed (λ (l : Line). eqb l.caller end.caller) front end (eq-eqb end.caller end.caller refl)

pub log_ends : (lines log : List Line) → CallersCommit lines → SameCallers lines log → log ≢ [] → EndsInCommit log
log_ends lines [] commits same some = absurd (some refl)
log_ends lines (l ∷ log) commits same some =
    let s = split l log in
    let own = own_last lines (l ∷ log) s.front s.end s.parts same in
    record {
      front = s.front;
      end = s.end;
      parts = s.parts;
      commit = by s.end (of_caller s.end.caller s.front) own (commits s.end.caller);
    }
  where
    by : (end : Line) (front : List Line) → of_caller end.caller lines ≡ front ++ end ∷ []
        → (of_caller end.caller lines ≡ []) ⊎ EndsInCommit (of_caller end.caller lines) → end.act ≡ Do (Commit [])
    by end front own (inl none) = absurd (no_last front end (sym own ∙ none))
    by end front own (inr ends) =
        let same : end ≡ ends.end =
        sym (last_is end front end) ∙ ap (last_or end) (sym own ∙ ends.parts) ∙ last_is end ends.front ends.end in
        ap (λ (x : Line). x.act) same ∙ ends.commit

-- the number of the last commit
commits_end : (base : ℕ) (front : List Line) (end : Line) → end.act ≡ Do (Commit [])
    → EndsAt (commit_numbers base (front ++ end ∷ [])) (base + length (front ++ end ∷ []))
commits_end base [] end commit = (
  [],
  ap (λ (a : Act). cond (is_commit a) ((base + 1) ∷ []) []) commit,
)
commits_end base (l ∷ front) end commit =
    let rest = commits_end (base + 1) front end commit in
    let at : base + 1 + length (front ++ end ∷ []) ≡ base + suc (length (front ++ end ∷ [])) = omega arith in
    let is = rest.1 ∙ ap (λ (n : ℕ). rest.0 ++ n ∷ []) at in
    by (is_commit l.act) rest.0 is
  where
    by : (b : Bool) (before : List ℕ)
        → commit_numbers (base + 1) (front ++ end ∷ []) ≡ before ++ (base + suc (length (front ++ end ∷ []))) ∷ []
        → EndsAt (cond b ((base + 1) ∷ commit_numbers (base + 1) (front ++ end ∷ [])) (commit_numbers (base + 1) (front ++ end ∷ [])))
        (base + suc (length (front ++ end ∷ [])))
    by true before is = ((base + 1) ∷ before, ap (λ (ns : List ℕ). (base + 1) ∷ ns) is)
    by false before is = (before, is)

pub last_is_commit : LastIsCommit
last_is_commit lines log base commits same some =
    let ends = log_ends lines log commits same some in
    subst (λ (ls : List Line). EndsAt (commit_numbers base ls) (base + length ls)) (sym ends.parts)
    (commits_end base ends.front ends.end ends.commit)
