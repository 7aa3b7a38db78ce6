-- The lines of a log by their places, and a caller's commit lines in it.
use Rattle.std.proofs.Common.{◌≡◌, ◌≢◌, ◌⊎◌, inl, inr, ℕ, ◌+◌, ◌-◌, ◌<◌, ◌≤◌, Bool, true, false, cond, eqb, eq-eqb}
use Rattle.std.proofs.Common.{List, [], ◌∷◌, ◌++◌, sym, subst, arith}
use Rattle.std.proofs.lemmas.Bool.Decides.{eqb_tells}
use Rattle.std.proofs.lemmas.List.Elements.{filter-append}
use Rattle.std.specs.List.{AllByRecursion, AllZip, filter}
use Rattle.op_script.specs.Shape.{LinesRise}
use Rattle.op_script.specs.declared.script.Line.{Line}
use Rattle.line_shares.specs.Asks.{HasCommitLine}
use Rattle.run_log.proofs.Lists.{Decided, each_in_first, each_says}
use Rattle.run_log.proofs.LogLaws.{commit_numbered, each_filtered, each_logged}
use Rattle.run_log.proofs.NumberLaws.{has_line_behind}
use Rattle.run_log.proofs.PlaceLaws.{filter_rises, none_below}
use Rattle.run_log.specs.Headline.{Interleaves, is_commit, is_numbered, numbered}
use Rattle.run_log.specs.Numbering.{HasLine}
use Rattle.run_log.specs.Telling.{of_caller}

-- ---- lists

module _ {A B : Type 0} where
  -- what is true of each pair is true of each, where it says more
  pub zip_says : (P Q : A → B → Type 0) (xs : List A) (ys : List B) → ((x : A) (y : B) → P x y → Q x y) → AllZip P xs ys
      → AllZip Q xs ys
  zip_says P Q [] [] says are = tt
  zip_says P Q [] (y ∷ ys) says are = absurd are
  zip_says P Q (x ∷ xs) [] says are = absurd are
  zip_says P Q (x ∷ xs) (y ∷ ys) says are = (says x y are.0, zip_says P Q xs ys says are.1)

  pub zip_both : (P : A → B → Type 0) (xs us : List A) (ys vs : List B) → AllZip P xs ys → AllZip P us vs
      → AllZip P (xs ++ us) (ys ++ vs)
  zip_both P [] us [] vs are more = more
  zip_both P [] us (y ∷ ys) vs are more = absurd are
  zip_both P (x ∷ xs) us [] vs are more = absurd are
  zip_both P (x ∷ xs) us (y ∷ ys) vs are more = (are.0, zip_both P xs us ys vs are.1 more)

-- ---- lines by their places

pub has_either : (xs ys : List Line) (place : ℕ) → HasLine (xs ++ ys) place → HasLine xs place ⊎ HasLine ys place
has_either [] ys place has = inr has
has_either (x ∷ xs) ys place (inl e) = inl (inl e)
has_either (x ∷ xs) ys place (inr has) = by (has_either xs ys place has)
  where
    by : HasLine xs place ⊎ HasLine ys place → HasLine (x ∷ xs) place ⊎ HasLine ys place
    by (inl h) = inl (inr h)
    by (inr h) = inr h

-- some line stands there, or none does
pub has_or_none : (xs : List Line) (place : ℕ) → HasLine xs place ⊎ AllByRecursion (λ (l : Line). l.line ≢ place) xs
has_or_none [] place = inr tt
has_or_none (x ∷ xs) place = by (eqb_tells x.line place) (has_or_none xs place)
  where
    by : Decided x.line place → HasLine xs place ⊎ AllByRecursion (λ (l : Line). l.line ≢ place) xs
        → HasLine (x ∷ xs) place ⊎ AllByRecursion (λ (l : Line). l.line ≢ place) (x ∷ xs)
    by (inl k) rest = inl (inl k.1)
    by (inr k) (inl h) = inl (inr h)
    by (inr k) (inr none) = inr (k.1, none)

-- what is true of the line that stands at a place, and only of one there, is true of that place
pub has_says : (P : ℕ → Type 0) (xs : List Line) (place : ℕ)
    → AllByRecursion (λ (l : Line). l.line ≡ place → P place) xs → HasLine xs place → P place
has_says P [] place each has = absurd has
has_says P (x ∷ xs) place each (inl e) = each.0 e
has_says P (x ∷ xs) place each (inr has) = has_says P xs place each.1 has

pub has_low : (low : ℕ) (xs : List Line) (place : ℕ) → LinesRise low xs → HasLine xs place → low ≤ place
has_low low [] place rise has = absurd has
has_low low (x ∷ xs) place rise (inl e) = omega (arith, rise.0, e)
has_low low (x ∷ xs) place rise (inr has) = let above = has_low (x.line + 1) xs place rise.1 has in omega (arith, rise.0, above)

-- lines that rise stand before those behind them
pub rises_apart : (low : ℕ) (xs ys : List Line) (x y : ℕ) → LinesRise low (xs ++ ys) → HasLine xs x → HasLine ys y → x < y
rises_apart low [] ys x y rise here there = absurd here
rises_apart low (l ∷ xs) ys x y rise (inl e) there =
    let above = has_low (l.line + 1) (xs ++ ys) y rise.1 (has_line_behind xs ys y there) in omega (arith, above, e)
rises_apart low (l ∷ xs) ys x y rise (inr here) there = rises_apart (l.line + 1) xs ys x y rise.1 here there

-- a line that passes is there, and one of those that pass is
pub has_filtered : (p : Line → Bool) (xs : List Line) (place : ℕ) → AllByRecursion (λ (l : Line). l.line ≡ place → p l ≡ true) xs
    → HasLine xs place → HasLine (filter p xs) place
has_filtered p [] place passes has = absurd has
has_filtered p (x ∷ xs) place passes (inl e) = rw (passes.0 e) (inl e)
has_filtered p (x ∷ xs) place passes (inr has) = by (p x) (has_filtered p xs place passes.1 has)
  where
    by : (b : Bool) → HasLine (filter p xs) place → HasLine (cond b (x ∷ filter p xs) (filter p xs)) place
    by true h = inr h
    by false h = h

pub has_passed : (p : Line → Bool) (xs : List Line) (place : ℕ) → HasLine (filter p xs) place → HasLine xs place
has_passed p [] place has = has
has_passed p (x ∷ xs) place has = by (p x) has (has_passed p xs place)
  where
    by : (b : Bool) → HasLine (cond b (x ∷ filter p xs) (filter p xs)) place
        → (HasLine (filter p xs) place → HasLine xs place) → HasLine (x ∷ xs) place
    by true (inl e) rest = inl e
    by true (inr h) rest = inr (rest h)
    by false h rest = inr (rest h)

-- ---- a caller's commit lines

-- at the place of a caller's commit line stands no other line
pub commit_at : (caller low : ℕ) (lines : List Line) (place : ℕ) → LinesRise low lines → HasCommitLine caller lines place
    → AllByRecursion (λ (l : Line). l.line ≡ place → (l.caller ≡ caller) × (is_commit l.act ≡ true)) lines
commit_at caller low [] place rise has = tt
commit_at caller low (l ∷ ls) place rise (inl here) = (
  (λ e. (here.1, here.2)),
  each_says (λ (y : Line). l.line + 1 ≤ y.line) (λ (y : Line). y.line ≡ place → (y.caller ≡ caller) × (is_commit y.act ≡ true)) ls
      (λ y le e. absurd (let at = here.0 in omega (arith, le, e, at))) (none_below (l.line + 1) ls rise.1),
)
commit_at caller low (l ∷ ls) place rise (inr has) = (
  (λ e. absurd (let above = commit_low caller (l.line + 1) ls place rise.1 has in omega (arith, above, e))),
  commit_at caller (l.line + 1) ls place rise.1 has,
)
  where
    commit_low : (caller low : ℕ) (xs : List Line) (place : ℕ) → LinesRise low xs → HasCommitLine caller xs place → low ≤ place
    commit_low caller low [] place rise has = absurd has
    commit_low caller low (x ∷ xs) place rise (inl here) = let at = here.0 in omega (arith, rise.0, at)
    commit_low caller low (x ∷ xs) place rise (inr has) =
        let above = commit_low caller (x.line + 1) xs place rise.1 has in omega (arith, rise.0, above)

-- it gets a number
pub commit_in_script : (caller : ℕ) (lines : List Line) (place : ℕ) → HasCommitLine caller lines place
    → HasLine (of_caller caller (numbered lines)) place
commit_in_script caller [] place has = absurd has
commit_in_script caller (l ∷ ls) place (inl here) =
    rw (commit_numbered l.act here.2, eq-eqb l.caller caller here.1) (inl here.0)
commit_in_script caller (l ∷ ls) place (inr has) =
    by (is_numbered l.act) (eqb l.caller caller) (commit_in_script caller ls place has)
  where
    own : List Line
    own = of_caller caller (numbered ls)

    by : (n c : Bool) → HasLine own place → HasLine (of_caller caller (cond n (l ∷ numbered ls) (numbered ls))) place
    by true c h = behind (eqb l.caller caller) h
      where
        behind : (b : Bool) → HasLine own place → HasLine (cond b (l ∷ own) own) place
        behind true h = inr h
        behind false h = h
    by false c h = h

-- the log's lines are such as the script's
module _ (caller : ℕ) (lines log : List Line) (rise : LinesRise 1 lines) (numbering : Interleaves lines log)
    (place : ℕ) (has : HasCommitLine caller lines place) where
  pub commit_logged : AllByRecursion (λ (l : Line). l.line ≡ place → (l.caller ≡ caller) × (is_commit l.act ≡ true)) log
  commit_logged =
      each_logged (λ (l : Line). l.line ≡ place → (l.caller ≡ caller) × (is_commit l.act ≡ true)) lines log numbering
      (each_filtered (λ (l : Line). is_numbered l.act)
      (λ (l : Line). l.line ≡ place → (l.caller ≡ caller) × (is_commit l.act ≡ true)) lines
      (commit_at caller 1 lines place rise has))

  -- a commit line of the script is in a log that has all of its lines
  pub commit_there : HasLine (of_caller caller log) place
  commit_there =
      subst (λ (ls : List Line). HasLine ls place) (sym (numbering caller)) (commit_in_script caller lines place has)

-- Where a log has a caller's commit line, it has those before it.
pub earlier : (caller : ℕ) (lines log rest : List Line) (place later : ℕ) → LinesRise 1 lines → Interleaves lines (log ++ rest)
    → HasCommitLine caller lines place → HasCommitLine caller lines later → place < later → HasLine log later
    → HasLine log place
earlier caller lines log rest place later rise numbering has other before there =
    by (has_either (of_caller caller log) (of_caller caller rest) place (subst (λ (ls : List Line). HasLine ls place) parts
    (commit_there caller lines (log ++ rest) rise numbering place has)))
  where
    parts : of_caller caller (log ++ rest) ≡ of_caller caller log ++ of_caller caller rest
    parts = filter-append (λ (l : Line). eqb l.caller caller) log rest

    rises : LinesRise 1 (of_caller caller log ++ of_caller caller rest)
    rises =
        subst (LinesRise 1) parts
        (subst (LinesRise 1) (sym (numbering caller))
        (filter_rises (λ (l : Line). eqb l.caller caller) 1 (numbered lines)
        (filter_rises (λ (l : Line). is_numbered l.act) 1 lines rise)))

    own : HasLine (of_caller caller log) later
    own =
        has_filtered (λ (l : Line). eqb l.caller caller) log later
        (each_says (λ (l : Line). l.line ≡ later → (l.caller ≡ caller) × (is_commit l.act ≡ true))
        (λ (l : Line). l.line ≡ later → eqb l.caller caller ≡ true) log
        (λ l says e. eq-eqb l.caller caller (says e).0)
        (each_in_first (λ (l : Line). l.line ≡ later → (l.caller ≡ caller) × (is_commit l.act ≡ true)) log rest
        (commit_logged caller lines (log ++ rest) rise numbering later other)))
        there

    by : HasLine (of_caller caller log) place ⊎ HasLine (of_caller caller rest) place → HasLine log place
    by (inl h) = has_passed (λ (l : Line). eqb l.caller caller) log place h
    by (inr h) =
        absurd (let after_it = rises_apart 1 (of_caller caller log) (of_caller caller rest) later place rises own h in
        omega (arith, after_it, before))

-- each line of the log stands at a place from 1 on
pub placed_from : (lines log : List Line) (place : ℕ) → LinesRise 1 lines → Interleaves lines log → HasLine log place → 1 ≤ place
placed_from lines log place rise numbering has =
    has_says (λ (p : ℕ). 1 ≤ p) log place
    (each_says (λ (l : Line). 1 ≤ l.line) (λ (l : Line). l.line ≡ place → 1 ≤ place) log
    (λ l le e. omega (arith, le, e))
    (each_logged (λ (l : Line). 1 ≤ l.line) lines log numbering
    (each_filtered (λ (l : Line). is_numbered l.act) (λ (l : Line). 1 ≤ l.line) lines (none_below 1 lines rise))))
    has
