-- Laws of a worker's own lines, with one line more, and of lists that go together.
use Rattle.std.proofs.Common.{◌≡◌, ◌≢◌, ℕ, ◌%◌, Bool, true, false, eqb, eq-eqb, ne_eqb, ◌&&◌, List, [], ◌∷◌, ◌++◌, refl}
use Rattle.std.specs.List.{AllZip}
use Rattle.op_script.specs.declared.script.Line.{Line}
use Rattle.run_log.proofs.Lists.{filter_passed, filter_pushed}
use Rattle.line_shares.specs.Shares.{is_doing, own_lines}

-- whether this one of n workers does the line
abbrev pub is_own : ℕ → ℕ → Line → Bool
is_own n worker l = is_doing l.act && eqb (l.caller % n) worker

-- a line that is done by another worker
pub other_worker : (n worker : ℕ) (l : Line) → l.caller % n ≢ worker → is_own n worker l ≡ false
other_worker n worker l other = rw (ne_eqb (l.caller % n) worker other) (none (is_doing l.act))
  where
    none : (b : Bool) → (b && false) ≡ false
    none true = refl
    none false = refl

pub same_worker : (n worker : ℕ) (l : Line) → is_doing l.act ≡ true → l.caller % n ≡ worker → is_own n worker l ≡ true
same_worker n worker l doing same = rw (doing, eq-eqb (l.caller % n) worker same) refl

-- ---- with one line more at the end

pub own_passed : (n worker : ℕ) (done : List Line) (l : Line) → is_own n worker l ≡ false
    → own_lines n worker (done ++ l ∷ []) ≡ own_lines n worker done
own_passed n worker done l not = filter_passed (is_own n worker) done l not

pub own_pushed : (n worker : ℕ) (done : List Line) (l : Line) → is_own n worker l ≡ true
    → own_lines n worker (done ++ l ∷ []) ≡ own_lines n worker done ++ l ∷ []
own_pushed n worker done l is = filter_pushed (is_own n worker) done l is

-- ---- with one line more at the front

pub own_first : (n worker : ℕ) (l : Line) (rest : List Line) → is_own n worker l ≡ true
    → own_lines n worker (l ∷ rest) ≡ l ∷ own_lines n worker rest
own_first n worker l rest is = rw is refl

pub own_not : (n worker : ℕ) (l : Line) (rest : List Line) → is_own n worker l ≡ false
    → own_lines n worker (l ∷ rest) ≡ own_lines n worker rest
own_not n worker l rest other = rw other refl

-- ---- lists that go together

pub zip_more : {A B : Type 0} (R : A → B → Type 0) (xs : List A) (ys : List B) (x : A) (y : B) → AllZip R xs ys → R x y
    → AllZip R (xs ++ x ∷ []) (ys ++ y ∷ [])
zip_more R [] [] x y all holds = (holds, tt)
zip_more R [] (b ∷ ys) x y all holds = absurd all
zip_more R (a ∷ xs) [] x y all holds = absurd all
zip_more R (a ∷ xs) (b ∷ ys) x y all holds = (all.0, zip_more R xs ys x y all.1 holds)
