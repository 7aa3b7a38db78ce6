-- The lines that were told a number in a round, and the order that they are.
use Rattle.std.specs.Prelude.{◌≡◌, ◌≢◌, ℕ, ◌%◌, ◌==◌, List, [], ◌∷◌, ◌++◌, length, map}
use Rattle.std.specs.List.{filter, AllByRecursion}
use Rattle.ix_base.specs.declared.document.Operation.{Operation}
use Rattle.op_script.specs.declared.script.Line.{Line}
use Rattle.op_script.specs.declared.script.Act.TheVariants.{Do}
use Rattle.row_fates.specs.Fate.{Numbered}
use Rattle.round_order.specs.Order.{Working, seconds}
use Rattle.run_log.specs.Headline.{number_of, operations}

-- A line that was told a number, with its operation.
pub record Tell : Type 0 where
  pub number : ℕ
  pub line : Line
  pub op : Operation

-- the operation is the line's
abbrev pub IsTell : Tell → Type 0
IsTell t = t.line.act ≡ Do t.op

-- the lines without their numbers
abbrev pub lines_of : List Tell → List Line
lines_of tells = map (λ (t : Tell). t.line) tells

-- the operations with their numbers
abbrev pub pairs_of : List Tell → List Numbered
pairs_of tells = map (λ (t : Tell). (t.number, t.op)) tells

-- the lines of this caller
abbrev pub of_caller : ℕ → List Line → List Line
of_caller caller lines = filter (λ (l : Line). l.caller == caller) lines

-- These lines stand one behind the other in those.
pub record IsPartOf (part whole : List Line) : Type 0 where
  pub front : List Line
  pub back : List Line
  pub is : whole ≡ front ++ (part ++ back)

-- What each of n workers was told in a round: lines of its own callers, and of each caller a part of its lines in the
-- script, in that order. Caller c's worker is c mod n.
pub record AreTells (n : ℕ) (script : List Line) (told : ℕ → List Tell) : Type 0 where
  pub good : (worker : ℕ) → AllByRecursion IsTell (told worker)
  pub own : (worker : ℕ) → AllByRecursion (λ (t : Tell). t.line.caller % n ≡ worker) (told worker)
  pub part : (caller : ℕ) → IsPartOf (of_caller caller (lines_of (told (caller % n)))) (of_caller caller script)

-- no two lines stand at one place of the script
abbrev pub PlacesDiffer : List Line → Type 0
PlacesDiffer [] = Unit {0}
PlacesDiffer (l ∷ ls) = AllByRecursion (λ (other : Line). other.line ≢ l.line) ls × PlacesDiffer ls

-- The lines of a round in the order of their numbers, of which the first has the number after `base`. They are those
-- that workers were told, those of each caller in the order of the script, and each has the number that it was told.
pub record IsOrder (n base : ℕ) (told : ℕ → List Tell) (ts : List Working) (more : List Line) : Type 0 where
  pub ops : operations more ≡ seconds ts
  pub count : length more ≡ length ts
  pub callers : (caller : ℕ) → of_caller caller more ≡ of_caller caller (lines_of (told (caller % n)))
  pub numbers : (worker : ℕ) → AllByRecursion (λ (t : Tell). number_of base more t.line.line ≡ t.number) (told worker)
  pub apart : PlacesDiffer more
