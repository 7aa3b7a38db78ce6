-- Lines read one after another.
use Rattle.std.proofs.Common.{◌≡◌, ◌∙◌, ℕ, ◌+◌, ◌-◌, ◌<◌, ◌≤◌, not, arith, length-drop, ◌==◌, nat_lt, cond, true, false, position, subst, List, [], ◌∷◌, ◌++◌, length, take, drop, Bool, Some, None, Result, Ok, Err, refl, sym, ap, append_assoc}
use Rattle.std.proofs.lemmas.List.{append-nil}
use Rattle.std.proofs.lemmas.Bool.{ltb-true, ltb-false}
use Rattle.std.proofs.Math.Seq.{take-length}
use Rattle.std.specs.List.{slice_split, position_or_len, onto_first}
use Rattle.std.proofs.lemmas.List.Splits.{slice_split_first}
use Rattle.op_script.specs.Lines.{lines_of}
use Rattle.op_script.specs.Language.{line_at, lines_from, and_then, before, onto}
use Rattle.op_script.specs.declared.script.Line.{Line}
use Rattle.op_script.specs.declared.script.BadLine.{BadLine}

pub onto-none : (lines : List Line) (rest : Result (List Line) BadLine) → onto lines (before None rest) ≡ onto lines rest
onto-none lines (Err bad) = refl
onto-none lines (Ok more) = refl

pub onto-some : (lines : List Line) (line : Line) (rest : Result (List Line) BadLine) → onto lines (before (Some line) rest) ≡ onto (lines ++ line ∷ []) rest
onto-some lines line (Err bad) = refl
onto-some lines line (Ok more) = ap Ok (sym (append_assoc lines (line ∷ []) more))

abbrev ends : ℕ → Bool
ends b = b == 10

cut_by : (test : Bool) (xs : List ℕ) (i : ℕ) → nat_lt (position_or_len ends xs) (length xs) ≡ test → cond test (Some (position_or_len ends xs)) None ≡ Some i
    → (i < length xs) × (slice_split ends xs ≡ take i xs ∷ slice_split ends (drop (i + 1) xs))
cut_by true xs i is found =
    let same : position_or_len ends xs ≡ i = cc in
    let within : position_or_len ends xs < length xs = ltb-true _ _ is in
    (subst (λ n. n < length xs) same within, subst (λ n. slice_split ends xs ≡ take n xs ∷ slice_split ends (drop (n + 1) xs)) same (slice_split_first ends xs 0 within))
cut_by false xs i is found = cc

-- the first line ends at the first byte 10
pub cut_at : (xs : List ℕ) (i : ℕ) → position ends xs ≡ Some i → (i < length xs) × (lines_of xs ≡ take i xs ∷ lines_of (drop (i + 1) xs))
cut_at xs i found = cut_by _ xs i refl found

uncut_more : (test : Bool) (x : ℕ) (xs : List ℕ) → length (x ∷ xs) ≤ cond (not test) (1 + position_or_len ends xs) 0 → (length xs ≤ position_or_len ends xs → lines_of xs ≡ xs ∷ [])
    → cond test ([] ∷ lines_of xs) (onto_first x (lines_of xs)) ≡ (x ∷ xs) ∷ []
uncut_more true x xs h rest = absurd (omega arith)
uncut_more false x xs h rest = rw (rest (omega arith)) refl

uncut_by : (xs : List ℕ) → length xs ≤ position_or_len ends xs → lines_of xs ≡ xs ∷ []
uncut_by [] h = refl
uncut_by (x ∷ xs) h = uncut_more (ends x) x xs h (uncut_by xs)

unfound : (test : Bool) (xs : List ℕ) → nat_lt (position_or_len ends xs) (length xs) ≡ test → cond test (Some (position_or_len ends xs)) None ≡ None → length xs ≤ position_or_len ends xs
unfound true xs is none = cc
unfound false xs is none = ltb-false _ _ is

-- with no byte 10 there is one line
pub uncut : (xs : List ℕ) → position ends xs ≡ None → lines_of xs ≡ xs ∷ []
uncut xs none = uncut_by xs (unfound _ xs refl none)

-- the first line of several, as the code cuts it off
pub cut : (xs : List ℕ) (i : ℕ) → position ends xs ≡ Some i → lines_of xs ≡ take i xs ∷ lines_of (take (length xs - (i + 1)) (drop (i + 1) xs))
cut xs i found =
    let left = drop (i + 1) xs in
    let all : take (length xs - (i + 1)) left ≡ left = subst (λ n. take n left ≡ left) (length-drop (i + 1) xs) (take-length left) in
    rw all ((cut_at xs i found).1)

-- the last line is read
pub all_read : (lines new : List Line) (at : ℕ) (text all : List ℕ) → onto lines (lines_from at (lines_of text)) ≡ lines_from 1 (lines_of all) → lines_of text ≡ text ∷ []
    → ((rest : Result (List Line) BadLine) → onto lines (and_then (line_at at text) rest) ≡ onto new rest) → lines_from 1 (lines_of all) ≡ Ok new
all_read lines new at text all read last next =
    sym read ∙ ap (λ texts. onto lines (lines_from at texts)) last ∙ next (Ok []) ∙ ap Ok (append-nil new)
