-- The loops that make a script: what one more step of each adds.
use Rattle.std.proofs.Common.{◌≡◌, ◌∙◌, ℕ, ◌+◌, ◌/◌, ◌%◌, List, [], ◌∷◌, ◌++◌, map, refl, sym, ap, append_assoc, add-one, arith}
use Rattle.std.specs.List.{range_with_len}
use Rattle.std.proofs.lemmas.List.FromFn.{map-range_with_len_more}
use Rattle.op_script.specs.declared.script.Act.{Act}
use Rattle.op_script.specs.declared.script.Act.TheVariants as act
use Rattle.op_script.specs.declared.script.Line.{Line}
use Rattle.ix_base.specs.declared.document.Operation.TheVariants as operation
use Rattle.script_maker.specs.Draws.{next_number, number_at, draw_at}
use Rattle.script_maker.specs.Made.{made_act, made_line, last_commit}

-- the next number of the sequence
pub number_more : (seed i was now : ℕ) → was ≡ number_at seed i → now ≡ next_number was → now ≡ number_at seed (i + 1)
number_more seed i was now is next = next ∙ rw (is, add-one) refl

abbrev line_with : ℕ → ℕ → Act → Line
line_with at caller asked = record { line = at; caller = caller; act = asked }

line_is : (seed callers i number caller : ℕ) (asked : Act) → number ≡ number_at seed (i + 1) → caller ≡ i % callers → asked ≡ made_act (i + 1) caller (number / 65536)
    → line_with (i + 1) caller asked ≡ made_line seed callers (i + 1)
unfolding made_line
line_is seed callers i number caller asked n c a =
    let turn : ℕ → Line = λ k. line_with (i + 1) (k % callers) (made_act (i + 1) (k % callers) (draw_at seed (i + 1))) in
    rw (a, c, n) (ap turn (sym (omega arith)))

-- the lines so far, and the next one
pub lines_more : (seed callers i number caller : ℕ) (asked : Act) (was now : List Line)
    → number ≡ number_at seed (i + 1) → caller ≡ i % callers → asked ≡ made_act (i + 1) caller (number / 65536)
    → was ≡ map (made_line seed callers) (range_with_len 1 i) → now ≡ was ++ line_with (i + 1) caller asked ∷ []
    → now ≡ map (made_line seed callers) (range_with_len 1 (i + 1))
lines_more seed callers i number caller asked was now n c a before pushed =
    pushed
    ∙ rw (before, line_is seed callers i number caller asked n c a) refl
    ∙ sym (map-range_with_len_more (made_line seed callers) 1 i (i + 1) (omega arith))

-- the commits so far, and the next one
pub commits_more : (lines caller : ℕ) (pairs : List (List ℕ × List ℕ)) (made was now : List Line) → pairs ≡ []
    → was ≡ made ++ map (last_commit lines) (range_with_len 0 caller)
    → now ≡ was ++ line_with (lines + 1 + caller) caller (act.Do (operation.Commit pairs)) ∷ []
    → now ≡ made ++ map (last_commit lines) (range_with_len 0 (caller + 1))
unfolding last_commit
commits_more lines caller pairs made was now none before pushed =
    let more : List Line → List Line = λ ls. made ++ ls in
    pushed
    ∙ ap (λ (ps : List (List ℕ × List ℕ)). was ++ line_with (lines + 1 + caller) caller (act.Do (operation.Commit ps)) ∷ []) none
    ∙ ap (λ (ls : List Line). ls ++ last_commit lines caller ∷ []) before
    ∙ append_assoc made (map (last_commit lines) (range_with_len 0 caller)) (last_commit lines caller ∷ [])
    ∙ ap more (sym (map-range_with_len_more (last_commit lines) 0 caller caller (omega arith)))
