-- A made script has the shape of one that was read.
use Rattle.std.proofs.Common.{◌≡◌, ℕ, zero, suc, ◌+◌, ◌-◌, ◌<◌, ◌≤◌, ◌^◌, List, [], ◌++◌, map, length, subst, arith, length-append}
use Rattle.std.specs.List.{range_with_len, AllByRecursion}
use Rattle.std.proofs.Math.Nat.{mod-lt}
use Rattle.std.proofs.lemmas.List.{append-nil}
use Rattle.std.proofs.lemmas.List.FromFn.{length-map-range_with_len}
use Rattle.op_script.specs.Shape.{LinesRise, AreScriptLines}
use Rattle.op_script.specs.declared.script.Line.{Line}
use Rattle.script_maker.specs.Made.{made_line, last_commit, made_script}

-- lines whose places follow one another, and lines behind them
rise_over : (f : ℕ → Line) (behind : ℕ) → ((i : ℕ) → (f i).line ≡ i + behind) → (a n : ℕ) (rest : List Line)
    → LinesRise (a + n + behind) rest → LinesRise (a + behind) (map f (range_with_len a n) ++ rest)
rise_over f behind is a zero rest rise = subst (λ k. LinesRise k rest) (omega arith) rise
rise_over f behind is a (suc n) rest rise =
    let here = is a in
    let later : LinesRise (a + 1 + behind) (map f (range_with_len (a + 1) n) ++ rest) =
    rise_over f behind is (a + 1) n rest (subst (λ k. LinesRise k rest) (omega arith) rise) in
    let next : a + 1 + behind ≡ (f a).line + 1 = omega (arith, here) in
    (omega (arith, here), subst (λ k. LinesRise k (map f (range_with_len (a + 1) n) ++ rest)) next later)

abbrev Below : List Line → Type 0
Below lines = AllByRecursion (λ (l : Line). l.caller < 256) lines

below_over : (f : ℕ → Line) (a n : ℕ) (rest : List Line) → ((i : ℕ) → i < a + n → (f i).caller < 256) → Below rest → Below (map f (range_with_len a n) ++ rest)
below_over f a zero rest is all = all
below_over f a (suc n) rest is all = (is a (omega arith), below_over f (a + 1) n rest (λ i lt. is i (omega (arith, lt))) all)

rises : (seed lines callers : ℕ) → LinesRise 1 (made_script seed lines callers)
unfolding made_script made_line last_commit
rises seed lines callers =
    let commits = map (last_commit lines) (range_with_len 0 callers) in
    let last : LinesRise (0 + (lines + 1)) (commits ++ []) = rise_over (last_commit lines) (lines + 1) (λ i. omega arith) 0 callers [] tt in
    let behind : LinesRise (0 + (lines + 1)) commits = subst (λ ls. LinesRise (0 + (lines + 1)) ls) (append-nil commits) last in
    rise_over (made_line seed callers) 0 (λ i. omega arith) 1 lines commits (subst (λ k. LinesRise k commits) (omega arith) behind)

few : (seed lines callers : ℕ) → lines ≤ 1000000 → callers ≤ 256 → length (made_script seed lines callers) < 2 ^ 27
unfolding made_script
few seed lines callers most_lines most_callers =
    omega (
      arith,
      most_lines,
      most_callers,
      length-append (map (made_line seed callers) (range_with_len 1 lines)) (map (last_commit lines) (range_with_len 0 callers)),
      length-map-range_with_len (made_line seed callers) 1 lines,
      length-map-range_with_len (last_commit lines) 0 callers,
    )

below : (seed lines callers : ℕ) → 1 ≤ callers → callers ≤ 256 → Below (made_script seed lines callers)
unfolding made_script made_line last_commit
below seed lines callers some most =
    let commits = map (last_commit lines) (range_with_len 0 callers) in
    let last : Below (commits ++ []) = below_over (last_commit lines) 0 callers [] (λ i lt. omega (arith, lt, most)) tt in
    below_over (made_line seed callers) 1 lines commits
    (λ i lt. let turn = mod-lt (i - 1) {m = callers} (omega (arith, some)) in omega (arith, turn, most))
    (subst Below (append-nil commits) last)

pub made_shape : (seed lines callers : ℕ) → lines ≤ 1000000 → 1 ≤ callers → callers ≤ 256 → AreScriptLines (made_script seed lines callers)
made_shape seed lines callers most_lines some most = record {
  rise = rises seed lines callers;
  few = few seed lines callers most_lines most;
  callers = below seed lines callers some most;
}
