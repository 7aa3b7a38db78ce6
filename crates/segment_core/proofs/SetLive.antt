-- A number set in a row, where it is live.
use Rattle.std.proofs.Common.{◌≡◌, ℕ, zero, suc, ℤ, ◌<◌, List, [], ◌∷◌, Bool, true, false, cond, length, get_or, refl, sym, ap, arith}
use Rattle.live_docs.specs.declared.live_docs.Mark.{Mark}
use Rattle.live_docs.specs.Marks.{fresh, valued, changed_at}
use Rattle.segment_core.specs.Marking.{valued_live}

-- the mark by whether its row is live
by_live : (name : List ℕ) (value : ℤ) (m : Mark) (b : Bool) → m.live ≡ b → valued_live name value m ≡ cond b (valued name value m) m
by_live name value m b e = ap (λ (x : Bool). cond x (valued name value m) m) e

pub dead_stays : (name : List ℕ) (value : ℤ) (i : ℕ) (ms : List Mark) → i < length ms → (get_or ms i fresh).live ≡ false → ms ≡ changed_at (valued_live name value) i ms
dead_stays name value i [] lt e = refl
dead_stays name value zero (m ∷ ms) lt e = ap (λ (x : Mark). x ∷ ms) (sym (by_live name value m false e))
dead_stays name value (suc i) (m ∷ ms) lt e = ap (λ (l : List Mark). m ∷ l) (dead_stays name value i ms (omega (arith, lt)) e)

pub live_set : (name : List ℕ) (value : ℤ) (i : ℕ) (ms : List Mark) → i < length ms → (get_or ms i fresh).live ≡ true → changed_at (valued name value) i ms ≡ changed_at (valued_live name value) i ms
live_set name value i [] lt e = refl
live_set name value zero (m ∷ ms) lt e = ap (λ (x : Mark). x ∷ ms) (sym (by_live name value m true e))
live_set name value (suc i) (m ∷ ms) lt e = ap (λ (l : List Mark). m ∷ l) (live_set name value i ms (omega (arith, lt)) e)
