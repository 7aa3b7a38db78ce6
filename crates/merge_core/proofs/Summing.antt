-- What is left of a room behind the parts of a list.
use Rattle.std.proofs.Common.{◌≡◌, ℕ, zero, suc, ◌+◌, ◌<◌, ◌≤◌, List, [], ◌∷◌, length, take, get_or, Option, None, sym, subst, arith, add-one}
use Rattle.std.specs.Prelude.{sum_by}
use Rattle.std.proofs.lemmas.List.{take_all}
use Rattle.std.proofs.lemmas.List.Sums.{sum_by-cons, sum_by-take-le}
use Rattle.segment_files.specs.Sizes.{Leaves}

suc_sum : {X : Type 0} (f : X → ℕ) (xs : List X) (i : ℕ) (x : X) → i < length xs → x ≡ get_or xs i x → sum_by f (take (suc i) xs) ≡ sum_by f (take i xs) + f x
suc_sum f [] i x lt is = absurd (omega arith)
suc_sum f (y ∷ ys) zero x lt is = subst (λ z. sum_by f (y ∷ []) ≡ 0 + f z) (sym is) (omega (arith, sum_by-cons f y []))
suc_sum f (y ∷ ys) (suc i) x lt is =
    omega (arith, sum_by-cons f y (take (suc i) ys), sum_by-cons f y (take i ys), suc_sum f ys i x (omega arith) is)

pub next_sum : {X : Type 0} (f : X → ℕ) (xs : List X) (i : ℕ) (x : X) → i < length xs → x ≡ get_or xs i x → sum_by f (take (i + 1) xs) ≡ sum_by f (take i xs) + f x
next_sum f xs i x lt is = rw add-one (suc_sum f xs i x lt is)

-- the room behind so many of the parts
abbrev pub IsLeft : {X : Type 0} → (X → ℕ) → ℕ → List X → ℕ → ℕ → Type 0
IsLeft f room xs i left = left + sum_by f (take i xs) ≡ room

pub one_less : {X : Type 0} (f : X → ℕ) (room : ℕ) (xs : List X) (i : ℕ) (x : X) (left now : ℕ)
    → i < length xs → x ≡ get_or xs i x → IsLeft f room xs i left → now + f x ≡ left → IsLeft f room xs (i + 1) now
one_less f room xs i x left now lt is was takes = omega (arith, next_sum f xs i x lt is)

-- a part that the room has no place for
pub over : {X : Type 0} (f : X → ℕ) (room : ℕ) (xs : List X) (i : ℕ) (x : X) (left : ℕ) (r : Option ℕ)
    → r ≡ None → i < length xs → x ≡ get_or xs i x → IsLeft f room xs i left → left < f x → Leaves room (sum_by f xs) r
over f room xs i x left r none lt is was short =
    let much : room < sum_by f xs = omega (arith, next_sum f xs i x lt is, sum_by-take-le f xs (i + 1)) in
    subst (λ o. Leaves room (sum_by f xs) o) (sym none) much

pub all_left : {X : Type 0} (f : X → ℕ) (room : ℕ) (xs : List X) (i left : ℕ)
    → length xs ≤ i → IsLeft f room xs i left → left + sum_by f xs ≡ room
all_left f room xs i left le was = subst (λ ys. left + sum_by f ys ≡ room) (take_all i xs le) was
