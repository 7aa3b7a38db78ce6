-- A text written piece by piece.
use Rattle.std.proofs.Common.{◌≡◌, ℕ, ◌+◌, ◌-◌, List, ◌++◌, take, drop, length, Option, Some, None, ap, subst, ◌∙◌}
use Rattle.std.proofs.Common.{append_assoc, arith}
use Rattle.std.proofs.lemmas.List.{drop-take, take-take, take-append-drop, length-drop}
use Rattle.std.proofs.Math.Seq.{take_all}
use Rattle.std.specs.Io.KnownBytes.{Appends}

take_add : (xs : List ℕ) (n m : ℕ) → take n xs ++ take m (drop n xs) ≡ take (n + m) xs
take_add xs n m =
    let front : take n (take (n + m) xs) ≡ take n xs = take-take n (n + m) xs (omega arith) in
    rw (← front, ← drop-take) (take-append-drop n (take (n + m) xs))

pub appends_more : (a b c : Option (List ℕ)) (bytes : List ℕ) (i n : ℕ)
    → Appends a b (take i bytes) → Appends b c (take n (take (length bytes - i) (drop i bytes)))
    → Appends a c (take (i + n) bytes)
appends_more None b c bytes i n p q = tt
appends_more (Some x) None c bytes i n p q = absurd p
appends_more (Some x) (Some y) None bytes i n p q = absurd q
appends_more (Some x) (Some y) (Some z) bytes i n p q =
    let all : take (length bytes - i) (drop i bytes) ≡ drop i bytes =
    take_all (length bytes - i) (drop i bytes) (omega (arith, length-drop i bytes)) in
    subst (λ (w : List ℕ). z ≡ y ++ take n w) all q ∙ ap (λ (w : List ℕ). w ++ take n (drop i bytes)) p
    ∙ append_assoc x (take i bytes) (take n (drop i bytes)) ∙ ap (λ (w : List ℕ). x ++ w) (take_add bytes i n)
