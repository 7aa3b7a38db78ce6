-- Items that are read are the items that were written, and what was written is read again.
use Rattle.std.proofs.Common.{◌≡◌, ℕ, zero, suc, List, [], ◌∷◌, ◌++◌, length, Result, Ok, refl, sym, ap, subst, ◌∙◌, append_assoc}
use Rattle.std.specs.Prelude.{⊤}
use Rattle.std.specs.List.{flat_map, AllByRecursion}
use Rattle.std.proofs.lemmas.List.Concat.{flat_map-cons}
use Rattle.ix_base.specs.Codec.{◌>>=◌, items_at}
use Rattle.ix_base.proofs.CodecLaws.{bind_ok, ok_is, Takes, Takes-then}
use Rattle.ix_base.specs.Spelling.{AreBytes}

-- each item is good after what the one before it leaves
abbrev pub AllGood : {X S : Type 0} → (S → X → Type 0) → (X → S) → S → List X → Type 0
AllGood good leaves state [] = ⊤
AllGood good leaves state (x ∷ xs) = good state x × AllGood good leaves (leaves x) xs

-- what reading one item tells
abbrev pub TakesItem : {X S : Type 0} → (S → List ℕ → Result (X × List ℕ) ℕ) → (X → List ℕ) → (S → X → Type 0) → Type 0
TakesItem {X} {S} item spelled good = (state : S) (bytes : List ℕ) (x : X × List ℕ) → AreBytes bytes → item state bytes ≡ Ok x → Takes bytes (spelled x.0) x.1 × good state x.0

abbrev pub GivesItem : {X S : Type 0} → (S → List ℕ → Result (X × List ℕ) ℕ) → (X → List ℕ) → (S → X → Type 0) → Type 0
GivesItem {X} {S} item spelled good = (state : S) (x : X) (rest : List ℕ) → good state x → item state (spelled x ++ rest) ≡ Ok (x, rest)

pub items_take : {X S : Type 0} (item : S → List ℕ → Result (X × List ℕ) ℕ) (leaves : X → S) (spelled : X → List ℕ) (good : S → X → Type 0) → TakesItem item spelled good
    → (state : S) (n : ℕ) (bytes : List ℕ) (x : List X × List ℕ) → AreBytes bytes → items_at item leaves state n bytes ≡ Ok x
    → Takes bytes (flat_map spelled x.0) x.1 × (length x.0 ≡ n) × AllGood good leaves state x.0
unfolding items_at
items_take {X} {S} item leaves spelled good takes state zero bytes x fits e =
    subst (λ (y : List X × List ℕ). Takes bytes (flat_map spelled y.0) y.1 × (length y.0 ≡ 0) × AllGood good leaves state y.0) (ok_is ([], bytes) x e) (record { parts = refl; rest_fits = fits }, refl, tt)
items_take {X} {S} item leaves spelled good takes state (suc n) bytes x fits e =
    let a = bind_ok (item state bytes) (λ first. items_at item leaves (leaves first.0) n first.1 >>= λ others. Ok (first.0 ∷ others.0, others.1)) x e in
    let b = bind_ok (items_at item leaves (leaves a.0.0) n a.0.1) (λ others. Ok (a.0.0 ∷ others.0, others.1)) x a.2 in
    let first = takes state bytes a.0 fits a.1 in
    let second = items_take item leaves spelled good takes (leaves a.0.0) n a.0.1 b.0 first.0.rest_fits b.1 in
    let both = Takes-then bytes (spelled a.0.0) a.0.1 (flat_map spelled b.0.0) b.0.1 first.0 second.0 in
    let made : List X × List ℕ = (a.0.0 ∷ b.0.0, b.0.1) in
    subst (λ (y : List X × List ℕ). Takes bytes (flat_map spelled y.0) y.1 × (length y.0 ≡ suc n) × AllGood good leaves state y.0) (ok_is made x b.2) (rw flat_map-cons both, ap suc second.1, (first.1, second.2))

pub items_again : {X S : Type 0} (item : S → List ℕ → Result (X × List ℕ) ℕ) (leaves : X → S) (spelled : X → List ℕ) (good : S → X → Type 0) → GivesItem item spelled good
    → (state : S) (xs : List X) (rest : List ℕ) → AllGood good leaves state xs → items_at item leaves state (length xs) (flat_map spelled xs ++ rest) ≡ Ok (xs, rest)
unfolding items_at
items_again item leaves spelled good gives state [] rest fits = refl
items_again item leaves spelled good gives state (x ∷ xs) rest fits =
    let regrouped : flat_map spelled (x ∷ xs) ++ rest ≡ spelled x ++ (flat_map spelled xs ++ rest) = ap (λ (t : List ℕ). t ++ rest) (flat_map-cons spelled x xs) ∙ append_assoc (spelled x) (flat_map spelled xs) rest in
    ap (items_at item leaves state (suc (length xs))) regrouped ∙ rw (gives state x (flat_map spelled xs ++ rest) fits.0, items_again item leaves spelled good gives (leaves x) xs rest fits.1) refl

-- so many items are read, whatever they are
pub items_count : {X S : Type 0} (item : S → List ℕ → Result (X × List ℕ) ℕ) (leaves : X → S) (state : S) (n : ℕ) (bytes : List ℕ) (x : List X × List ℕ) → items_at item leaves state n bytes ≡ Ok x → length x.0 ≡ n
unfolding items_at
items_count item leaves state zero bytes x e = sym (ap (λ y. length y.0) (ok_is ([], bytes) x e))
items_count {X} item leaves state (suc n) bytes x e =
    let a = bind_ok (item state bytes) (λ first. items_at item leaves (leaves first.0) n first.1 >>= λ others. Ok (first.0 ∷ others.0, others.1)) x e in
    let b = bind_ok (items_at item leaves (leaves a.0.0) n a.0.1) (λ others. Ok (a.0.0 ∷ others.0, others.1)) x a.2 in
    let made : List X × List ℕ = (a.0.0 ∷ b.0.0, b.0.1) in
    subst (λ (y : List X × List ℕ). length y.0 ≡ suc n) (ok_is made x b.2) (ap suc (items_count item leaves (leaves a.0.0) n a.0.1 b.0 b.1))

-- what each item that is read has after the one before it
pub items_have : {X S : Type 0} (item : S → List ℕ → Result (X × List ℕ) ℕ) (leaves : X → S) (has : S → X → Type 0) → ((state : S) (bytes : List ℕ) (x : X × List ℕ) → item state bytes ≡ Ok x → has state x.0)
    → (state : S) (n : ℕ) (bytes : List ℕ) (x : List X × List ℕ) → items_at item leaves state n bytes ≡ Ok x → AllGood has leaves state x.0
unfolding items_at
items_have {X} {S} item leaves has each state zero bytes x e = subst (λ (y : List X × List ℕ). AllGood has leaves state y.0) (ok_is ([], bytes) x e) tt
items_have {X} {S} item leaves has each state (suc n) bytes x e =
    let a = bind_ok (item state bytes) (λ first. items_at item leaves (leaves first.0) n first.1 >>= λ others. Ok (first.0 ∷ others.0, others.1)) x e in
    let b = bind_ok (items_at item leaves (leaves a.0.0) n a.0.1) (λ others. Ok (a.0.0 ∷ others.0, others.1)) x a.2 in
    let made : List X × List ℕ = (a.0.0 ∷ b.0.0, b.0.1) in
    subst (λ (y : List X × List ℕ). AllGood has leaves state y.0) (ok_is made x b.2) (each state bytes a.0 a.1, items_have item leaves has each (leaves a.0.0) n a.0.1 b.0 b.1)

-- ---- each item and the one before it

pub good_onto : {X S : Type 0} (P Q : S → X → Type 0) (leaves : X → S) → ((s : S) (x : X) → P s x → Q s x) → (s : S) (xs : List X) → AllGood P leaves s xs → AllGood Q leaves s xs
good_onto P Q leaves implies s [] all = tt
good_onto P Q leaves implies s (x ∷ xs) all = (implies s x all.0, good_onto P Q leaves implies (leaves x) xs all.1)

pub good_each : {X S : Type 0} (P : S → X → Type 0) (R : X → Type 0) (leaves : X → S) → ((s : S) (x : X) → P s x → R x) → (s : S) (xs : List X) → AllGood P leaves s xs → AllByRecursion R xs
good_each P R leaves implies s [] all = tt
good_each P R leaves implies s (x ∷ xs) all = (implies s x all.0, good_each P R leaves implies (leaves x) xs all.1)

pub good_both : {X S : Type 0} (P Q : S → X → Type 0) (R : X → Type 0) (leaves : X → S) → ((s : S) (x : X) → R x → Q s x → P s x) → (s : S) (xs : List X) → AllByRecursion R xs → AllGood Q leaves s xs → AllGood P leaves s xs
good_both P Q R leaves joined s [] all good = tt
good_both P Q R leaves joined s (x ∷ xs) all good = (joined s x all.0 good.0, good_both P Q R leaves joined (leaves x) xs all.1 good.1)

pub all_both : {X : Type 0} (P Q R : X → Type 0) → ((x : X) → P x → Q x → R x) → (xs : List X) → AllByRecursion P xs → AllByRecursion Q xs → AllByRecursion R xs
all_both P Q R joined [] p q = tt
all_both P Q R joined (x ∷ xs) p q = (joined x p.0 q.0, all_both P Q R joined xs p.1 q.1)
