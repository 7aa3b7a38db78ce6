-- Entries of a map of which one changes: what a test of an entry of some name finds.
use Rattle.std.proofs.Common.{◌≡◌, ℕ, List, [], ◌∷◌, ◌++◌, Bool, true, false, ◌&&◌, ◌||◌, Some, None, cond, map, refl, sym, ap, ◌∙◌}
use Rattle.std.specs.List.{list_any}
use Rattle.std.specs.Str.{bytes_eq}
use Rattle.std.specs.Map.{lookup, set_value}
use Rattle.std.specs.BTreeMap.{is_at, insert_entry}
use Rattle.std.specs.Ordering.{is_eq, match_ordering}
use Rattle.std.specs.declared.cmp.Ordering.{Ordering}
use Rattle.std.specs.declared.cmp.Ordering.TheVariants.{Less, Equal, Greater}
use Rattle.std.proofs.lemmas.List.Folds.{list_any-append}
use Rattle.std.proofs.lemmas.Slice.Eq.{bytes_eq-Decides}
use Rattle.ix_base.proofs.GroupedLaws.{or_false, or_assoc}

pub any_map : {X Y : Type 0} (p : Y → Bool) (f : X → Y) (xs : List X) → list_any p (map f xs) ≡ list_any (λ x. p (f x)) xs
any_map p f [] = refl
any_map p f (x ∷ xs) = ap (λ (b : Bool). p (f x) || b) (any_map p f xs)

-- entries of this name that hold
abbrev pub finds : {K V : Type 0} (name : K → List ℕ) (holds : V → Bool) → List ℕ → List (K × V) → Bool
finds name holds word es = list_any (λ e. bytes_eq (name e.0) word && holds e.1) es

changed : (n h m r : Bool) → ((n && (h || m)) || r) ≡ (((n && h) || r) || (n && m))
changed true true m r = refl
changed true false true true = refl
changed true false true false = refl
changed true false false true = refl
changed true false false false = refl
changed false h m true = refl
changed false h m false = refl

some_is : {V : Type 0} (x y : V) → Some x ≡ Some y → x ≡ y
some_is x y e = cc

-- a written value holds more than the one that was found
pub finds_set : {K V : Type 0} (name : K → List ℕ) (holds : V → Bool) (test : K → Bool) (key word : List ℕ) (more : Bool) (v w : V) (es : List (K × V))
    → ((k : K) → test k ≡ true → name k ≡ key) → lookup test es ≡ Some v → holds w ≡ (holds v || more)
    → finds name holds word (set_value test es w) ≡ (finds name holds word es || (bytes_eq key word && more))
finds_set name holds test key word more v w [] names found gains = let e : None ≡ Some v = found in cc
finds_set {K} {V} name holds test key word more v w (e ∷ es) names found gains =
    go (test e.0) refl found (λ at. finds_set name holds test key word more v w es names at gains)
  where
    rest : Bool
    rest = finds name holds word es

    go : (b : Bool) → test e.0 ≡ b → cond b (Some e.1) (lookup test es) ≡ Some v
        → (lookup test es ≡ Some v → finds name holds word (set_value test es w) ≡ (rest || (bytes_eq key word && more)))
        → finds name holds word (cond b ((e.0, w) ∷ es) (e ∷ set_value test es w)) ≡ ((bytes_eq (name e.0) word && holds e.1 || rest) || (bytes_eq key word && more))
    go true q at later =
        let is : e.1 ≡ v = some_is e.1 v at in
        ap (λ (b : Bool). (bytes_eq (name e.0) word && b) || rest) (gains ∙ ap (λ (u : V). holds u || more) (sym is))
        ∙ changed (bytes_eq (name e.0) word) (holds e.1) more rest
        ∙ ap (λ (n : List ℕ). (bytes_eq (name e.0) word && holds e.1 || rest) || (bytes_eq n word && more)) (names e.0 q)
    go false q at later =
        ap (λ (b : Bool). bytes_eq (name e.0) word && holds e.1 || b) (later at)
        ∙ or_assoc (bytes_eq (name e.0) word && holds e.1) rest (bytes_eq key word && more)

or_true : (a : Bool) → (a || true) ≡ true
or_true true = refl
or_true false = refl

same_bytes : (a b : List ℕ) → a ≡ b → bytes_eq a b ≡ true
same_bytes a b e = (bytes_eq-Decides a b).1 e

-- what the value that was found holds is found
pub finds_there : {K V : Type 0} (name : K → List ℕ) (holds : V → Bool) (test : K → Bool) (key : List ℕ) (v : V) (es : List (K × V))
    → ((k : K) → test k ≡ true → name k ≡ key) → lookup test es ≡ Some v → holds v ≡ true → finds name holds key es ≡ true
finds_there name holds test key v [] names found h = let e : None ≡ Some v = found in cc
finds_there {K} {V} name holds test key v (e ∷ es) names found h = go (test e.0) refl found (λ at. finds_there name holds test key v es names at h)
  where
    go : (b : Bool) → test e.0 ≡ b → cond b (Some e.1) (lookup test es) ≡ Some v → (lookup test es ≡ Some v → finds name holds key es ≡ true)
        → ((bytes_eq (name e.0) key && holds e.1) || finds name holds key es) ≡ true
    go true q at later =
        ap (λ (b : Bool). (b && holds e.1) || finds name holds key es) (same_bytes (name e.0) key (names e.0 q))
        ∙ ap (λ (u : V). holds u || finds name holds key es) (some_is e.1 v at)
        ∙ ap (λ (b : Bool). b || finds name holds key es) h
    go false q at later =
        ap (λ (b : Bool). (bytes_eq (name e.0) key && holds e.1) || b) (later at)
        ∙ or_true (bytes_eq (name e.0) key && holds e.1)

-- one more entry at the end
pub finds_push : {K V : Type 0} (name : K → List ℕ) (holds : V → Bool) (word : List ℕ) (k : K) (v : V) (es : List (K × V))
    → finds name holds word (es ++ (k, v) ∷ []) ≡ (finds name holds word es || (bytes_eq (name k) word && holds v))
finds_push {K} {V} name holds word k v es =
    list_any-append (λ (e : K × V). bytes_eq (name e.0) word && holds e.1) es ((k, v) ∷ [])
    ∙ ap (λ (b : Bool). finds name holds word es || b) (sym (or_false (bytes_eq (name k) word && holds v)))

swapped : (a b : Bool) → (a || b) ≡ (b || a)
swapped true true = refl
swapped true false = refl
swapped false true = refl
swapped false false = refl

-- one more entry at its place in the order
pub finds_insert : {K V : Type 0} (name : K → List ℕ) (holds : V → Bool) (cmp : K → K → Ordering) (word : List ℕ) (k : K) (v : V) (es : List (K × V))
    → lookup (is_at (cmp k)) es ≡ None
    → finds name holds word (insert_entry cmp es k v) ≡ (finds name holds word es || (bytes_eq (name k) word && holds v))
finds_insert name holds cmp word k v [] none = sym (or_false (bytes_eq (name k) word && holds v))
finds_insert {K} {V} name holds cmp word k v (e ∷ es) none = go (cmp k e.0) none (finds_insert name holds cmp word k v es)
  where
    new : Bool
    new = bytes_eq (name k) word && holds v

    here : Bool
    here = bytes_eq (name e.0) word && holds e.1

    go : (o : Ordering) → cond (is_eq o) (Some e.1) (lookup (is_at (cmp k)) es) ≡ None
        → (lookup (is_at (cmp k)) es ≡ None → finds name holds word (insert_entry cmp es k v) ≡ (finds name holds word es || new))
        → finds name holds word (match_ordering o ((k, v) ∷ e ∷ es) ((e.0, v) ∷ es) (e ∷ insert_entry cmp es k v)) ≡ ((here || finds name holds word es) || new)
    go Less none later = swapped new (here || finds name holds word es)
    go Equal none later = cc
    go Greater none later = ap (λ (b : Bool). here || b) (later none) ∙ or_assoc here (finds name holds word es) new
