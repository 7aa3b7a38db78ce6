-- Reading items one after the other, as a loop does.
use Rattle.std.proofs.Common.{◌≡◌, ℕ, suc, ◌-◌, ◌+◌, ◌≤◌, ◌<◌, List, [], ◌∷◌, ◌++◌, length, get_or, Result, Ok, Err, refl, sym, ap, subst, ◌∙◌, append_assoc, arith}
use Rattle.std.proofs.lemmas.List.{append-nil}
use Rattle.ix_base.specs.declared.broken.Broken.{Broken}
use Rattle.ix_base.specs.declared.broken.Broken.TheVariants.{At, NoMemory}
use Rattle.ix_base.specs.Codec.{◌>>=◌, Fails, items_at, left_by}

-- what was read before, and what is still read
abbrev pub with_front : {X : Type 0} → List X → Result (List X × List ℕ) ℕ → Result (List X × List ℕ) ℕ
with_front front read = read >>= λ x. Ok (front ++ x.0, x.1)

pub left_by-push : {X S : Type 0} (leaves : X → S) (state : S) (front : List X) (x : X) → left_by leaves state (front ++ x ∷ []) ≡ leaves x
left_by-push leaves state [] x = refl
left_by-push leaves state (y ∷ ys) x = left_by-push leaves (leaves y) ys x

regroup : {X : Type 0} (front : List X) (x : X) (read : Result (List X × List ℕ) ℕ) → with_front front (read >>= λ y. Ok (x ∷ y.0, y.1)) ≡ with_front (front ++ x ∷ []) read
regroup front x (Ok y) = ap (λ (xs : List _). Ok (xs, y.1)) (simp append_assoc)
regroup front x (Err f) = refl

-- where a loop over items stands
abbrev pub so_far : {X S : Type 0} → (S → List ℕ → Result (X × List ℕ) ℕ) → (X → S) → S → List X → ℕ → List ℕ → Result (List X × List ℕ) ℕ
so_far item leaves start front left bytes = with_front front (items_at item leaves (left_by leaves start front) left bytes)

pub starts : {X S : Type 0} (item : S → List ℕ → Result (X × List ℕ) ℕ) (leaves : X → S) (start : S) (count : ℕ) (bytes : List ℕ) → so_far item leaves start [] (count - 0) bytes ≡ items_at item leaves start count bytes
starts item leaves start count bytes =
    let k : count - 0 ≡ count = omega arith in
    rw k (nothing (items_at item leaves start count bytes))
  where
    nothing : {X : Type 0} (read : Result (List X × List ℕ) ℕ) → with_front [] read ≡ read
    nothing (Ok x) = refl
    nothing (Err f) = refl

pub goes_on : {X S : Type 0} (item : S → List ℕ → Result (X × List ℕ) ℕ) (leaves : X → S) (start : S) (front : List X) (count i : ℕ) (bytes : List ℕ) (x : X) (after : List ℕ) (total : Result (List X × List ℕ) ℕ)
    → i < count → item (left_by leaves start front) bytes ≡ Ok (x, after) → so_far item leaves start front (count - i) bytes ≡ total → so_far item leaves start (front ++ x ∷ []) (count - (i + 1)) after ≡ total
unfolding items_at
goes_on item leaves start front count i bytes x after total lt h so =
    let k : count - i ≡ suc (count - (i + 1)) = omega arith in
    let one : so_far item leaves start front (count - i) bytes ≡ with_front (front ++ x ∷ []) (items_at item leaves (leaves x) (count - (i + 1)) after) =
    rw (k, h) (regroup front x (items_at item leaves (leaves x) (count - (i + 1)) after)) in
    rw (left_by-push leaves start front x) (sym one ∙ so)

pub ends : {X S : Type 0} (item : S → List ℕ → Result (X × List ℕ) ℕ) (leaves : X → S) (start : S) (e : Broken) (front : List X) (count i : ℕ) (bytes : List ℕ) (total : Result (List X × List ℕ) ℕ)
    → i < count → Fails e (item (left_by leaves start front) bytes) → so_far item leaves start front (count - i) bytes ≡ total → Fails e total
unfolding items_at
ends item leaves start NoMemory front count i bytes total lt h so = tt
ends item leaves start (At left) front count i bytes total lt h so =
    let k : count - i ≡ suc (count - (i + 1)) = omega arith in
    let one : so_far item leaves start front (count - i) bytes ≡ Err left = rw (k, h) refl in
    sym so ∙ one

pub is_done : {X S : Type 0} (item : S → List ℕ → Result (X × List ℕ) ℕ) (leaves : X → S) (start : S) (front : List X) (count i : ℕ) (bytes : List ℕ) (total : Result (List X × List ℕ) ℕ)
    → count ≤ i → so_far item leaves start front (count - i) bytes ≡ total → total ≡ Ok (front, bytes)
unfolding items_at
is_done item leaves start front count i bytes total le so =
    let k : count - i ≡ 0 = omega arith in
    let one : so_far item leaves start front (count - i) bytes ≡ Ok (front, bytes) = rw k (ap (λ (xs : List _). Ok (xs, bytes)) (append-nil front)) in
    sym so ∙ one

-- the same where the items so far were seen through a reference
pub goes_on_seen : {X S : Type 0} (item : S → List ℕ → Result (X × List ℕ) ℕ) (leaves : X → S) (start : S) (seen front : List X) (count i : ℕ) (bytes : List ℕ) (x : X) (after : List ℕ) (total : Result (List X × List ℕ) ℕ)
    → seen ≡ front → i < count → item (left_by leaves start seen) bytes ≡ Ok (x, after) → so_far item leaves start front (count - i) bytes ≡ total → so_far item leaves start (front ++ x ∷ []) (count - (i + 1)) after ≡ total
goes_on_seen item leaves start seen front count i bytes x after total is lt h so =
    goes_on item leaves start front count i bytes x after total lt (ap (λ (xs : List _). item (left_by leaves start xs) bytes) (sym is) ∙ h) so

pub ends_seen : {X S : Type 0} (item : S → List ℕ → Result (X × List ℕ) ℕ) (leaves : X → S) (start : S) (e : Broken) (seen front : List X) (count i : ℕ) (bytes : List ℕ) (total : Result (List X × List ℕ) ℕ)
    → seen ≡ front → i < count → Fails e (item (left_by leaves start seen) bytes) → so_far item leaves start front (count - i) bytes ≡ total → Fails e total
ends_seen item leaves start e seen front count i bytes total is lt h so =
    ends item leaves start e front count i bytes total lt (subst (λ (xs : List _). Fails e (item (left_by leaves start xs) bytes)) is h) so

left_at : {X S : Type 0} (leaves : X → S) (state : S) (y : X) (ys : List X) (d : X) → left_by leaves state (y ∷ ys) ≡ leaves (get_or (y ∷ ys) (length ys) d)
left_at leaves state y [] d = refl
left_at leaves state y (z ∷ zs) d = left_at leaves (leaves y) z zs d

-- the last item leaves what the next one knows
pub left_by-last : {X S : Type 0} (leaves : X → S) (state : S) (xs : List X) (x : X) → 0 < length xs → x ≡ get_or xs (length xs - 1) x → left_by leaves state xs ≡ leaves x
left_by-last leaves state [] x some is = absurd (omega arith)
left_by-last leaves state (y ∷ ys) x some is =
    let k : length (y ∷ ys) - 1 ≡ length ys = omega arith in
    left_at leaves state y ys x ∙ ap leaves (sym (is ∙ ap (λ (i : ℕ). get_or (y ∷ ys) i x) k))

-- the same where what the items so far leave was kept beside them
pub goes_on_from : {X S : Type 0} (item : S → List ℕ → Result (X × List ℕ) ℕ) (leaves : X → S) (start state : S) (front : List X) (count i : ℕ) (bytes : List ℕ) (x : X) (after : List ℕ) (total : Result (List X × List ℕ) ℕ)
    → state ≡ left_by leaves start front → i < count → item state bytes ≡ Ok (x, after) → so_far item leaves start front (count - i) bytes ≡ total → so_far item leaves start (front ++ x ∷ []) (count - (i + 1)) after ≡ total
goes_on_from item leaves start state front count i bytes x after total is lt h so =
    goes_on item leaves start front count i bytes x after total lt (ap (λ s. item s bytes) (sym is) ∙ h) so

pub ends_from : {X S : Type 0} (item : S → List ℕ → Result (X × List ℕ) ℕ) (leaves : X → S) (start state : S) (e : Broken) (front : List X) (count i : ℕ) (bytes : List ℕ) (total : Result (List X × List ℕ) ℕ)
    → state ≡ left_by leaves start front → i < count → Fails e (item state bytes) → so_far item leaves start front (count - i) bytes ≡ total → Fails e total
ends_from {X} {S} item leaves start state e front count i bytes total is lt h so =
    ends item leaves start e front count i bytes total lt (subst (λ (s : S). Fails e (item s bytes)) is h) so
