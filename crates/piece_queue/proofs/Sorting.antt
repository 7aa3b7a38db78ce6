-- The pieces pieces_of each worker.
use Rattle.std.proofs.Common.{◌≡◌, ◌≢◌, ◌∙◌, ◌⊎◌, ℕ, suc, zero, ◌+◌, ◌-◌, ◌<◌, ◌≤◌, eqb, Bool, true, false, if◌then◌else◌, List, [], ◌∷◌, ◌++◌, length, map, set, sym, refl, ap, subst, inl, inr, ⊎_elim, arith, append-nil, get_or, eq-eqb, ne_eqb}
use Rattle.std.proofs.lemmas.List.{map-set, get_or-map}
use Rattle.std.specs.Global.{Vec}
use Rattle.thread_writer.specs.declared.piece.Piece.{Piece}
use Rattle.piece_queue.specs.Views.{pieces_of, parcels_of, AreBelow}
use Rattle.piece_queue.proofs.Moves.{pieces_append}

none_next : (i n : ℕ) → parcels_of i (suc n) [] ≡ parcels_of i n [] ++ [] ∷ []
none_next i zero = refl
none_next i (suc n) = ap (λ l. [] ∷ l) (none_next (suc i) n)

pub none_more : (n : ℕ) → parcels_of 0 (n + 1) [] ≡ parcels_of 0 n [] ++ [] ∷ []
none_more n = ap (λ k. parcels_of 0 k []) (let e : n + 1 ≡ suc n = omega arith in e) ∙ none_next 0 n

pub many : (i n : ℕ) (xs : List Piece) → length (parcels_of i n xs) ≡ n
many i zero xs = refl
many i (suc n) xs = ap suc (many (suc i) n xs)

pub pieces_same : (w : ℕ) (xs : List Piece) (x : Piece) → x.worker ≡ w → pieces_of w (xs ++ x ∷ []) ≡ pieces_of w xs ++ x ∷ []
pieces_same w xs x is = pieces_append w xs (x ∷ []) ∙ ap (λ (b : Bool). pieces_of w xs ++ (if b then x ∷ [] else [])) (eq-eqb x.worker w is)

pub pieces_other : (w : ℕ) (xs : List Piece) (x : Piece) → x.worker ≢ w → pieces_of w (xs ++ x ∷ []) ≡ pieces_of w xs
pieces_other w xs x ne =
    pieces_append w xs (x ∷ []) ∙ ap (λ (b : Bool). pieces_of w xs ++ (if b then x ∷ [] else [])) (ne_eqb x.worker w ne)
    ∙ append-nil (pieces_of w xs)

-- no parcel from i on is pieces_of a worker below i
pub same_above : (i n : ℕ) (xs : List Piece) (x : Piece) → x.worker < i → parcels_of i n (xs ++ x ∷ []) ≡ parcels_of i n xs
same_above i zero xs x lt = refl
same_above i (suc n) xs x lt =
    ap (λ l. l ∷ parcels_of (suc i) n (xs ++ x ∷ [])) (pieces_other i xs x (λ e. let z : ⊥ = omega (arith, e, lt) in z))
    ∙ ap (λ l. pieces_of i xs ∷ l) (same_above (suc i) n xs x (omega (arith, lt)))

-- a piece more is behind the others pieces_of its worker
pub one_more_in : (k i n : ℕ) (xs : List Piece) (x : Piece) → x.worker ≡ i + k → k < n
    → parcels_of i n (xs ++ x ∷ []) ≡ set (parcels_of i n xs) k (pieces_of x.worker xs ++ x ∷ [])
one_more_in k i zero xs x is lt = absurd (omega (arith, lt))
one_more_in zero i (suc n) xs x is lt =
    let here : x.worker ≡ i = omega (arith, is) in
    ap (λ l. l ∷ parcels_of (suc i) n (xs ++ x ∷ [])) (pieces_same i xs x here ∙ ap (λ w. pieces_of w xs ++ x ∷ []) (sym here))
    ∙ ap (λ l. (pieces_of x.worker xs ++ x ∷ []) ∷ l) (same_above (suc i) n xs x (omega (arith, here)))
one_more_in (suc k) i (suc n) xs x is lt =
    ap (λ l. l ∷ parcels_of (suc i) n (xs ++ x ∷ [])) (pieces_other i xs x (λ e. let z : ⊥ = omega (arith, e, is) in z))
    ∙ ap (λ l. pieces_of i xs ∷ l) (one_more_in k (suc i) n xs x (omega (arith, is)) (omega (arith, lt)))

pub below_at : (n : ℕ) (xs : List Piece) (x : Piece) (ys : List Piece) → AreBelow n (xs ++ x ∷ ys) → x.worker < n
below_at n [] x ys h = h.0
below_at n (y ∷ xs) x ys h = below_at n xs x ys h.1

parcel_at : (k i n : ℕ) (xs d : List Piece) → k < n → get_or (parcels_of i n xs) k d ≡ pieces_of (i + k) xs
parcel_at k i zero xs d lt = absurd (omega (arith, lt))
parcel_at zero i (suc n) xs d lt = ap (λ w. pieces_of w xs) (let e : i ≡ i + 0 = omega arith in e)
parcel_at (suc k) i (suc n) xs d lt =
    parcel_at k (suc i) n xs d (omega (arith, lt)) ∙ ap (λ w. pieces_of w xs) (let e : suc i + k ≡ i + suc k = omega arith in e)

abbrev items : Vec Piece → List Piece
items v = v.items

-- a piece was put behind the others pieces_of its worker
pub puts : (all : List (Vec Piece)) (x : Piece) (now new : Vec Piece) (taken : List Piece) → x.worker < length all
    → get_or all x.worker now ≡ now → new.items ≡ now.items ++ x ∷ []
    → map (λ (v : Vec Piece). v.items) all ≡ parcels_of 0 (length all) taken
    → map (λ (v : Vec Piece). v.items) (set all x.worker new) ≡ parcels_of 0 (length all) (taken ++ x ∷ [])
puts all x now new taken lt is more h =
    let mine : now.items ≡ pieces_of x.worker taken =
    ap items (sym is) ∙ sym (get_or-map items all x.worker now [] lt) ∙ ap (λ l. get_or l x.worker []) h
    ∙ parcel_at x.worker 0 (length all) taken [] lt ∙ ap (λ (w : ℕ). pieces_of w taken) (let e : 0 + x.worker ≡ x.worker = omega arith in e) in
    map-set items all x.worker new
    ∙ ap (λ l. set l x.worker new.items) h
    ∙ ap (set (parcels_of 0 (length all) taken) x.worker) (more ∙ ap (λ l. l ++ x ∷ []) mine)
    ∙ sym (one_more_in x.worker 0 (length all) taken x (omega arith) lt)
