-- Places copied from rows that have a number to the rows of these numbers.
use Rattle.std.proofs.Common.{◌≡◌, ◌≢◌, ℕ, ◌<◌, Option, Some, None, List, [], ◌∷◌, Bool, true, false, ◌&&◌, ◌||◌, ◌==◌, length, take, get_or, ◌⊎◌, inl, inr, refl, sym, ap, ◌∙◌, subst, arith}
use Rattle.std.specs.List.{list_any}
use Rattle.std.specs.Option.{option_map_or}
use Rattle.std.proofs.lemmas.Bool.{eqb-true, eq-eqb, and_parts, cases_lt}
use Rattle.std.proofs.lemmas.List.{get_or-take, get_or_default, length-take}
use Rattle.std.proofs.lemmas.List.Folds.{Any-from_list_any}
use Rattle.ix_base.specs.Posted.{posted_at}
use Rattle.ix_base.specs.declared.postings.Posting.{Posting}
use Rattle.ix_base.specs.declared.spots.Spot.{Spot}
use Rattle.ix_base.specs.Grouped.{grouped, AreSpots, IsBefore, IsAfter}
use Rattle.ram_postings.specs.Kept.{number_of, NumbersRise, IsBelowNumbers, HasNoNumber}
use Rattle.ix_base.proofs.GroupedLaws.{or_false, is_spot, posted_are}

-- a place whose row has the number r, at the position x
abbrev pub moves : List (Option ℕ) → ℕ → ℕ → Spot → Bool
moves numbers r x s = option_map_or (λ n. n == r) (number_of numbers s.row) false && (s.position == x)

-- the places that were there, and those that came
abbrev pub Moved : List (Option ℕ) → List Spot → List Posting → List Posting → Type 0
Moved numbers spots old new = (r x : ℕ) → posted_at new r x ≡ (posted_at old r x || list_any (moves numbers r x) spots)

numbered : (r : ℕ) (o : Option ℕ) → option_map_or (λ n. n == r) o false ≡ true → o ≡ Some r
numbered r None e = cc
numbered r (Some n) e = ap (λ (k : ℕ). Some k) (eqb-true n r e)

-- ---- a step

or_parts : (a b : Bool) → (a || b) ≡ true → (a ≡ true) ⊎ (b ≡ true)
or_parts true b e = inl refl
or_parts false b e = inr e

-- the next place comes after all that are there
pub moves_after : (numbers : List (Option ℕ)) (spots : List Spot) (i : ℕ) (s : Spot) (row : ℕ) (old now : List Posting)
    → NumbersRise numbers → AreSpots spots → IsBelowNumbers old numbers → i < length spots
    → number_of numbers (get_or spots i s).row ≡ Some row → Moved numbers (take i spots) old now
    → IsAfter row (get_or spots i s).position now
moves_after numbers spots i s row old now rise are below lt has was r x there = go (or_parts (posted_at old r x) (list_any (moves numbers r x) (take i spots)) (sym (was r x) ∙ there))
  where
    e : Spot
    e = get_or spots i s

    from : (f : Spot) → IsBefore f e → number_of numbers f.row ≡ Some r → f.position ≡ x → (r < row) ⊎ ((r ≡ row) × (x < e.position))
    from f (inl l) n p = inl (rise f.row e.row r row n has l)
    from f (inr q) n p =
        let here : number_of numbers f.row ≡ Some row = ap (number_of numbers) q.0 ∙ has in
        let same : r ≡ row = (cc) in
        let less : f.position < e.position = q.1 in
        inr (same, omega arith)

    go : (posted_at old r x ≡ true) ⊎ (list_any (moves numbers r x) (take i spots) ≡ true) → (r < row) ⊎ ((r ≡ row) × (x < e.position))
    go (inl h) = inl (below r x e.row row h has)
    go (inr h) =
        let a = Any-from_list_any (moves numbers r x) (take i spots) h in
        let f : Spot = a.1 in
        let k : ℕ = a.0 in
        let low : k < i = omega (arith, length-take i spots, a.2) in
        let is = and_parts (option_map_or (λ n. n == r) (number_of numbers f.row) false) (f.position == x) a.4 in
        let at : get_or spots k s ≡ f = get_or_default spots k s f (omega arith) ∙ sym (get_or-take i spots k f low) ∙ a.3 in
        from f (subst (λ (g : Spot). IsBefore g e) at (are.rise k i s low lt)) (numbered r (number_of numbers f.row) is.0) (eqb-true f.position x is.1)

-- ---- the end

pub moves_others : (numbers : List (Option ℕ)) (spots : List Spot) (old new : List Posting) → Moved numbers spots old new
    → (r x : ℕ) → HasNoNumber numbers r → posted_at new r x ≡ posted_at old r x
moves_others numbers spots old new was r x free =
    was r x ∙ ap (λ (b : Bool). posted_at old r x || b) (none spots) ∙ sym (or_false (posted_at old r x))
  where
    not : (f : Spot) (b : Bool) → option_map_or (λ n. n == r) (number_of numbers f.row) false ≡ b → (b && (f.position == x)) ≡ false
    not f true e = absurd (free f.row (numbered r (number_of numbers f.row) e))
    not f false e = refl

    none : (fs : List Spot) → list_any (moves numbers r x) fs ≡ false
    none [] = refl
    none (f ∷ fs) = ap (λ (b : Bool). b || list_any (moves numbers r x) fs) (not f (option_map_or (λ n. n == r) (number_of numbers f.row) false) refl) ∙ none fs

pub moves_exact : (numbers : List (Option ℕ)) (spots : List Spot) (old new : List Posting)
    → NumbersRise numbers → IsBelowNumbers old numbers → Moved numbers spots old new
    → (m r x : ℕ) → number_of numbers m ≡ Some r → posted_at new r x ≡ posted_at (grouped spots) m x
moves_exact numbers spots old new rise below was m r x has =
    was r x ∙ ap (λ (b : Bool). b || list_any (moves numbers r x) spots) (fresh (posted_at old r x) refl) ∙ same spots ∙ sym (posted_are [] spots m x)
  where
    fresh : (b : Bool) → posted_at old r x ≡ b → b ≡ false
    fresh true e = let l : r < r = below r x m r e has in absurd (omega arith)
    fresh false e = refl

    falls : r < r → true ≡ false
    falls l = absurd (omega arith)

    apart : (f : Spot) → f.row ≢ m → (b : Bool) → option_map_or (λ n. n == r) (number_of numbers f.row) false ≡ b → b ≡ false
    apart f ne true e =
        let n : number_of numbers f.row ≡ Some r = numbered r (number_of numbers f.row) e in
        elim (cases_lt m f.row) [ inl l ↦ falls (rise m f.row r r has n l) | inr g ↦ elim (cases_lt f.row m) [ inl l ↦ falls (rise f.row m r r n has l) | inr h ↦ absurd (ne (omega arith)) ] ]
    apart f ne false e = refl

    one : (f : Spot) (b : Bool) → (f.row == m) ≡ b → option_map_or (λ n. n == r) (number_of numbers f.row) false ≡ b
    one f true e = ap (λ (n : ℕ). option_map_or (λ n. n == r) (number_of numbers n) false) (eqb-true f.row m e) ∙ ap (λ (o : Option ℕ). option_map_or (λ n. n == r) o false) has ∙ eq-eqb r r refl
    one f false e = apart f (λ q. (let t : true ≡ false = sym (eq-eqb f.row m q) ∙ e in cc)) (option_map_or (λ n. n == r) (number_of numbers f.row) false) refl

    same : (fs : List Spot) → list_any (moves numbers r x) fs ≡ list_any (is_spot m x) fs
    same [] = refl
    same (f ∷ fs) =
        ap (λ (b : Bool). (b && (f.position == x)) || list_any (moves numbers r x) fs) (one f (f.row == m) refl)
        ∙ ap (λ (b : Bool). is_spot m x f || b) (same fs)
