-- What is on the store of the segments that are still there.
use Rattle.std.proofs.Common.{◌≡◌, ◌∙◌, ℕ, ◌+◌, ◌<◌, ◌≤◌, Bool, true, false, cond, List, [], ◌∷◌, ◌++◌, Option, None, drop, get_or, length, refl, sym, ap, subst, arith, append_assoc, length-append, add-one, drop-cons}
use Rattle.std.specs.List.{remove}
use Rattle.segment_core.specs.LiveRows.{Lived}
use Rattle.commit_point.specs.declared.written.Written.{Written}
use Rattle.index_writer.specs.Merging.{is_there, staying}

-- So far, of those that were there before: those that stay, with the rest behind them.
pub record IsLeft (gs : List Lived) (all ids : List ℕ) (olds rest : List (Option Written)) (at : ℕ) (now : List (Option Written)) : Type 0 where
  pub front : List (Option Written)
  pub is : now ≡ front ++ rest
  pub long : length front ≡ at
  pub so_far : front ++ staying gs ids rest ≡ staying gs all olds

pub stays : (gs : List Lived) (all ids : List ℕ) (olds rest : List (Option Written)) (id : ℕ) (w : Option Written) (at : ℕ) (now : List (Option Written))
    → IsLeft gs all (id ∷ ids) olds (w ∷ rest) at now → is_there gs id ≡ true → IsLeft gs all ids olds rest (at + 1) now
stays gs all ids olds rest id w at now so_far there = record {
  front = so_far.front ++ w ∷ [];
  is = so_far.is ∙ sym (append_assoc so_far.front (w ∷ []) rest);
  long = omega (arith, length-append so_far.front (w ∷ []), so_far.long);
  so_far =
      append_assoc so_far.front (w ∷ []) (staying gs ids rest)
      ∙ (ap (λ (b : Bool). so_far.front ++ (cond b (w ∷ []) [] ++ staying gs ids rest)) (sym there) ∙ so_far.so_far);
}

removed : (front : List (Option Written)) (w : Option Written) (rest : List (Option Written)) → remove (front ++ w ∷ rest) (length front) ≡ front ++ rest
removed [] w rest = refl
removed (x ∷ front) w rest = ap (λ (xs : List (Option Written)). x ∷ xs) (removed front w rest)

pub goes : (gs : List Lived) (all ids : List ℕ) (olds rest : List (Option Written)) (id : ℕ) (w : Option Written) (at : ℕ) (now new : List (Option Written))
    → IsLeft gs all (id ∷ ids) olds (w ∷ rest) at now → is_there gs id ≡ false → new ≡ remove now at → IsLeft gs all ids olds rest at new
goes gs all ids olds rest id w at now new so_far there new_is = record {
  front = so_far.front;
  is =
      new_is
      ∙ (ap (λ (xs : List (Option Written)). remove xs at) so_far.is
      ∙ (ap (λ (n : ℕ). remove (so_far.front ++ w ∷ rest) n) (sym so_far.long) ∙ removed so_far.front w rest));
  long = so_far.long;
  so_far = ap (λ (b : Bool). so_far.front ++ (cond b (w ∷ []) [] ++ staying gs ids rest)) (sym there) ∙ so_far.so_far;
}

split : {X : Type 0} (xs : List X) (i : ℕ) (d : X) → i < length xs → drop i xs ≡ get_or xs i d ∷ drop (i + 1) xs
split xs i d lt = rw (add-one, drop-cons xs i d) refl

-- the same at an index
before : (gs : List Lived) (ids : List ℕ) (olds : List (Option Written)) (i at : ℕ) (now : List (Option Written))
    → IsLeft gs ids (drop i ids) olds (drop i olds) at now → i < length ids → length olds ≡ length ids
    → IsLeft gs ids (get_or ids i 0 ∷ drop (i + 1) ids) olds (get_or olds i None ∷ drop (i + 1) olds) at now
before gs ids olds i at now so_far lt same =
    let lt_olds : i < length olds = omega arith in
    subst (λ (ws : List (Option Written)). IsLeft gs ids (get_or ids i 0 ∷ drop (i + 1) ids) olds ws at now) (split olds i None lt_olds)
    (subst (λ (is : List ℕ). IsLeft gs ids is olds (drop i olds) at now) (split ids i 0 lt) so_far)

pub one_stays : (gs : List Lived) (ids : List ℕ) (olds : List (Option Written)) (i at then : ℕ) (now new : List (Option Written))
    → IsLeft gs ids (drop i ids) olds (drop i olds) at now → i < length ids → length olds ≡ length ids
    → is_there gs (get_or ids i 0) ≡ true → then ≡ at + 1 → new ≡ now → IsLeft gs ids (drop (i + 1) ids) olds (drop (i + 1) olds) then new
one_stays gs ids olds i at then now new so_far lt same there then_is new_is =
    subst (λ (n : ℕ). IsLeft gs ids (drop (i + 1) ids) olds (drop (i + 1) olds) n new) (sym then_is)
    (subst (IsLeft gs ids (drop (i + 1) ids) olds (drop (i + 1) olds) (at + 1)) (sym new_is)
    (stays gs ids (drop (i + 1) ids) olds (drop (i + 1) olds) (get_or ids i 0) (get_or olds i None) at now (before gs ids olds i at now so_far lt same) there))

pub one_goes : (gs : List Lived) (ids : List ℕ) (olds : List (Option Written)) (i at then : ℕ) (now new : List (Option Written))
    → IsLeft gs ids (drop i ids) olds (drop i olds) at now → i < length ids → length olds ≡ length ids
    → is_there gs (get_or ids i 0) ≡ false → then ≡ at → new ≡ remove now at → IsLeft gs ids (drop (i + 1) ids) olds (drop (i + 1) olds) then new
one_goes gs ids olds i at then now new so_far lt same there then_is new_is =
    subst (λ (n : ℕ). IsLeft gs ids (drop (i + 1) ids) olds (drop (i + 1) olds) n new) (sym then_is)
    (goes gs ids (drop (i + 1) ids) olds (drop (i + 1) olds) (get_or ids i 0) (get_or olds i None) at now new (before gs ids olds i at now so_far lt same) there new_is)

pub all_stay : (gs : List Lived) (all ids : List ℕ) (olds rest : List (Option Written)) (at : ℕ) (now : List (Option Written)) → IsLeft gs all ids olds rest at now
    → rest ≡ [] → now ≡ staying gs all olds
all_stay gs all ids olds rest at now so_far none = so_far.is ∙ (ap (λ (xs : List (Option Written)). so_far.front ++ xs) none_left ∙ so_far.so_far)
  where
    nothing : (is : List ℕ) → staying gs is [] ≡ []
    nothing [] = refl
    nothing (i ∷ is) = refl

    none_left : rest ≡ staying gs ids rest
    none_left = subst (λ (xs : List (Option Written)). xs ≡ staying gs ids xs) (sym none) (sym (nothing ids))

pub fewer : (gs : List Lived) (ids : List ℕ) (ws : List (Option Written)) → length (staying gs ids ws) ≤ length ws
fewer gs [] ws = omega arith
fewer gs (id ∷ ids) [] = omega arith
fewer gs (id ∷ ids) (w ∷ ws) = by (is_there gs id) (fewer gs ids ws)
  where
    by : (b : Bool) → length (staying gs ids ws) ≤ length ws → length (cond b (w ∷ []) [] ++ staying gs ids ws) ≤ length (w ∷ ws)
    by true more = omega (arith, more)
    by false more = omega (arith, more)
