-- The latest of rising numbers, and those before them.
use Rattle.std.proofs.Common.{◌≡◌, ◌∙◌, ◌⊎◌, inl, inr, ℕ, zero, suc, ◌+◌, ◌-◌, ◌<◌, ◌≤◌, List, [], ◌∷◌, take, drop, length, get_or, refl, sym, subst, arith}
use Rattle.std.specs.Prelude.{◌↔◌, AllPairs, Contains, IsSome}
use Rattle.std.proofs.lemmas.List.{get_or_default, get_or-take, get_or-drop, length-take, length-drop, take-append-drop}
use Rattle.std.proofs.lemmas.List.Elements.{All-from_recursion, recursion_from_All, All-contains, All-contains_itself, All-weaker, Contains-append_cases, Contains-append_left, Contains-append_right}
use Rattle.std.proofs.lemmas.List.Kept.{AllPairs-cons}
use Rattle.ix_base.specs.declared.file_name.FileName.TheVariants.{Commit}
use Rattle.ix_outside.specs.Files.{Files}
use Rattle.commit_pruning.specs.Choosing.{earlier, latest}
use Rattle.commit_pruning.specs.Pruning.{AreGivenUp, IsGivenUp, Stays}

-- ---- rising numbers

rise_tail : (x : ℕ) (xs : List ℕ) → AllPairs ◌<◌ (x ∷ xs) → AllPairs ◌<◌ xs
rise_tail x xs rise i j d lt inside = rise (suc i) (suc j) d (omega (arith, lt)) (omega (arith, inside))

rise_head : (x : ℕ) (xs : List ℕ) → AllPairs ◌<◌ (x ∷ xs) → (t : ℕ) → Contains xs t → x < t
rise_head x xs rise t c =
    let lt : x < get_or xs c.0 t = rise zero (suc c.0) t (omega arith) (omega (arith, c.1)) in
    subst (λ (n : ℕ). x < n) c.2 lt

rise_take : (n : ℕ) (xs : List ℕ) → AllPairs ◌<◌ xs → AllPairs ◌<◌ (take n xs)
rise_take n xs rise i j d lt inside =
    let long : j < n = omega (arith, length-take n xs, inside) in
    let short : i < n = omega (arith, long, lt) in
    let there : j < length xs = omega (arith, length-take n xs, inside) in
    rw (get_or-take n xs i d short, get_or-take n xs j d long) (rise i j d lt there)

rise_drop : (n : ℕ) (xs : List ℕ) → AllPairs ◌<◌ xs → AllPairs ◌<◌ (drop n xs)
rise_drop n xs rise i j d lt inside =
    rw (get_or-drop n xs i d, get_or-drop n xs j d) (rise (n + i) (n + j) d (omega (arith, lt)) (omega (arith, length-drop n xs, inside)))

member_cons : (x : ℕ) (xs : List ℕ) (t k : ℕ) → k < length (x ∷ xs) → get_or (x ∷ xs) k t ≡ t → (t ≡ x) ⊎ Contains xs t
member_cons x xs t zero lt e = inl (sym e)
member_cons x xs t (suc k) lt e = inr (k, omega (arith, lt), e)

here : (x : ℕ) (xs : List ℕ) → Contains (x ∷ xs) x
here x xs = (zero, omega arith, refl)

next_one : (x : ℕ) (xs : List ℕ) (t : ℕ) → Contains xs t → Contains (x ∷ xs) t
next_one x xs t c = (suc c.0, omega (arith, c.1), c.2)

nobody : (t : ℕ) → ¬ Contains [] t
nobody t c = absurd (omega (arith, c.1))

-- all of these numbers stand in the other list
abbrev AreIn : List ℕ → List ℕ → Type 0
AreIn ys xs = (t : ℕ) → Contains xs t → Contains ys t

within_step : (y : ℕ) (ys : List ℕ) → AllPairs ◌<◌ (y ∷ ys) → ((zs : List ℕ) → AllPairs ◌<◌ zs → AreIn ys zs → length zs ≤ length ys)
    → (xs : List ℕ) → AllPairs ◌<◌ xs → AreIn (y ∷ ys) xs → length xs ≤ length (y ∷ ys)
within_step y ys ry ih [] rx are = omega arith
within_step y ys ry ih (x ∷ xs) rx are = by (let c = are x (here x xs) in member_cons y ys x c.0 c.1 c.2)
  where
    others : (t : ℕ) → y < t → (t ≡ y) ⊎ Contains ys t → Contains ys t
    others t lt (inl same) = absurd (omega (arith, lt, same))
    others t lt (inr more) = more

    found : (t : ℕ) → Contains (y ∷ ys) t → (t ≡ y) ⊎ Contains ys t
    found t c = member_cons y ys t c.0 c.1 c.2

    same_first : x ≡ y → AreIn ys xs
    same_first same t c = others t (omega (arith, same, rise_head x xs rx t c)) (found t (are t (next_one x xs t c)))

    all_later : Contains ys x → AreIn ys (x ∷ xs)
    all_later more t c = others t (low (member_cons x xs t c.0 c.1 c.2)) (found t (are t c))
      where
        low : (t ≡ x) ⊎ Contains xs t → y < t
        low (inl same) = omega (arith, same, rise_head y ys ry x more)
        low (inr further) = omega (arith, rise_head y ys ry x more, rise_head x xs rx t further)

    by : (x ≡ y) ⊎ Contains ys x → length (x ∷ xs) ≤ length (y ∷ ys)
    by (inl same) = omega (arith, ih xs (rise_tail x xs rx) (same_first same))
    by (inr more) = omega (arith, ih (x ∷ xs) rx (all_later more))

-- rising numbers that all stand among others are at most as many
within : (ys : List ℕ) → AllPairs ◌<◌ ys → (xs : List ℕ) → AllPairs ◌<◌ xs → AreIn ys xs → length xs ≤ length ys
within [] ry [] rx are = omega arith
within [] ry (x ∷ xs) rx are = absurd (nobody x (are x (here x xs)))
within (y ∷ ys) ry xs rx are = within_step y ys ry (within ys (rise_tail y ys ry)) xs rx are

-- ---- those before some place, and the others

parts : (m : ℕ) (numbers : List ℕ) (t : ℕ) → Contains numbers t → Contains (take m numbers) t ⊎ Contains (drop m numbers) t
parts m numbers t c = Contains-append_cases (take m numbers) (drop m numbers) t (subst (λ (l : List ℕ). Contains l t) (sym (take-append-drop m numbers)) c)

in_front : (m : ℕ) (numbers : List ℕ) (t : ℕ) → Contains (take m numbers) t → Contains numbers t
in_front m numbers t c = subst (λ (l : List ℕ). Contains l t) (take-append-drop m numbers) (Contains-append_left (take m numbers) (drop m numbers) t c)

in_behind : (m : ℕ) (numbers : List ℕ) (t : ℕ) → Contains (drop m numbers) t → Contains numbers t
in_behind m numbers t c = subst (λ (l : List ℕ). Contains l t) (take-append-drop m numbers) (Contains-append_right (take m numbers) (drop m numbers) t c)

front_before : (m : ℕ) (numbers : List ℕ) → AllPairs ◌<◌ numbers → (t s : ℕ) → Contains (take m numbers) t → Contains (drop m numbers) s → t < s
front_before m numbers rise t s front behind =
    let i = front.0 in
    let k = behind.0 in
    let low : i < m = omega (arith, length-take m numbers, front.1) in
    let high : m + k < length numbers = omega (arith, length-drop m numbers, behind.1) in
    let inside : i < length numbers = omega (arith, length-take m numbers, front.1) in
    let t_is : get_or numbers i 0 ≡ t = get_or_default numbers i 0 t inside ∙ (sym (get_or-take m numbers i t low) ∙ front.2) in
    let s_is : get_or numbers (m + k) 0 ≡ s = get_or_default numbers (m + k) 0 s high ∙ (sym (get_or-drop m numbers k s) ∙ behind.2) in
    omega (arith, rise i (m + k) 0 (omega (arith, low)) high, t_is, s_is)

-- ---- commits

-- the numbers are those of the commits, rising
pub record AreCommits (files : Files) (numbers : List ℕ) : Type 0 where
  pub rise : AllPairs ◌<◌ numbers
  pub each : (s : ℕ) → Contains numbers s ↔ IsSome (files (Commit s))

module _ (keep : ℕ) (files : Files) (numbers : List ℕ) (are : AreCommits files numbers) where
  abbrev before : ℕ
  before = length numbers - keep

  pub earlier_given_up : (s : ℕ) → Contains (earlier keep numbers) s → IsGivenUp keep files s
  earlier_given_up s c = record {
    later = latest keep numbers;
    count = omega (arith, length-drop before numbers, length-take before numbers, c.1);
    rise = AllPairs-cons ◌<◌ s (latest keep numbers)
        (All-weaker (Contains (latest keep numbers)) (λ (t : ℕ). s < t) (λ t behind. front_before before numbers are.rise s t c behind) (latest keep numbers) (All-contains_itself (latest keep numbers)))
        (rise_drop before numbers are.rise);
    there = recursion_from_All (λ (t : ℕ). IsSome (files (Commit t))) (latest keep numbers)
        (All-weaker (Contains (latest keep numbers)) (λ (t : ℕ). IsSome (files (Commit t))) (λ t behind. (are.each t).0 (in_behind before numbers t behind)) (latest keep numbers) (All-contains_itself (latest keep numbers)));
  }

  pub latest_not_given_up : (s : ℕ) → Contains (latest keep numbers) s → ¬ IsGivenUp keep files s
  latest_not_given_up s c given =
      let few : length (s ∷ given.later) ≤ length (latest keep numbers) = within (latest keep numbers) (rise_drop before numbers are.rise) (s ∷ given.later) given.rise behind in
      absurd (omega (arith, few, length-drop before numbers, given.count))
    where
      there : (t : ℕ) → Contains given.later t → Contains numbers t
      there t of = (are.each t).1 (All-contains (λ (u : ℕ). IsSome (files (Commit u))) given.later t (All-from_recursion (λ (u : ℕ). IsSome (files (Commit u))) given.later given.there) of)

      by : (t : ℕ) → s < t → Contains (take before numbers) t ⊎ Contains (drop before numbers) t → Contains (latest keep numbers) t
      by t lt (inl front) = absurd (omega (arith, lt, front_before before numbers are.rise t s front c))
      by t lt (inr more) = more

      at : (t : ℕ) → (t ≡ s) ⊎ Contains given.later t → Contains (latest keep numbers) t
      at t (inl same) = subst (Contains (latest keep numbers)) (sym same) c
      at t (inr of) = by t (rise_head s given.later given.rise t of) (parts before numbers t (there t of))

      behind : AreIn (latest keep numbers) (s ∷ given.later)
      behind t of = at t (member_cons s given.later t of.0 of.1 of.2)

  pub latest_stays : (s : ℕ) → Contains (latest keep numbers) s → Stays keep files s
  latest_stays s c = record { there = (are.each s).0 (in_behind before numbers s c); not_given_up = latest_not_given_up s c }

  pub is_latest : (s : ℕ) → IsSome (files (Commit s)) → ¬ Contains (earlier keep numbers) s → Contains (latest keep numbers) s
  is_latest s there not_earlier = by (parts before numbers s ((are.each s).1 there))
    where
      by : Contains (take before numbers) s ⊎ Contains (drop before numbers) s → Contains (latest keep numbers) s
      by (inl front) = absurd (not_earlier front)
      by (inr more) = more

  pub is_earlier : (s : ℕ) → IsSome (files (Commit s)) → IsGivenUp keep files s → Contains (earlier keep numbers) s
  is_earlier s there given = by (parts before numbers s ((are.each s).1 there))
    where
      by : Contains (take before numbers) s ⊎ Contains (drop before numbers) s → Contains (earlier keep numbers) s
      by (inl front) = front
      by (inr more) = absurd (latest_not_given_up s more given)

  pub earlier_is_there : (s : ℕ) → Contains (earlier keep numbers) s → IsSome (files (Commit s))
  earlier_is_there s c = (are.each s).0 (in_front before numbers s c)

  pub are_given_up : AreGivenUp keep files (earlier keep numbers)
  are_given_up = record {
    rise = rise_take before numbers are.rise;
    each = λ s. ((λ c. (earlier_is_there s c, earlier_given_up s c)), (λ both. is_earlier s both.0 both.1));
  }
