-- One name more in a list, or one less, and what that says of the files.
use Rattle.std.proofs.Common.{◌≡◌, ◌≢◌, ◌⊎◌, ℕ, List, [], ◌∷◌, ◌++◌, get_or, filter, not, Bool, true, false, Option, None, refl, sym, ap, subst, ◌∙◌, inl, inr, arith, Contains, is_some, IsSome, Some, ◌↔◌, if◌then◌else◌}
use Rattle.std.proofs.lemmas.List.Elements.{All-contains, All-filter, All-contains_itself, filter_passes, Contains-push, Contains-push_cases, Contains-append_left, Contains-append_right, Contains-append_cases, All-get_or}
use Rattle.std.proofs.lemmas.List.Kept.{AllPairs-filter}
use Rattle.std.proofs.lemmas.List.Quantifiers.{all_pairs_push}
use Rattle.ix_base.specs.declared.file_name.FileName.{FileName}
use Rattle.ix_outside.specs.Files.{Files, Lists}
use Rattle.ix_outside.specs.Disk.{is_same, with_at, moved, files as files_of}
use Rattle.ix_outside.proofs.CrashLaws.{is_same-refl, is_same-true, is_same-apart, moved-apart}
use Rattle.ix_memory.specs.Names.{Gains, Loses, GoesOn}
use Rattle.ix_outside.specs.declared.step.Step.TheVariants.{Wrote, Renamed, Deleted, Spoilt}

-- the names but this one
abbrev pub without : FileName → List FileName → List FileName
without name names = filter (λ other. not (is_same other name)) names

passes : {X : Type 0} (p : X → Bool) (xs : List X) (y : X) → Contains (filter p xs) y → p y ≡ true
passes p xs y has = All-contains (λ x. p x ≡ true) (filter p xs) y (filter_passes p xs) has

stood : {X : Type 0} (p : X → Bool) (xs : List X) (y : X) → Contains (filter p xs) y → Contains xs y
stood p xs y has = All-contains (Contains xs) (filter p xs) y (All-filter p (Contains xs) xs (All-contains_itself xs)) has

none_in : {X : Type 0} (y : X) → Contains [] y → ⊥
none_in y has = omega (arith, has.1)

one_of : {X : Type 0} (x : X) (xs : List X) (y : X) → Contains (x ∷ xs) y → (x ≡ y) ⊎ Contains xs y
one_of x xs y has = elim (Contains-append_cases (x ∷ []) xs y has) [ inl first ↦ elim (Contains-push_cases [] x y first) [ inl none ↦ absurd (none_in y none) | inr e ↦ inl e ] | inr later ↦ inr later ]

one_stays : {X : Type 0} (p : X → Bool) (x : X) (xs : List X) (y : X) → p y ≡ true → (Contains xs y → Contains (filter p xs) y)
    → (b : Bool) → p x ≡ b → (x ≡ y) ⊎ Contains xs y → Contains (if b then x ∷ filter p xs else filter p xs) y
one_stays p x xs y pass go_on true e (inl same) = subst (λ z. Contains (z ∷ filter p xs) y) (sym same) (Contains-append_left (y ∷ []) (filter p xs) y (Contains-push [] y))
one_stays p x xs y pass go_on true e (inr later) = Contains-append_right (x ∷ []) (filter p xs) y (go_on later)
one_stays p x xs y pass go_on false e (inl same) = absurd (differ (sym e ∙ (ap p same ∙ pass)))
  where
    differ : false ≡ true → ⊥
    differ e = cc
one_stays p x xs y pass go_on false e (inr later) = go_on later

-- what passes the test stays
stays_in : {X : Type 0} (p : X → Bool) (xs : List X) (y : X) → Contains xs y → p y ≡ true → Contains (filter p xs) y
stays_in p [] y has pass = has
stays_in p (x ∷ xs) y has pass = one_stays p x xs y pass (λ later. stays_in p xs y later pass) (p x) refl (one_of x xs y has)

apart_of : (other name : FileName) → not (is_same other name) ≡ true → other ≢ name
apart_of other name pass same = differ (sym (ap not found) ∙ pass)
  where
    found : is_same other name ≡ true
    found = subst (λ n. is_same other n ≡ true) same (is_same-refl other)

    differ : false ≡ true → ⊥
    differ e = cc

passes_apart : (other name : FileName) → other ≢ name → not (is_same other name) ≡ true
passes_apart other name apart = ap not (is_same-apart other name apart)

pub loses : (name : FileName) (names : List FileName) → Loses name names (without name names)
loses name names = record {
  each = λ other. (
    (λ has. (stood _ names other has, apart_of other name (passes (λ n. not (is_same n name)) names other has))),
    (λ both. stays_in (λ n. not (is_same n name)) names other both.0 (passes_apart other name both.1)),
  );
  once = λ once. AllPairs-filter ◌≢◌ (λ n. not (is_same n name)) names once;
}

pub gains : (name : FileName) (names : List FileName) → Gains name names (without name names ++ name ∷ [])
gains name names = record {
  each = λ other. ((λ has. forth other (Contains-push_cases (without name names) name other has)), (λ one. back other one));
  once = λ once. all_pairs_push ◌≢◌ (without name names) name (AllPairs-filter ◌≢◌ (λ n. not (is_same n name)) names once)
      (λ k d lt. apart_of (get_or (without name names) k d) name
      (All-get_or (λ n. not (is_same n name) ≡ true) (without name names) k d lt (filter_passes (λ n. not (is_same n name)) names)));
}
  where
    forth : (other : FileName) → Contains (without name names) other ⊎ (name ≡ other) → Contains names other ⊎ (other ≡ name)
    forth other (inl has) = inl (stood (λ n. not (is_same n name)) names other has)
    forth other (inr e) = inr (sym e)

    tell : (other : FileName) (b : Bool) → is_same other name ≡ b → Contains names other → Contains (without name names ++ name ∷ []) other
    tell other true e has = subst (λ n. Contains (without name names ++ name ∷ []) n) (sym (is_same-true other name e)) (Contains-push (without name names) name)
    tell other false e has = Contains-append_left (without name names) (name ∷ []) other (stays_in (λ n. not (is_same n name)) names other has (ap not e))

    back : (other : FileName) → Contains names other ⊎ (other ≡ name) → Contains (without name names ++ name ∷ []) other
    back other (inl has) = tell other (is_same other name) refl has
    back other (inr e) = subst (λ n. Contains (without name names ++ name ∷ []) n) (sym e) (Contains-push (without name names) name)

-- ---- the files that a list names

apart_where : (other name : FileName) → is_same other name ≡ false → other ≢ name
apart_where other name e same = differ (sym e ∙ subst (λ n. is_same other n ≡ true) same (is_same-refl other))
  where
    differ : false ≡ true → ⊥
    differ e = cc

pub lists_gain : (name : FileName) (bytes : Option (List ℕ)) (f : Files) (old new : List FileName) → IsSome bytes → Gains name old new → Lists f old → Lists (with_at name bytes f) new
lists_gain name bytes f old new some gained lists = record {
  each = λ other. tell other (is_same other name) refl;
  once = gained.once lists.once;
}
  where
    pick : (other : FileName) → other ≢ name → Contains old other ⊎ (other ≡ name) → Contains old other
    pick other apart (inl has) = has
    pick other apart (inr e) = absurd (apart e)

    tell : (other : FileName) (b : Bool) → is_same other name ≡ b → Contains new other ↔ IsSome (if b then bytes else f other)
    tell other true e = ((λ has. some), (λ there. (gained.each other).1 (inr (is_same-true other name e))))
    tell other false e = (
      (λ has. (lists.each other).0 (pick other (apart_where other name e) ((gained.each other).0 has))),
      (λ there. (gained.each other).1 (inl ((lists.each other).1 there))),
    )

pub lists_lose : (name : FileName) (bytes : Option (List ℕ)) (f : Files) (old new : List FileName) → bytes ≡ None → Loses name old new → Lists f old → Lists (with_at name bytes f) new
lists_lose name bytes f old new none lost lists = record {
  each = λ other. tell other (is_same other name) refl;
  once = lost.once lists.once;
}
  where
    no_some : IsSome bytes → ⊥
    no_some there = differ (subst (λ (o : Option (List ℕ)). is_some o ≡ true) none there)
      where
        differ : false ≡ true → ⊥
        differ e = cc

    tell : (other : FileName) (b : Bool) → is_same other name ≡ b → Contains new other ↔ IsSome (if b then bytes else f other)
    tell other true e = (
      (λ has. absurd (((lost.each other).0 has).1 (is_same-true other name e))),
      (λ there. absurd (no_some there)),
    )
    tell other false e = (
      (λ has. (lists.each other).0 ((lost.each other).0 has).0),
      (λ there. (lost.each other).1 ((lists.each other).1 there, apart_where other name e)),
    )

none_where : (o : Option (List ℕ)) → ¬ IsSome o → o ≡ None
none_where None not = refl
none_where (Some x) not = absurd (not refl)

-- ---- one call more

pub on_written : (name : FileName) (bytes : List ℕ) (old new : List FileName) → Gains name old new → GoesOn (Wrote name bytes) old new
on_written name bytes old new gained older lists = lists_gain name (Some bytes) (files_of older) old new refl gained lists

pub on_deleted : (name : FileName) (old new : List FileName) → Loses name old new → GoesOn (Deleted name) old new
on_deleted name old new lost older lists = lists_lose name None (files_of older) old new refl lost lists

-- a failed call has left the file with these bytes
pub on_spoilt : (name : FileName) (bytes : List ℕ) (old new : List FileName) → Gains name old new → GoesOn (Spoilt name (Some bytes)) old new
on_spoilt name bytes old new gained older lists = lists_gain name (Some bytes) (files_of older) old new refl gained lists

-- a failed call has left no file
pub on_spoilt_away : (name : FileName) (old new : List FileName) → Loses name old new → GoesOn (Spoilt name None) old new
on_spoilt_away name old new lost older lists = lists_lose name None (files_of older) old new refl lost lists

pub on_same : («from» to : FileName) (names : List FileName) → is_same «from» to ≡ true → GoesOn (Renamed «from» to) names names
on_same «from» to names same older lists = subst (λ f. Lists f names) (sym unmoved) lists
  where
    unmoved : moved «from» to None (files_of older) ≡ files_of older
    unmoved = rw same refl

pub on_renamed : («from» to : FileName) (old mid new : List FileName) → is_same «from» to ≡ false → Contains old «from» → Gains to old mid → Loses «from» mid new → GoesOn (Renamed «from» to) old new
on_renamed «from» to old mid new apart has gained lost older lists =
    subst (λ f. Lists f new) (sym (moved-apart «from» to None (files_of older) (apart_where «from» to apart)))
    (lists_lose «from» None _ mid new refl lost
    (lists_gain to (files_of older «from») (files_of older) old mid ((lists.each «from»).0 has) gained lists))

pub on_absent : («from» to : FileName) (old mid new : List FileName) → is_same «from» to ≡ false → ¬ Contains old «from» → Loses to old mid → Loses «from» mid new → GoesOn (Renamed «from» to) old new
on_absent «from» to old mid new apart not first second older lists =
    subst (λ f. Lists f new) (sym (moved-apart «from» to None (files_of older) (apart_where «from» to apart)))
    (lists_lose «from» None _ mid new refl second
    (lists_lose to (files_of older «from») (files_of older) old mid
    (none_where (files_of older «from») (λ there. not ((lists.each «from»).1 there))) first lists))
