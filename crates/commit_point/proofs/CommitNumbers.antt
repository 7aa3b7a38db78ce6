-- The commits in a list of names.
use Rattle.std.proofs.Common.{◌≡◌, ℕ, zero, suc, ◌<◌, Bool, true, false, List, [], ◌∷◌, length, get_or, Option, Some, None, refl, sym, ap, subst, ◌∙◌, arith}
use Rattle.std.specs.Prelude.{◌↔◌, All, AllPairs, Contains, IfSome, IsSome}
use Rattle.std.specs.BTreeSet.{BTreeSet, contains}
use Rattle.std.specs.List.{list_any}
use Rattle.std.specs.List.Sorted.{IsStrictlySortedBy}
use Rattle.std.specs.Ordering.{nat_cmp}
use Rattle.std.proofs.lemmas.Bool.{eqb-true, eq-eqb, or_right}
use Rattle.std.proofs.lemmas.Cmp.{nat_cmp_total}
use Rattle.std.proofs.lemmas.Map.Keys.{below_from_sorted}
use Rattle.std.proofs.lemmas.Map.Lookups.{exact_unsigned}
use Rattle.std.proofs.lemmas.Map.Views.{btree_set_contains_iff}
use Rattle.ix_base.specs.FileNames.{IsFileName, IsCounted}
use Rattle.ix_base.specs.declared.file_name.FileName.{FileName}
use Rattle.ix_base.specs.declared.file_name.FileName.TheVariants.{Commit}
use Rattle.ix_outside.specs.Files.{Files, Lists}
use Rattle.commit_point.specs.Loading.{names_commit}

by_bool : {A : Type 0} (b : Bool) → (b ≡ true → A) → (b ≡ false → A) → A
by_bool true yes_ no_ = yes_ refl
by_bool false yes_ no_ = no_ refl

commit_is : (s : ℕ) (name : FileName) → names_commit s name ≡ true → name ≡ Commit s
commit_is s (Commit t) e = ap Commit (sym (eqb-true _ _ e))
commit_is s name e = absurd cc

any_commit : (s : ℕ) (names : List FileName) → list_any (names_commit s) names ≡ true → Contains names (Commit s)
any_commit s [] e = absurd cc
any_commit s (n ∷ ns) e =
    by_bool (names_commit s n) (λ h. (0, omega arith, commit_is s n h)) (λ h. let rest : list_any (names_commit s) ns ≡ true = rw h at e in let c = any_commit s ns rest in (suc c.0, omega (arith, c.1), c.2))

commit_any : (s : ℕ) (names : List FileName) (k : ℕ) → k < length names → get_or names k (Commit s) ≡ Commit s → list_any (names_commit s) names ≡ true
commit_any s [] k lt e = absurd (omega arith)
commit_any s (n ∷ ns) zero lt e =
    let here : names_commit s n ≡ true = ap (names_commit s) e ∙ eq-eqb s s refl in rw here refl
commit_any s (n ∷ ns) (suc k) lt e = or_right (names_commit s n) (list_any (names_commit s) ns) (commit_any s ns k (omega arith) e)

pub among : (numbers : BTreeSet ℕ) (items : List ℕ) (names : List FileName) → items ≡ numbers.keys → ((s : ℕ) → contains nat_cmp numbers s ≡ list_any (names_commit s) names) → (s : ℕ) → Contains items s ↔ Contains names (Commit s)
among numbers items names is same s =
    let iff = btree_set_contains_iff nat_cmp_total exact_unsigned numbers s in (
      (λ c. any_commit s names (sym (same s) ∙ iff.1 (subst (λ (xs : List ℕ). Contains xs s) is c))),
      (λ c. subst (λ (xs : List ℕ). Contains xs s) (sym is) (iff.0 (same s ∙ commit_any s names c.0 c.1 c.2))),
    )

pub rise : (keys items : List ℕ) → items ≡ keys → IsStrictlySortedBy nat_cmp keys → AllPairs ◌<◌ items
rise keys items is sorted = subst (AllPairs ◌<◌) (sym is) (λ i j d lt below. below_from_sorted keys i j d sorted lt below)

pub listed : (told : Option Files) (names seen : List FileName) (numbers : List ℕ) → seen ≡ names → IfSome told (λ here. Lists here names) → ((s : ℕ) → Contains numbers s ↔ Contains seen (Commit s))
    → IfSome told (λ files. (s : ℕ) → Contains numbers s ↔ IsSome (files (Commit s)))
listed None names seen numbers is lists same = tt
listed (Some files) names seen numbers is lists same = λ s. (
  (λ c. (lists.each (Commit s)).0 (subst (λ (xs : List FileName). Contains xs (Commit s)) is ((same s).0 c))),
  (λ c. (same s).1 (subst (λ (xs : List FileName). Contains xs (Commit s)) (sym is) ((lists.each (Commit s)).1 c))),
)

pub counted : (names seen : List FileName) (numbers : List ℕ) → seen ≡ names → All IsFileName names → ((s : ℕ) → Contains numbers s ↔ Contains seen (Commit s)) → (s : ℕ) → Contains numbers s → IsCounted s
counted names seen numbers is real same s c =
    let there : Contains names (Commit s) = subst (λ (xs : List FileName). Contains xs (Commit s)) is ((same s).0 c) in
    subst IsFileName there.2 (real there.0 (Commit s) there.1)
