-- The commits of a store, checked one after another.
use Rattle.std.proofs.Common.{◌≡◌, ◌⊎◌, inl, inr, ◌∙◌, ℕ, ◌+◌, ◌<◌, ◌≤◌, List, [], ◌∷◌, ◌++◌, length, get_or, map, take, Option, Some, None, Err, sym, ap, subst, arith}
use Rattle.std.specs.Prelude.{◌↔◌, AllPairs, Contains, IfSome, IsSome, is_some}
use Rattle.std.specs.List.{AllByRecursion}
use Rattle.std.proofs.lemmas.Bool.{cases_lt}
use Rattle.std.proofs.lemmas.List.{get_or_default, map_push, take_all, take_more}
use Rattle.ix_base.specs.declared.damaged.Damaged.{Damaged}
use Rattle.ix_base.specs.declared.file_name.FileName.TheVariants.{Commit}
use Rattle.ix_outside.specs.Files.{Files, Was}
use Rattle.commit_point.specs.Holds.{HasHead, IsAboveIds}
use Rattle.commit_point.specs.Reading.{reading}
use Rattle.commit_point.specs.declared.heads.Head.{Head}
use Rattle.index_check.specs.Earlier.{IsBehindListed}
use Rattle.index_check.specs.Known.{IsBefore, count_of, owner_of}
use Rattle.index_check.specs.Sound.{AreHeads, AreLawful, AreLawfulBelow, IsDamagedAt, IsLawfulCommit}
use Rattle.index_check.specs.declared.earlier.Earlier.{Earlier}
use Rattle.index_check.proofs.Found.{none_known}
use Rattle.index_check.proofs.Owners.{all_push}
use Rattle.index_check.proofs.Passed.{known_later}

-- the numbers of all commits
abbrev pub AreAll : Files → List ℕ → Type 0
AreAll files numbers = (s : ℕ) → Contains numbers s ↔ IsSome (files (Commit s))

pub told_all : (told : Option Files) (numbers seen : List ℕ) → seen ≡ numbers → IfSome told (λ files. AreAll files numbers) → (files : Files) → told ≡ Some files → AreAll files seen
told_all told numbers seen is all files told_is =
    subst (AreAll files) (sym is) (subst (λ (o : Option Files). IfSome o (λ f. AreAll f numbers)) told_is all)

-- The first few numbers are below this one, and the others are not.
pub record Splits (numbers : List ℕ) (i bound : ℕ) : Type 0 where
  pub before : (k : ℕ) → k < i → get_or numbers k 0 < bound
  pub behind : (k : ℕ) → i ≤ k → k < length numbers → bound ≤ get_or numbers k 0

-- the first few commits were found sound, and these are their heads
pub record SoFar (files : Files) (numbers : List ℕ) (i : ℕ) (heads : List Head) (earlier : Earlier) : Type 0 where
  pub bound : ℕ
  pub splits : Splits numbers i bound
  pub known : IsBefore files bound earlier
  pub lawful : AreLawfulBelow files bound
  pub numbers_are : map (λ (head : Head). head.number) heads ≡ take i numbers
  pub each : AllByRecursion (λ (head : Head). HasHead files head.number head) heads

abbrev head_number : Head → ℕ
head_number head = head.number

pub first_before : (files : Files) (earlier : Earlier) → earlier.least_id ≡ 0 → ((id : ℕ) → count_of earlier.known id ≡ None) → IsBefore files 0 earlier
first_before files earlier least none = record {
  ids = record { above = λ t e lt listed. absurd (omega (arith, lt)); reached = inl least };
  segments = none_known files 0 earlier.known none;
}

pub none_yet : (files : Files) (numbers : List ℕ) (heads : List Head) (earlier : Earlier) → heads ≡ [] → IsBefore files 0 earlier → SoFar files numbers 0 heads earlier
none_yet files numbers heads earlier is known = record {
  bound = 0;
  splits = record { before = λ k lt. absurd (omega (arith, lt)); behind = λ k le lt. omega arith };
  known = known;
  lawful = λ t lt there. absurd (omega (arith, lt));
  numbers_are = ap (map head_number) is;
  each = subst (AllByRecursion (λ (head : Head). HasHead files head.number head)) (sym is) tt;
}

-- no commit stands between the first few and the next one
none_between : (files : Files) (numbers : List ℕ) (i bound : ℕ) → AreAll files numbers → AllPairs ◌<◌ numbers → i < length numbers → Splits numbers i bound
    → (t : ℕ) → t < get_or numbers i 0 → IsSome (files (Commit t)) → t < bound
none_between files numbers i bound all rise within splits t lt there =
    let has = (all t).1 there in
    let at_t : get_or numbers has.0 0 ≡ t = get_or_default numbers has.0 0 t has.1 ∙ has.2 in
    elim (cases_lt has.0 i) [
      | inl less ↦ omega (arith, splits.before has.0 less, at_t)
      | inr ge ↦ elim (cases_lt i has.0) [
        | inl more ↦ absurd (omega (arith, rise i has.0 0 more has.1, at_t, lt))
        | inr le ↦
            let same : has.0 ≡ i = omega (arith, ge, le) in
            let equal : get_or numbers has.0 0 ≡ get_or numbers i 0 = ap (λ (k : ℕ). get_or numbers k 0) same in
            absurd (omega (arith, equal, at_t, lt))
      ]
    ]

pub head_there : (files : Files) (s : ℕ) (head : Head) → HasHead files s head → IsSome (files (Commit s))
head_there files s head has = ap is_some has.file

-- what is known of the commits before the next one
pub before_next : (files : Files) (numbers : List ℕ) (i : ℕ) (heads : List Head) (earlier : Earlier) → AreAll files numbers → AllPairs ◌<◌ numbers → i < length numbers
    → SoFar files numbers i heads earlier → IsBefore files (get_or numbers i 0) earlier
before_next files numbers i heads earlier all rise within so_far = record {
  ids = record { above = above; reached = reached so_far.known.ids.reached };
  segments = known_later files so_far.bound (get_or numbers i 0) (count_of earlier.known) (owner_of earlier.known) le so_far.known.segments;
}
  where
    le : so_far.bound ≤ get_or numbers i 0
    le = so_far.splits.behind i (omega arith) within

    above : IsAboveIds files (get_or numbers i 0) earlier.least_id
    above t e lt listed =
        so_far.known.ids.above t e (none_between files numbers i so_far.bound all rise within so_far.splits t lt (head_there files t listed.head listed.has_head)) listed

    reached : (earlier.least_id ≡ 0) ⊎ IsBehindListed files so_far.bound earlier.least_id → (earlier.least_id ≡ 0) ⊎ IsBehindListed files (get_or numbers i 0) earlier.least_id
    reached (inl none) = inl none
    reached (inr some) = inr (record { number = some.number; entry = some.entry; earlier = omega (arith, le, some.earlier); listed = some.listed; id_is = some.id_is })

pub lawful_next : (files : Files) (numbers : List ℕ) (i : ℕ) (heads : List Head) (earlier : Earlier) → AreAll files numbers → AllPairs ◌<◌ numbers → i < length numbers
    → SoFar files numbers i heads earlier → AreLawfulBelow files (get_or numbers i 0)
lawful_next files numbers i heads earlier all rise within so_far t lt there =
    so_far.lawful t (none_between files numbers i so_far.bound all rise within so_far.splits t lt there) there

-- one commit more
pub one_more : (files : Files) (numbers : List ℕ) (i : ℕ) (heads more : List Head) (head : Head) (old new : Earlier) → AreAll files numbers → AllPairs ◌<◌ numbers → i < length numbers
    → SoFar files numbers i heads old → HasHead files (get_or numbers i 0) head → IsLawfulCommit files (get_or numbers i 0) → IsBefore files (get_or numbers i 0 + 1) new → more ≡ heads ++ head ∷ []
    → SoFar files numbers (i + 1) more new
one_more files numbers i heads more head old new all rise within so_far has lawful known is = record {
  bound = get_or numbers i 0 + 1;
  splits = record { before = before; behind = behind };
  known = known;
  lawful = all_lawful;
  numbers_are = ap (map head_number) is ∙ map_push head_number heads head ∙ ap (λ (ns : List ℕ). ns ++ head.number ∷ []) so_far.numbers_are
      ∙ ap (λ (n : ℕ). take i numbers ++ n ∷ []) has.number ∙ sym (take_more numbers i 0 within);
  each = subst (AllByRecursion (λ (h : Head). HasHead files h.number h)) (sym is)
      (all_push (λ (h : Head). HasHead files h.number h) heads head so_far.each (subst (λ (n : ℕ). HasHead files n head) (sym has.number) has));
}
  where
    before : (k : ℕ) → k < i + 1 → get_or numbers k 0 < get_or numbers i 0 + 1
    before k lt = elim (cases_lt k i) [
      | inl less ↦ omega (arith, so_far.splits.before k less, so_far.splits.behind i (omega arith) within)
      | inr ge ↦ let same : k ≡ i = omega (arith, lt, ge) in let equal : get_or numbers k 0 ≡ get_or numbers i 0 = ap (λ (j : ℕ). get_or numbers j 0) same in omega (arith, equal)
    ]

    behind : (k : ℕ) → i + 1 ≤ k → k < length numbers → get_or numbers i 0 + 1 ≤ get_or numbers k 0
    behind k le lt = let less : i < k = omega (arith, le) in omega (arith, rise i k 0 less lt)

    all_lawful : AreLawfulBelow files (get_or numbers i 0 + 1)
    all_lawful t lt there = elim (cases_lt t (get_or numbers i 0)) [
      | inl less ↦ lawful_next files numbers i heads old all rise within so_far t less there
      | inr ge ↦ let same : get_or numbers i 0 ≡ t = omega (arith, lt, ge) in subst (IsLawfulCommit files) same lawful
    ]

-- ---- all of them

pub all_heads : (files : Files) (numbers : List ℕ) (i : ℕ) (heads : List Head) (earlier : Earlier) → AreAll files numbers → AllPairs ◌<◌ numbers → length numbers ≤ i
    → SoFar files numbers i heads earlier → AreHeads files heads
all_heads files numbers i heads earlier all rise le so_far =
    let are : numbers ≡ map head_number heads = sym (so_far.numbers_are ∙ take_all i numbers le) in record {
      rise = subst (AllPairs ◌<◌) are rise;
      all = subst (λ (ns : List ℕ). (s : ℕ) → Contains ns s ↔ IsSome (files (Commit s))) are all;
      each = so_far.each;
    }

pub all_sound : (files : Files) (numbers : List ℕ) (i : ℕ) (heads : List Head) (earlier : Earlier) → AreAll files numbers → length numbers ≤ i → SoFar files numbers i heads earlier → AreLawful files
all_sound files numbers i heads earlier all le so_far s there =
    let has = (all s).1 there in
    let at_s : get_or numbers has.0 0 ≡ s = get_or_default numbers has.0 0 s has.1 ∙ has.2 in
    so_far.lawful s (omega (arith, so_far.splits.before has.0 (omega (arith, has.1, le)), at_s)) there

-- ---- the first that is not sound

pub damaged_first : (told : Option Files) (numbers : List ℕ) (i : ℕ) (d : Damaged) → ((files : Files) → told ≡ Some files → AreAll files numbers) → i < length numbers
    → ((files : Files) → told ≡ Some files → AreLawfulBelow files (get_or numbers i 0))
    → (files : Files) × Was told files × (reading files (get_or numbers i 0) ≡ Err d) → IsDamagedAt told d
damaged_first told numbers i d all within lawful broken = record {
  number = get_or numbers i 0;
  files = broken.0;
  was = broken.1;
  broken = broken.2;
  there = λ files is. (all files is (get_or numbers i 0)).0 (i, within, get_or_default numbers i (get_or numbers i 0) 0 within);
  before = lawful;
}
