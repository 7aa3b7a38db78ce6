-- Three segments whose rows were born in turn.
use Rattle.std.proofs.Common.{◌≡◌, ◌∙◌, ℕ, ◌+◌, ◌*◌, ◌/◌, ◌<◌, ◌≤◌, ◌==◌, false, List, [], ◌∷◌, ◌++◌, length, ◌⊎◌, inl, inr, refl, sym, ap, subst, arith, rules}
use Rattle.std.specs.List.{AllByRecursion}
use Rattle.std.proofs.lemmas.Bool.{cases_lt, eqb-true}
use Rattle.std.proofs.lemmas.List.{length-append}
use Rattle.ix_base.specs.Births.{first_birth, last_birth}
use Rattle.ix_base.specs.declared.document.Row.{Row}
use Rattle.segment_files.specs.Fits.{BirthsRise}
use Rattle.segment_core.specs.Births.{at_most_one, births_append, births_at, by_bool, one_false}
use Rattle.frozen_packet.specs.declared.updates.Updates.{Updates}
use Rattle.segment_core.specs.LiveRows.{IsBuilt, Lived, live}
use Rattle.merge_core_tests.specs.Reading.{AreSources}
use Rattle.merge_core_tests.specs.Sources.{IsBornFrom, IsThird, birth_at}
use Rattle.merge_core_tests.proofs.ReadAll.{fewer_live}

-- ---- births

-- a document behind another is born after it
pub birth_more : (m n : ℕ) → m < n → birth_at m < birth_at n
birth_more m n lt = by (cases_lt ((m + 3) / 4) ((n + 3) / 4))
  where
    by : ((m + 3) / 4 < (n + 3) / 4) ⊎ ((n + 3) / 4 ≤ (m + 3) / 4) → birth_at m < birth_at n
    by (inl less) = omega arith
    by (inr most) = omega arith

pub birth_most : (m n : ℕ) → m ≤ n → birth_at m ≤ birth_at n
birth_most m n le = by (cases_lt m n)
  where
    by : (m < n) ⊎ (n ≤ m) → birth_at m ≤ birth_at n
    by (inl less) = omega (arith, birth_more m n less)
    by (inr most) = let same : m ≡ n = omega arith in omega (arith, ap birth_at same)

-- the first document is born by operation 1
pub birth_from : (n : ℕ) → 1 ≤ n → first_birth 1 ≤ birth_at n
birth_from n le = omega arith

same_document : (m n b : ℕ) → b ≡ birth_at m → b ≡ birth_at n → m ≡ n
same_document m n b x y = by (cases_lt m n) (cases_lt n m)
  where
    by : (m < n) ⊎ (n ≤ m) → (n < m) ⊎ (m ≤ n) → m ≡ n
    by (inl less) g = absurd (omega (arith, x, y, birth_more m n less))
    by (inr most) (inl less) = absurd (omega (arith, x, y, birth_more n m less))
    by (inr most) (inr more) = omega arith

-- ---- rows that are pushed

pub rise_push : (low last limit : ℕ) (rows : List Row) (r : Row) → BirthsRise low last rows → last < r.birth → low ≤ r.birth → r.birth ≤ limit → BirthsRise low limit (rows ++ r ∷ [])
rise_push low last limit [] r rise after from_ to = (from_, to, tt)
rise_push low last limit (x ∷ rows) r rise after from_ to =
    (rise.0, omega (arith, rise.1, after, to), rise_push (x.birth + 1) last limit rows r rise.2 after (omega (arith, rise.1, after)) to)

pub rise_to : (low last limit : ℕ) (rows : List Row) → BirthsRise low last rows → last ≤ limit → BirthsRise low limit rows
rise_to low last limit [] rise to = tt
rise_to low last limit (x ∷ rows) rise to = (rise.0, omega (arith, rise.1, to), rise_to (x.birth + 1) last limit rows rise.2 to)

pub born_push : (first : ℕ) (rows : List Row) (r : Row) → AllByRecursion (IsBornFrom first) rows → IsBornFrom first r → AllByRecursion (IsBornFrom first) (rows ++ r ∷ [])
born_push first [] r born is = (is, tt)
born_push first (x ∷ rows) r born is = (born.0, born_push first rows r born.1 is)

-- ---- births of three segments differ

-- no row has the birth, or it is that of every third document from `first` on
abbrev NoneOr : ℕ → ℕ → List Row → Type 0
NoneOr first b rows = (births_at b rows ≡ 0) ⊎ ((i : ℕ) × (b ≡ birth_at (first + 3 * i)))

none_or : (first b : ℕ) (rows : List Row) → AllByRecursion (IsBornFrom first) rows → NoneOr first b rows
none_or first b [] born = inl refl
none_or first b (r ∷ rows) born =
    by_bool (r.birth == b)
    (λ e. let is : r.birth ≡ b = eqb-true _ _ e in inr (born.0.0, sym is ∙ born.0.1))
    (λ e. rest e (none_or first b rows born.1))
  where
    rest : (r.birth == b) ≡ false → NoneOr first b rows → NoneOr first b (r ∷ rows)
    rest e (inl none) = inl (omega (arith, one_false b r e, none))
    rest e (inr some) = inr some

one_of_three : (b : ℕ) (xs ys zs : List Row) → AllByRecursion (IsBornFrom 1) xs → AllByRecursion (IsBornFrom 2) ys → AllByRecursion (IsBornFrom 3) zs
    → births_at b xs ≤ 1 → births_at b ys ≤ 1 → births_at b zs ≤ 1 → births_at b xs + (births_at b ys + births_at b zs) ≤ 1
one_of_three b xs ys zs p q r one two three = go (none_or 1 b xs p) (none_or 2 b ys q) (none_or 3 b zs r)
  where
    go : NoneOr 1 b xs → NoneOr 2 b ys → NoneOr 3 b zs → births_at b xs + (births_at b ys + births_at b zs) ≤ 1
    go (inl x) (inl y) z = omega (arith, x, y, three)
    go (inl x) (inr y) (inl z) = omega (arith, x, z, two)
    go (inl x) (inr y) (inr z) = absurd (omega (arith, same_document (2 + 3 * y.0) (3 + 3 * z.0) b y.1 z.1))
    go (inr x) (inl y) (inl z) = omega (arith, y, z, one)
    go (inr x) (inr y) z = absurd (omega (arith, same_document (1 + 3 * x.0) (2 + 3 * y.0) b x.1 y.1))
    go (inr x) y (inr z) = absurd (omega (arith, same_document (1 + 3 * x.0) (3 + 3 * z.0) b x.1 z.1))

pub three_sources : (a b c : Lived) → IsThird 1 a → IsThird 2 b → IsThird 3 c → AreSources (a ∷ b ∷ c ∷ [])
three_sources a b c p q r = record {
  rise = search (rules, p.id, q.id, r.id);
  can = record {
    limit = 30000;
    rise = (p.rise, (q.rise, (r.rise, tt)));
    differ = differ;
    ordered = (p.ordered, (q.ordered, (r.ordered, tt)));
    few = omega (
      arith,
      fewer_live a,
      fewer_live b,
      fewer_live c,
      p.few,
      q.few,
      r.few,
      length-append (live a) (live b ++ (live c ++ [])),
      length-append (live b) (live c ++ []),
      length-append (live c) [],
    );
  };
  applied = 40000;
  same = (p.applied, (q.applied, (r.applied, tt)));
}
  where
    differ : (x : ℕ) → births_at x (a.segment.rows ++ (b.segment.rows ++ (c.segment.rows ++ []))) ≤ 1
    differ x =
        let one = at_most_one (first_birth 1) (last_birth 30000) x a.segment.rows p.rise in
        let two = at_most_one (first_birth 1) (last_birth 30000) x b.segment.rows q.rise in
        let three = at_most_one (first_birth 1) (last_birth 30000) x c.segment.rows r.rise in
        omega (
          arith,
          one_of_three x a.segment.rows b.segment.rows c.segment.rows p.born q.born r.born one two three,
          births_append x a.segment.rows (b.segment.rows ++ (c.segment.rows ++ [])),
          births_append x b.segment.rows (c.segment.rows ++ []),
          births_append x c.segment.rows [],
        )

pub third_of : (first : ℕ) (given : List Row) (updates : Updates) (s : Lived) → BirthsRise (first_birth 1) (last_birth 30000) given → AllByRecursion (IsBornFrom first) given
    → length given ≤ 10000 → IsBuilt given updates first 40000 s → IsThird first s
third_of first given updates s rise born few built = record {
  id = built.id;
  ordered = built.inverted.ordered;
  applied = built.applied;
  rise = subst (BirthsRise (first_birth 1) (last_birth 30000)) (sym built.rows) rise;
  born = subst (AllByRecursion (IsBornFrom first)) (sym built.rows) born;
  few = subst (λ (rows : List Row). length rows ≤ 10000) (sym built.rows) few;
}

pub no_sources : (segments : List Lived) → segments ≡ [] → AreSources segments
no_sources segments none = subst AreSources (sym none) (record {
  rise = search rules;
  can = record { limit = 0; rise = tt; differ = λ b. omega arith; ordered = tt; few = omega arith };
  applied = 0;
  same = tt;
})
