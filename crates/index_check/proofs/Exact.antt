-- A store has one first place that is wrong, and none where each commit is lawful.
use Rattle.std.proofs.Common.{◌≡◌, ◌⊎◌, inl, inr, ◌∙◌, ℕ, ◌+◌, ◌<◌, List, [], ◌∷◌, ◌++◌, get_or, take, Option, Some, Result, Ok, Err, refl, sym, ap, subst, arith}
use Rattle.std.specs.Prelude.{IfErr, IfOk, IsErrAnd, IsSome}
use Rattle.std.specs.List.{AllByRecursion}
use Rattle.std.proofs.lemmas.Bool.{cases_lt}
use Rattle.std.proofs.lemmas.List.{get_or-take}
use Rattle.ix_base.specs.declared.damaged.Damaged.{Damaged}
use Rattle.ix_base.specs.declared.file_name.FileName.{FileName}
use Rattle.ix_base.specs.declared.file_name.FileName.TheVariants.{Commit, Posts}
use Rattle.ix_base.specs.declared.postings.Postings.{Postings}
use Rattle.ix_outside.specs.Files.{Files}
use Rattle.query_core.proofs.Unique.{inversion_unique}
use Rattle.segment_core.specs.LiveRows.{Lived}
use Rattle.segment_core.specs.Segments.{documents, IsInverted}
use Rattle.segment_core.specs.declared.segment.Segment.{Segment}
use Rattle.commit_point.specs.Holds.{AreInverted, HasSegments, head_of}
use Rattle.commit_point.specs.Reading.{reading}
use Rattle.commit_point.proofs.SegmentLaws.{has_reads, one_segments}
use Rattle.commit_point.specs.declared.heads.Head.{Head}
use Rattle.commit_point.specs.declared.heads.HeadSegment.{HeadSegment}
use Rattle.index_check.specs.Difference.{DifferAt, DiffersAt, DiffersIn, HaveOther, HasOther, IsOtherAt, IsTaken, LacksRoom, byte_at, next_id_is, spelled}
use Rattle.index_check.specs.Sound.{AreLawful, AreLawfulBelow, IsDamagedAt, IsLawfulCommit, IsOutside}
use Rattle.index_check.specs.declared.fault.CheckFault.{CheckFault}
use Rattle.index_check.specs.declared.fault.CheckFault.TheVariants as checking
use Rattle.index_check.specs.declared.fault.Difference.{Difference}
use Rattle.index_check.proofs.Walk.{head_there}

abbrev Inverted : Lived → Type 0
Inverted g = IsInverted g.segment

-- ---- a commit that differs is not lawful

in_middle : {A : Type 0} (P : A → Type 0) (front : List A) (x : A) (rest : List A) → AllByRecursion P (front ++ x ∷ rest) → P x
in_middle P [] x rest all = all.0
in_middle P (y ∷ ys) x rest all = in_middle P ys x rest all.1

other_not : (segment : Segment) (d : Difference) → IsOtherAt segment d → IsInverted segment → ⊥
other_not segment d other inverted =
    let same : segment.postings ≡ other.wanted = inversion_unique (documents segment.rows) segment.postings other.wanted inverted other.inversion in
    other.differ.differ (ap (λ (p : Postings). byte_at (spelled segment p) d.at) same)

pub not_lawful : (files : Files) (s : ℕ) (d : Difference) → DiffersAt files s d → IsLawfulCommit files s → ⊥
not_lawful files s d at lawful = by at.which
  where
    same : (lawful.2.holds.holds.segments ≡ at.segments) × (lawful.2.holds.holds.entries ≡ at.entries) × (lawful.0 ≡ at.next)
    same = one_segments files s lawful.0 at.next lawful.2.holds.holds.entries at.entries lawful.2.holds.holds.segments at.segments lawful.2.holds.holds.spelled at.has

    by : LacksRoom s at.next d ⊎ (IsTaken files s at.next d ⊎ HasOther files s at.next at.segments d) → ⊥
    by (inl lacks) = omega (arith, lawful.2.room, same.2, lacks.above)
    by (inr (inl taken)) = omega (arith, lawful.2.above taken.is.number taken.is.entry taken.is.earlier taken.is.listed, taken.is.id, taken.taken, same.2)
    by (inr (inr other)) =
        let all : AreInverted at.segments = subst AreInverted same.0 lawful.2.holds.inverted in
        let split : AreInverted (other.other.before ++ other.other.other ∷ other.other.behind) = subst AreInverted other.other.there all in
        other_not other.other.other.segment d other.other.differs (in_middle Inverted other.other.before other.other.other other.other.behind split)

abbrev is_read : Head × List Lived → Result (Head × List Lived) Damaged
is_read p = Ok p

not_broken : (files : Files) (s next : ℕ) (es : List HeadSegment) (gs : List Lived) (d : Damaged) → HasSegments files s next es gs → reading files s ≡ Err d → ⊥
not_broken files s next es gs d has broken =
    let read : reading files s ≡ is_read (head_of s next has.tail es gs, gs) = has_reads files s next es gs has in
    cc

broken_not : (files : Files) (s : ℕ) (d : Damaged) → IsLawfulCommit files s → reading files s ≡ Err d → ⊥
broken_not files s d lawful broken = not_broken files s lawful.0 lawful.2.holds.holds.entries lawful.2.holds.holds.segments d lawful.2.holds.holds.spelled broken

there_at : (files : Files) (s : ℕ) (d : Difference) → DiffersAt files s d → IsSome (files (Commit s))
there_at files s d at = head_there files s (head_of s at.next at.has.tail at.entries at.segments) at.has.head

-- ---- one difference

equal_places : (c d : Difference) → c.file ≡ d.file → c.at ≡ d.at → c.found ≡ d.found → c.wanted ≡ d.wanted → c ≡ d
equal_places c d file at found wanted = λ i. record { file = file i; at = at i; found = found i; wanted = wanted i }

earlier_differs : (file name : FileName) (found wanted : List ℕ) (c d : Difference) → DifferAt file found wanted c → DifferAt name found wanted d → c.at < d.at → ⊥
earlier_differs file name found wanted c d p q lt =
    let one : get_or (take d.at found) c.at 256 ≡ get_or found c.at 256 = get_or-take d.at found c.at 256 lt in
    let two : get_or (take d.at wanted) c.at 256 ≡ get_or wanted c.at 256 = get_or-take d.at wanted c.at 256 lt in
    let same : get_or (take d.at found) c.at 256 ≡ get_or (take d.at wanted) c.at 256 = ap (λ (xs : List ℕ). get_or xs c.at 256) q.before in
    p.differ (sym one ∙ same ∙ two)

one_place : (file : FileName) (found wanted : List ℕ) (c d : Difference) → DifferAt file found wanted c → DifferAt file found wanted d → c ≡ d
one_place file found wanted c d p q = elim (cases_lt c.at d.at) [
  | inl lt ↦ absurd (earlier_differs file file found wanted c d p q lt)
  | inr ge ↦ elim (cases_lt d.at c.at) [
    | inl more ↦ absurd (earlier_differs file file found wanted d c q p more)
    | inr le ↦
        let at : c.at ≡ d.at = omega (arith, ge, le) in
        equal_places c d (p.file_is ∙ sym q.file_is) at
        (p.found_is ∙ ap (byte_at found) at ∙ sym q.found_is)
        (p.wanted_is ∙ ap (byte_at wanted) at ∙ sym q.wanted_is)
  ]
]

one_other_place : (segment : Segment) (c d : Difference) → IsOtherAt segment c → IsOtherAt segment d → c ≡ d
one_other_place segment c d p q =
    let same : p.wanted ≡ q.wanted = inversion_unique (documents segment.rows) p.wanted q.wanted p.inversion q.inversion in
    one_place (Posts segment.id) (spelled segment segment.postings) (spelled segment q.wanted) c d
    (subst (λ (w : Postings). DifferAt (Posts segment.id) (spelled segment segment.postings) (spelled segment w) c) same p.differ) q.differ

one_first : (fs hs : List Lived) (a b : Lived) (us vs : List Lived) → fs ++ a ∷ us ≡ hs ++ b ∷ vs → AreInverted fs → AreInverted hs → (Inverted a → ⊥) → (Inverted b → ⊥) → a ≡ b
one_first [] [] a b us vs e p q not_a not_b = cc
one_first [] (y ∷ ys) a b us vs e p q not_a not_b = let first : y ≡ a = cc in absurd (not_a (subst Inverted first q.0))
one_first (x ∷ xs) [] a b us vs e p q not_a not_b = let first : x ≡ b = cc in absurd (not_b (subst Inverted first p.0))
one_first (x ∷ xs) (y ∷ ys) a b us vs e p q not_a not_b = let rest : xs ++ a ∷ us ≡ ys ++ b ∷ vs = cc in one_first xs ys a b us vs rest p.1 q.1 not_a not_b

one_have_other : (segments : List Lived) (c d : Difference) → HaveOther Inverted segments c → HaveOther Inverted segments d → c ≡ d
one_have_other segments c d p q =
    let same : p.other ≡ q.other =
    one_first p.before q.before p.other q.other p.behind q.behind (sym p.there ∙ q.there) p.same q.same (other_not p.other.segment c p.differs) (other_not q.other.segment d q.differs) in
    one_other_place q.other.segment c d (subst (λ (g : Lived). IsOtherAt g.segment c) same p.differs) q.differs

one_taken : (files : Files) (s next : ℕ) (c d : Difference) → IsTaken files s next c → IsTaken files s next d → c ≡ d
one_taken files s next c d p q =
    let up = p.is.above q.is.number q.is.entry q.is.earlier q.is.listed in
    let down = q.is.above p.is.number p.is.entry p.is.earlier p.is.listed in
    let same : p.greatest + 1 ≡ q.greatest + 1 = omega (arith, up, down, p.is.id, q.is.id) in
    p.told ∙ ap (next_id_is s next) same ∙ sym q.told

one_at : (files : Files) (s : ℕ) (c d : Difference) → DiffersAt files s c → DiffersAt files s d → c ≡ d
one_at files s c d p q = by p.which there
  where
    same : (q.segments ≡ p.segments) × (q.entries ≡ p.entries) × (q.next ≡ p.next)
    same = one_segments files s q.next p.next q.entries p.entries q.segments p.segments q.has p.has

    there : LacksRoom s p.next d ⊎ (IsTaken files s p.next d ⊎ HasOther files s p.next p.segments d)
    there =
        let moved : LacksRoom s p.next d ⊎ (IsTaken files s p.next d ⊎ HasOther files s p.next q.segments d) =
        subst (λ (n : ℕ). LacksRoom s n d ⊎ (IsTaken files s n d ⊎ HasOther files s n q.segments d)) same.2 q.which in
        subst (λ (gs : List Lived). LacksRoom s p.next d ⊎ (IsTaken files s p.next d ⊎ HasOther files s p.next gs d)) same.0 moved

    by : LacksRoom s p.next c ⊎ (IsTaken files s p.next c ⊎ HasOther files s p.next p.segments c)
        → LacksRoom s p.next d ⊎ (IsTaken files s p.next d ⊎ HasOther files s p.next p.segments d) → c ≡ d
    by (inl a) (inl b) = a.told ∙ sym b.told
    by (inl a) (inr (inl b)) = absurd (omega (arith, a.above, b.room))
    by (inl a) (inr (inr b)) = absurd (omega (arith, a.above, b.room))
    by (inr (inl a)) (inl b) = absurd (omega (arith, b.above, a.room))
    by (inr (inr a)) (inl b) = absurd (omega (arith, b.above, a.room))
    by (inr (inl a)) (inr (inl b)) = one_taken files s p.next c d a b
    by (inr (inl a)) (inr (inr b)) = absurd (omega (arith, b.above a.is.number a.is.entry a.is.earlier a.is.listed, a.is.id, a.taken))
    by (inr (inr a)) (inr (inl b)) = absurd (omega (arith, a.above b.is.number b.is.entry b.is.earlier b.is.listed, b.is.id, b.taken))
    by (inr (inr a)) (inr (inr b)) = one_have_other p.segments c d a.other b.other

-- ---- the first commit that is not lawful

-- of two commits that are not lawful, before which all are, neither is before the other
same_number : (files : Files) (s t : ℕ) → IsSome (files (Commit s)) → IsSome (files (Commit t)) → (IsLawfulCommit files s → ⊥) → (IsLawfulCommit files t → ⊥)
    → AreLawfulBelow files s → AreLawfulBelow files t → s ≡ t
same_number files s t there_s there_t not_s not_t before_s before_t = elim (cases_lt s t) [
  | inl lt ↦ absurd (not_s (before_t s lt there_s))
  | inr ge ↦ elim (cases_lt t s) [
    | inl lt ↦ absurd (not_t (before_s t lt there_t))
    | inr le ↦ omega (arith, ge, le)
  ]
]

one_difference : (files : Files) (c d : Difference) → DiffersIn files c → DiffersIn files d → c ≡ d
one_difference files c d p q =
    let same : q.number ≡ p.number =
    same_number files q.number p.number (there_at files q.number d q.first) (there_at files p.number c p.first) (not_lawful files q.number d q.first) (not_lawful files p.number c p.first) q.before p.before in
    one_at files p.number c d p.first (subst (λ (s : ℕ). DiffersAt files s d) same q.first)

-- what is damaged in a store that tells its files
record Damage (files : Files) (damaged : Damaged) : Type 0 where
  number : ℕ
  broken : reading files number ≡ Err damaged
  there : IsSome (files (Commit number))
  before : AreLawfulBelow files number

damage : (files : Files) (damaged : Damaged) → IsDamagedAt (Some files) damaged → Damage files damaged
damage files damaged p = record {
  number = p.number;
  broken = subst (λ (f : Files). reading f p.number ≡ Err damaged) (sym p.was) p.broken;
  there = p.there files refl;
  before = p.before files refl;
}

one_damage : (files : Files) (c d : Damaged) → Damage files c → Damage files d → c ≡ d
one_damage files c d p q =
    let same : q.number ≡ p.number =
    same_number files q.number p.number q.there p.there (λ l. broken_not files q.number d l q.broken) (λ l. broken_not files p.number c l p.broken) q.before p.before in
    let one : reading files p.number ≡ Err c = p.broken in
    let two : reading files p.number ≡ Err d = subst (λ (s : ℕ). reading files s ≡ Err d) same q.broken in
    cc

not_both : (files : Files) (c : Damaged) (d : Difference) → Damage files c → DiffersIn files d → ⊥
not_both files c d p q =
    let same : q.number ≡ p.number =
    same_number files q.number p.number (there_at files q.number d q.first) p.there (not_lawful files q.number d q.first) (λ l. broken_not files p.number c l p.broken) q.before p.before in
    not_broken files q.number q.first.next q.first.entries q.first.segments c q.first.has (subst (λ (s : ℕ). reading files s ≡ Err c) (sym same) p.broken)

-- ---- what a check returns

-- what a check that returns this has found
pub record Tells {T : Type 0} (files : Files) (r : Result T CheckFault) : Type 0 where
  pub sound : IfOk r (λ _. AreLawful files)
  pub damaged : (d : Damaged) → r ≡ Err (checking.Damaged d) → IsDamagedAt (Some files) d
  pub differs : (d : Difference) → r ≡ Err (checking.Differs d) → DiffersIn files d

pub tells : {T : Type 0} (told : Option Files) (files : Files) (r : Result T CheckFault) → told ≡ Some files → IfOk r (λ _. AreLawful files)
    → ((d : Damaged) → r ≡ Err (checking.Damaged d) → IsDamagedAt told d) → ((d : Difference) → r ≡ Err (checking.Differs d) → DiffersIn files d) → Tells files r
tells told files r is sound damaged differs =
    record { sound = sound; damaged = λ d e. subst (λ (o : Option Files). IsDamagedAt o d) is (damaged d e); differs = differs }

pub whole : {T : Type 0} (files : Files) (r : Result T CheckFault) → Tells files r → AreLawful files → IfErr r IsOutside
whole files (Ok x) tells lawful = tt
whole files (Err checking.Store) tells lawful = inl refl
whole files (Err checking.NoMemory) tells lawful = inr refl
whole files (Err (checking.Damaged d)) tells lawful =
    let p = damage files d (tells.damaged d refl) in
    absurd (broken_not files p.number d (lawful p.number p.there) p.broken)
whole files (Err (checking.Differs d)) tells lawful =
    let p = tells.differs d refl in
    absurd (not_lawful files p.number d p.first (lawful p.number (there_at files p.number d p.first)))

pub broken_told : {T : Type 0} (files : Files) (r : Result T CheckFault) (damaged : Damaged) → Tells files r → IsDamagedAt (Some files) damaged
    → IsErrAnd r (λ fault. (fault ≡ checking.Damaged damaged) ⊎ IsOutside fault)
broken_told files (Ok x) damaged tells at =
    let p = damage files damaged at in
    broken_not files p.number damaged (tells.sound p.number p.there) p.broken
broken_told files (Err checking.Store) damaged tells at = inr (inl refl)
broken_told files (Err checking.NoMemory) damaged tells at = inr (inr refl)
broken_told files (Err (checking.Damaged d)) damaged tells at = inl (ap (λ (x : Damaged). checking.Damaged x) (one_damage files d damaged (damage files d (tells.damaged d refl)) (damage files damaged at)))
broken_told files (Err (checking.Differs d)) damaged tells at = absurd (not_both files damaged d (damage files damaged at) (tells.differs d refl))

pub other_told : {T : Type 0} (files : Files) (r : Result T CheckFault) (difference : Difference) → Tells files r → DiffersIn files difference
    → IsErrAnd r (λ fault. (fault ≡ checking.Differs difference) ⊎ IsOutside fault)
other_told files (Ok x) difference tells in' = not_lawful files in'.number difference in'.first (tells.sound in'.number (there_at files in'.number difference in'.first))
other_told files (Err checking.Store) difference tells in' = inr (inl refl)
other_told files (Err checking.NoMemory) difference tells in' = inr (inr refl)
other_told files (Err (checking.Damaged d)) difference tells in' = absurd (not_both files d difference (damage files d (tells.damaged d refl)) in')
other_told files (Err (checking.Differs d)) difference tells in' = inl (ap (λ (x : Difference). checking.Differs x) (one_difference files d difference (tells.differs d refl) in'))
