-- What is known of segments, as it changes.
use Rattle.std.proofs.Common.{◌≡◌, ◌≢◌, ◌⊎◌, inl, inr, ◌∙◌, ℕ, ◌+◌, ◌<◌, ◌≤◌, Bool, true, false, cond, eqb, List, [], ◌∷◌, ◌++◌, length, get_or, take, Option, Some, None, refl, sym, ap, subst, Ordering, Less, Equal, Greater, arith}
use Rattle.std.specs.Prelude.{Contains, IsSome, is_some}
use Rattle.std.specs.BTreeMap.{BTreeMap, get, is_at}
use Rattle.std.specs.Cmp.{ranks, tied_itself}
use Rattle.std.specs.List.{AllByRecursion}
use Rattle.std.specs.Ordering.{MatchOrdering, is_eq, nat_cmp}
use Rattle.std.proofs.lemmas.Bool.{cases_eq, cases_lt, eq-eqb, eqb-true}
use Rattle.std.proofs.lemmas.Cmp.{nat_cmp_total}
use Rattle.std.proofs.lemmas.List.{get_or_default, take_more}
use Rattle.ix_base.specs.Births.{number_of}
use Rattle.ix_base.specs.declared.document.Row.{Row}
use Rattle.ix_outside.specs.Files.{Files}
use Rattle.commit_point.specs.declared.heads.HeadSegment.{HeadSegment}
use Rattle.index_check.specs.Earlier.{AreOwned}
use Rattle.index_check.specs.Known.{IsKnown, count_of}
use Rattle.index_check.specs.declared.known.Known.{Known}

-- fewer segments are known
pub fewer_known : (files : Files) (s : ℕ) (old new : Known) → IsKnown files s old → ((id n : ℕ) → count_of new id ≡ Some n → count_of old id ≡ Some n) → new.owners ≡ old.owners → IsKnown files s new
fewer_known files s old new known fewer same id n is =
    let was = known id n (fewer id n is) in record {
      number = was.number;
      entry = was.entry;
      segment = was.segment;
      earlier = was.earlier;
      id_is = was.id_is;
      rows_are = was.rows_are;
      has = was.has;
      inverted = was.inverted;
      owned = subst (λ (m : BTreeMap ℕ ℕ). AreOwned (λ (k : ℕ). get nat_cmp m k) id was.segment.segment.rows) (sym same) was.owned;
    }

-- the operation of one number has another owner
abbrev Changed : ℕ → ℕ → (ℕ → Option ℕ) → (ℕ → Option ℕ) → Type 0
Changed number id old new = (other : ℕ) → new other ≡ cond (eqb number other) (Some id) (old other)

by_bool : {A : Type 0} (b : Bool) → (b ≡ true → A) → (b ≡ false → A) → A
by_bool true yes_ no_ = yes_ refl
by_bool false yes_ no_ = no_ refl

owned_at : (number k id : ℕ) (old new : ℕ → Option ℕ) → number ≡ k → Changed number id old new → new k ≡ Some id
owned_at number k id old new is changed = changed k ∙ rw (eq-eqb number k is) refl

-- rows that belong to the segment still do
owned_more : (number id : ℕ) (old new : ℕ → Option ℕ) (rows : List Row) → Changed number id old new → AreOwned old id rows → AreOwned new id rows
owned_more number id old new [] changed owned = tt
owned_more number id old new (r ∷ rs) changed owned = (
  by_bool (eqb number (number_of r.birth)) (λ e. changed (number_of r.birth) ∙ rw e refl) (λ e. changed (number_of r.birth) ∙ rw e owned.0),
  owned_more number id old new rs changed owned.1,
)

pub all_push : {A : Type 0} (P : A → Type 0) (xs : List A) (x : A) → AllByRecursion P xs → P x → AllByRecursion P (xs ++ x ∷ [])
all_push P [] x all p = (p, tt)
all_push P (y ∷ ys) x all p = (all.0, all_push P ys x all.1 p)

-- the operation of one row more belongs to the segment
pub more_owned : (number id : ℕ) (old new : ℕ → Option ℕ) (rows : List Row) (i : ℕ) (r : Row) → i < length rows → r ≡ get_or rows i r → number ≡ number_of r.birth
    → Changed number id old new → AreOwned old id (take i rows) → AreOwned new id (take (i + 1) rows)
more_owned number id old new rows i r lt is number_is changed owned =
    let taken : take (i + 1) rows ≡ take i rows ++ r ∷ [] = take_more rows i r lt ∙ ap (λ (x : Row). take i rows ++ x ∷ []) (sym is) in
    subst (AreOwned new id) (sym taken)
    (all_push (λ (x : Row). new (number_of x.birth) ≡ Some id) (take i rows) r (owned_more number id old new (take i rows) changed owned) (owned_at number (number_of r.birth) id old new number_is changed))

-- operations of other segments that are known stay theirs
pub others_kept : (number id : ℕ) (count first old new : ℕ → Option ℕ) → Changed number id old new → ((other : ℕ) → old number ≡ Some other → id ≢ other → count other ≡ None)
    → ((k other : ℕ) → id ≢ other → IsSome (count other) → first k ≡ Some other → old k ≡ Some other)
    → (k other : ℕ) → id ≢ other → IsSome (count other) → first k ≡ Some other → new k ≡ Some other
others_kept number id count first old new changed free kept k other apart some is =
    let was : old k ≡ Some other = kept k other apart some is in
    by_bool (eqb number k)
    (λ e.
    let same : number ≡ k = eqb-true _ _ e in
    let there : old number ≡ Some other = subst (λ (j : ℕ). old j ≡ Some other) (sym same) was in
    let none : count other ≡ None = free other there apart in
    absurd (let seen : is_some (count other) ≡ false = ap is_some none in cc))
    (λ e. changed k ∙ rw e was)

-- ---- the counts that are kept

itself : (k : ℕ) → is_eq (nat_cmp k k) ≡ true
itself k = ap is_eq (tied_itself nat_cmp_total k)

other_key : (k q : ℕ) → (k ≡ q → ⊥) → is_eq (nat_cmp k q) ≡ false
other_key k q ne = by (nat_cmp k q) (ranks k q)
  where
    by : (o : Ordering) → MatchOrdering o (k < q) (k ≡ q) (q < k) → is_eq o ≡ false
    by Less h = refl
    by Equal h = absurd (ne h)
    by Greater h = refl

-- the map has this count at one id, and the others are as they were
abbrev Puts : ℕ → ℕ → BTreeMap ℕ ℕ → BTreeMap ℕ ℕ → Type 0
Puts id n old new = (q : ℕ) → get nat_cmp new q ≡ cond (is_at (nat_cmp id) q) (Some n) (get nat_cmp old q)

abbrev pub AreFrom : BTreeMap ℕ ℕ → BTreeMap ℕ ℕ → Type 0
AreFrom counts kept = (id rows : ℕ) → get nat_cmp kept id ≡ Some rows → get nat_cmp counts id ≡ Some rows

abbrev pub AreThere : BTreeMap ℕ ℕ → BTreeMap ℕ ℕ → List HeadSegment → ℕ → Type 0
AreThere counts kept es i = (k : ℕ) (d : HeadSegment) → k < i → get nat_cmp kept (get_or es k d).id ≡ get nat_cmp counts (get_or es k d).id

put_at : (id n q : ℕ) (old new : BTreeMap ℕ ℕ) → Puts id n old new → id ≡ q → get nat_cmp new q ≡ Some n
put_at id n q old new puts is = puts q ∙ ap (λ (b : Bool). cond b (Some n) (get nat_cmp old q)) (subst (λ (k : ℕ). is_eq (nat_cmp id k) ≡ true) is (itself id))

put_others : (id n q : ℕ) (old new : BTreeMap ℕ ℕ) → Puts id n old new → (id ≡ q → ⊥) → get nat_cmp new q ≡ get nat_cmp old q
put_others id n q old new puts ne = puts q ∙ ap (λ (b : Bool). cond b (Some n) (get nat_cmp old q)) (other_key id q ne)

-- one count more
pub kept_more : (id n : ℕ) (counts old new : BTreeMap ℕ ℕ) → get nat_cmp counts id ≡ Some n → Puts id n old new → AreFrom counts old → AreFrom counts new
kept_more id n counts old new there puts are q rows is = elim (cases_eq id q) [
  | inl same ↦
      let one : Some n ≡ Some rows = sym (put_at id n q old new puts same) ∙ is in
      subst (λ (k : ℕ). get nat_cmp counts k ≡ Some rows) same (there ∙ one)
  | inr apart ↦ are q rows (sym (put_others id n q old new puts apart) ∙ is)
]

-- the entry that was looked at is the one behind those before it
at_index : (es : List HeadSegment) (i k : ℕ) (d e : HeadSegment) → k < i + 1 → i < length es → e ≡ get_or es i e → (k < i) ⊎ (get_or es k d ≡ e)
at_index es i k d e lt within is = elim (cases_lt k i) [
  | inl less ↦ inl less
  | inr ge ↦
      let same : k ≡ i = omega (arith, lt, ge) in
      inr (ap (λ (j : ℕ). get_or es j d) same ∙ get_or_default es i d e within ∙ sym is)
]

pub there_more : (es : List HeadSegment) (i n : ℕ) (e : HeadSegment) (counts old new : BTreeMap ℕ ℕ) → i < length es → e ≡ get_or es i e → get nat_cmp counts e.id ≡ Some n → Puts e.id n old new
    → AreThere counts old es i → AreThere counts new es (i + 1)
there_more es i n e counts old new within is there puts are k d lt = by_key (cases_eq e.id (get_or es k d).id) (at_index es i k d e lt within is)
  where
    by_key : (e.id ≡ (get_or es k d).id) ⊎ (e.id ≡ (get_or es k d).id → ⊥) → (k < i) ⊎ (get_or es k d ≡ e) → get nat_cmp new (get_or es k d).id ≡ get nat_cmp counts (get_or es k d).id
    by_key (inl same) at = put_at e.id n (get_or es k d).id old new puts same ∙ sym there ∙ ap (get nat_cmp counts) same
    by_key (inr apart) (inl less) = put_others e.id n (get_or es k d).id old new puts apart ∙ are k d less
    by_key (inr apart) (inr here) = absurd (apart (sym (ap (λ (x : HeadSegment). x.id) here)))

none_or : (o : Option ℕ) (n : ℕ) → (o ≡ None) ⊎ ((rows : ℕ) × (o ≡ Some rows))
none_or None n = inl refl
none_or (Some rows) n = inr (rows, refl)

-- an entry that has no count
pub there_none : (es : List HeadSegment) (i : ℕ) (e : HeadSegment) (counts kept : BTreeMap ℕ ℕ) → i < length es → e ≡ get_or es i e → get nat_cmp counts e.id ≡ None → AreFrom counts kept
    → AreThere counts kept es i → AreThere counts kept es (i + 1)
there_none es i e counts kept within is none «from» are k d lt = by (at_index es i k d e lt within is)
  where
    not_there : (get nat_cmp kept e.id ≡ None) ⊎ ((rows : ℕ) × (get nat_cmp kept e.id ≡ Some rows)) → get nat_cmp kept e.id ≡ None
    not_there (inl is') = is'
    not_there (inr some) = absurd (let has : get nat_cmp counts e.id ≡ Some some.0 = «from» e.id some.0 some.1 in cc)

    by : (k < i) ⊎ (get_or es k d ≡ e) → get nat_cmp kept (get_or es k d).id ≡ get nat_cmp counts (get_or es k d).id
    by (inl less) = are k d less
    by (inr here) =
        let both : get nat_cmp kept e.id ≡ get nat_cmp counts e.id = not_there (none_or (get nat_cmp kept e.id) 0) ∙ sym none in
        subst (λ (x : HeadSegment). get nat_cmp kept x.id ≡ get nat_cmp counts x.id) (sym here) both

pub all_there : (es : List HeadSegment) (i : ℕ) (counts kept : BTreeMap ℕ ℕ) → length es ≤ i → AreThere counts kept es i → (e : HeadSegment) → Contains es e → get nat_cmp kept e.id ≡ get nat_cmp counts e.id
all_there es i counts kept le are e has =
    subst (λ (x : HeadSegment). get nat_cmp kept x.id ≡ get nat_cmp counts x.id) has.2 (are has.0 e (omega (arith, has.1, le)))

pub not_some : {T : Type 0} (o : Option T) → ((x : T) → o ≡ Some x → ⊥) → o ≡ None
not_some None never = refl
not_some (Some x) never = absurd (never x refl)
