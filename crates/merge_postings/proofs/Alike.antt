-- Entries that have the field of the one before them.
use Rattle.std.proofs.Common.{◌≡◌, ◌≢◌, ◌∙◌, ℕ, zero, suc, ◌-◌, ◌<◌, ◌≤◌, List, [], ◌∷◌, Some, length, take, get_or, ◌⊎◌, inl, inr, refl, sym, ap, subst, arith}
use Rattle.std.specs.Cmp.Lexicographic.{slice_cmp}
use Rattle.std.specs.List.{AllByRecursion, slice_get}
use Rattle.std.specs.Ordering.{nat_cmp, ordering_reverse}
use Rattle.std.specs.declared.cmp.Ordering.{Ordering}
use Rattle.std.specs.declared.cmp.Ordering.TheVariants.{Less, Equal, Greater}
use Rattle.std.proofs.lemmas.Bool.{cases_lt}
use Rattle.std.proofs.lemmas.List.{get_or_default}
use Rattle.std.proofs.lemmas.Cmp.{nat_list_cmp_total}
use Rattle.ix_base.specs.Inversion.{IsPostings}
use Rattle.ix_base.specs.declared.document.Term.{Term}
use Rattle.ix_base.specs.declared.postings.TermPostings.{TermPostings}
use Rattle.ix_base.proofs.TermOrder.{text_same}
use Rattle.merge_postings.specs.Keys.{IsHighest, KeysTerm}
use Rattle.merge_postings.specs.Walk.{AreAlike, IsBelow, IsLater}
use Rattle.merge_postings.specs.declared.key.Key.{Key}
use Rattle.merge_postings.proofs.Queued.{above_not_below}
use Rattle.merge_postings.proofs.TermKeys.{behind, field_from}

-- the first term's field isn't behind the second one's
not_behind : (a b : TermPostings) → IsBelow a.term b.term → slice_cmp nat_cmp b.term.field a.term.field ≢ Less
not_behind a b low = field_from b.term a.term (above_not_below a.term b.term low)

-- a text between two that are one
between : (xs ys zs : List ℕ) → slice_cmp nat_cmp ys xs ≢ Less → slice_cmp nat_cmp zs ys ≢ Less → zs ≡ xs → ys ≡ xs
between xs ys zs p q same = go (slice_cmp nat_cmp ys xs) refl
  where
    go : (o : Ordering) → slice_cmp nat_cmp ys xs ≡ o → ys ≡ xs
    go Less e = absurd (p e)
    go Equal e = text_same ys xs e
    go Greater e =
        let less : slice_cmp nat_cmp xs ys ≡ Less = nat_list_cmp_total.antisymm xs ys ∙ ap ordering_reverse e in
        absurd (q (subst (λ (l : List ℕ). slice_cmp nat_cmp l ys ≡ Less) (sym same) less))

all_take : (P : TermPostings → Type 0) (es : List TermPostings) (n : ℕ) → ((k : ℕ) (d : TermPostings) → k < n → k < length es → P (get_or es k d)) → AllByRecursion P (take n es)
all_take P es zero h = tt
all_take P [] (suc n) h = tt
all_take P (e ∷ es) (suc n) h = (h 0 e (omega arith) (omega arith), all_take P es n (λ k d a b. h (suc k) d (omega arith) (omega arith)))

-- where an entry further on has the field of the first one, all up to it do
pub alike_upto : (first : TermPostings) (rest : List TermPostings) (far : ℕ) (at : TermPostings) → IsPostings (first ∷ rest) → 0 < far → far ≤ length rest
    → at ≡ get_or rest (far - 1) at → at.term.field ≡ first.term.field → AreAlike far first rest
alike_upto first rest far at h some within is same = (within, all_take (λ (e : TermPostings). e.term.field ≡ first.term.field) rest far each)
  where
    last : ℕ
    last = far - 1

    each : (k : ℕ) (d : TermPostings) → k < far → k < length rest → (get_or rest k d).term.field ≡ first.term.field
    each k d lt in' = go (cases_lt k last)
      where
        end : (e : TermPostings) → get_or rest last e ≡ at
        end e = get_or_default rest last e at (omega arith) ∙ sym is

        go : (k < last) ⊎ (last ≤ k) → (get_or rest k d).term.field ≡ first.term.field
        go (inl l) = between first.term.field (get_or rest k d).term.field at.term.field
            (not_behind first (get_or rest k d) (h.rise 0 (suc k) d (omega arith) (omega arith)))
            (subst (λ (e : TermPostings). slice_cmp nat_cmp e.term.field (get_or rest k d).term.field ≢ Less) (end d)
            (not_behind (get_or rest k d) (get_or rest last d) (h.rise (suc k) (suc last) d (omega arith) (omega arith))))
            same
        go (inr g) = let e : k ≡ last = omega arith in ap (λ (i : ℕ). (get_or rest i d).term.field) e ∙ ap (λ (p : TermPostings). p.term.field) (end d) ∙ same

same_all : (fields : List ℕ) (other : List ℕ) (es : List TermPostings) → other ≡ fields → AllByRecursion (λ (e : TermPostings). e.term.field ≡ fields) es → AllByRecursion (λ (e : TermPostings). e.term.field ≡ other) es
same_all fields other [] same all = tt
same_all fields other (e ∷ es) same all = (all.0 ∙ sym same, same_all fields other es same all.1)

-- what is known behind the next entry
pub alike_next : (count : ℕ) (first e : TermPostings) (es : List TermPostings) → AreAlike count first (e ∷ es) → AreAlike (count - 1) e es
alike_next zero first e es h = (omega arith, tt)
alike_next (suc n) first e es h =
    let less : n ≡ suc n - 1 = omega arith in
    subst (λ (k : ℕ). AreAlike k e es) less (omega (arith, h.0), same_all first.term.field e.term.field (take n es) h.1.0 h.1.1)

next_alike : (count : ℕ) (first e : TermPostings) (es : List TermPostings) → AreAlike count first (e ∷ es) → 0 < count → e.term.field ≡ first.term.field
next_alike zero first e es h some = absurd (omega arith)
next_alike (suc n) first e es h some = h.1.0

-- the key of a term whose field is behind the last one's
later_key : (field : List ℕ) (k m : Key) (a b : TermPostings) → IsHighest m → IsBelow a.term b.term → b.term.field ≢ a.term.field → KeysTerm field k a.term → KeysTerm field m b.term
later_key field k m a b top low other (inl p) =
    inr (top, subst (λ (f : List ℕ). slice_cmp nat_cmp f b.term.field ≡ Less) p.0 (behind b.term.field a.term.field (not_behind a b low) other))
later_key field k m a b top low other (inr q) =
    inr (top, nat_list_cmp_total.trans field a.term.field b.term.field q.1 (behind b.term.field a.term.field (not_behind a b low) other))

-- the key of the next term
pub key_passed : (field : List ℕ) (k m : Key) (known : ℕ) (a b : TermPostings) (es : List TermPostings) → IsBelow a.term b.term → AreAlike known a (b ∷ es)
    → (known ≡ 0 → IsLater a (b ∷ es))
    → (0 < known → (f : List ℕ) (other : Term) → KeysTerm f k other → other.field ≡ b.term.field → KeysTerm f m b.term)
    → (known ≡ 0 → IsHighest m) → KeysTerm field k a.term → KeysTerm field m b.term
key_passed field k m zero a b es low alike later same top h = later_key field k m a b (top refl) low (later refl b refl) h
key_passed field k m (suc n) a b es low alike later same top h =
    same (omega arith) field a.term h (sym (next_alike (suc n) a b es alike (omega arith)))

-- the next entry is the one that was looked at
pub none_alike : (first : TermPostings) (rest : List TermPostings) (count : ℕ) (at e : TermPostings) → count ≡ 1 → at ≡ get_or rest (count - 1) at → slice_get rest 0 ≡ Some e
    → e.term.field ≡ first.term.field → (at.term.field ≡ first.term.field → ⊥) → ⊥
none_alike first [] count at e one is got same not = cc
none_alike first (d ∷ ds) count at e one is got same not =
    let zero' : count - 1 ≡ 0 = omega (arith, one) in
    let here : at ≡ d = is ∙ ap (λ (i : ℕ). get_or (d ∷ ds) i at) zero' in
    let next : d ≡ e = cc in
    not (ap (λ (p : TermPostings). p.term.field) (here ∙ next) ∙ same)
