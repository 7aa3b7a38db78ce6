-- The last of entries whose ids rise has the greatest.
use Rattle.std.proofs.Common.{◌≡◌, ◌⊎◌, inl, inr, ◌∙◌, ℕ, zero, suc, ◌+◌, ◌-◌, ◌<◌, ◌≤◌, List, [], ◌∷◌, length, get_or, Some, refl, sym, ap, subst, arith}
use Rattle.std.specs.Prelude.{Contains}
use Rattle.std.specs.List.{slice_get}
use Rattle.std.proofs.lemmas.Bool.{cases_lt}
use Rattle.std.proofs.lemmas.Option.{get_or_from_slice_get, slice_get_within}
use Rattle.commit_point.specs.Fits.{IdsRise}
use Rattle.commit_point.specs.declared.heads.HeadSegment.{HeadSegment}
use Rattle.index_check.specs.Earlier.{IsLeastAbove}

id_from : (low limit : ℕ) (es : List HeadSegment) (k : ℕ) (d : HeadSegment) → IdsRise low limit es → k < length es → low ≤ (get_or es k d).id
id_from low limit [] k d rise lt = absurd (omega (arith, lt))
id_from low limit (e ∷ es) zero d rise lt = rise.0
id_from low limit (e ∷ es) (suc k) d rise lt = omega (arith, rise.0, id_from (e.id + 1) limit es k d rise.2 (omega (arith, lt)))

id_below : (low limit : ℕ) (es : List HeadSegment) (k : ℕ) (d : HeadSegment) → IdsRise low limit es → k < length es → (get_or es k d).id < limit
id_below low limit [] k d rise lt = absurd (omega (arith, lt))
id_below low limit (e ∷ es) zero d rise lt = rise.1
id_below low limit (e ∷ es) (suc k) d rise lt = id_below (e.id + 1) limit es k d rise.2 (omega (arith, lt))

rises : (low limit : ℕ) (es : List HeadSegment) (j k : ℕ) (c d : HeadSegment) → IdsRise low limit es → j < k → k < length es → (get_or es j c).id < (get_or es k d).id
rises low limit [] j k c d rise less lt = absurd (omega (arith, lt))
rises low limit (e ∷ es) j zero c d rise less lt = absurd (omega (arith, less))
rises low limit (e ∷ es) zero (suc k) c d rise less lt = omega (arith, id_from (e.id + 1) limit es k d rise.2 (omega (arith, lt)))
rises low limit (e ∷ es) (suc j) (suc k) c d rise less lt = rises (e.id + 1) limit es j k c d rise.2 (omega (arith, less)) (omega (arith, lt))

pub last_below : (limit : ℕ) (es : List HeadSegment) (k : ℕ) (last : HeadSegment) → IdsRise 1 limit es → slice_get es k ≡ Some last → last.id < limit
last_below limit es k last rise is =
    subst (λ (e : HeadSegment). e.id < limit) (get_or_from_slice_get es k last last is) (id_below 1 limit es k last rise (slice_get_within es k last is))

pub last_greatest : (limit : ℕ) (es : List HeadSegment) (last : HeadSegment) → IdsRise 1 limit es → slice_get es (length es - 1) ≡ Some last → (e : HeadSegment) → Contains es e → e.id ≤ last.id
last_greatest limit es last rise is e has =
    let at : get_or es (length es - 1) last ≡ last = get_or_from_slice_get es (length es - 1) last last is in
    let here : get_or es has.0 e ≡ e = has.2 in
    elim (cases_lt has.0 (length es - 1)) [
      | inl less ↦
          let lt = rises 1 limit es has.0 (length es - 1) e last rise less (slice_get_within es (length es - 1) last is) in
          let ids = ap (λ (x : HeadSegment). x.id) at in
          let own = ap (λ (x : HeadSegment). x.id) here in
          omega (arith, lt, ids, own)
      | inr ge ↦
          let same : has.0 ≡ length es - 1 = omega (arith, ge, has.1) in
          let found : get_or es has.0 last ≡ last = ap (λ (k : ℕ). get_or es k last) same ∙ at in
          let read : slice_get es has.0 ≡ Some last = ap (slice_get es) same ∙ is in
          let own : e ≡ last = sym here ∙ get_or_from_slice_get es has.0 last e read in
          omega (arith, ap (λ (x : HeadSegment). x.id) own)
    ]

pub none_above : (low : ℕ) (es : List HeadSegment) → (length es ≤ 0) → IsLeastAbove low es low
none_above low es none = record { low_is = omega arith; above = λ e has. absurd (omega (arith, has.1, none)); reached = inl refl }

last_there : (es : List HeadSegment) (k : ℕ) (last : HeadSegment) → slice_get es k ≡ Some last → Contains es last
last_there es k last is = (k, slice_get_within es k last is, get_or_from_slice_get es k last last is)

pub least_of : (low limit least : ℕ) (es : List HeadSegment) (last : HeadSegment) → IdsRise 1 limit es → slice_get es (length es - 1) ≡ Some last
    → ((low ≤ last.id + 1) × (least ≡ last.id + 1)) ⊎ ((last.id + 1 ≤ low) × (least ≡ low)) → IsLeastAbove low es least
least_of low limit least es last rise is (inl own) = record {
  low_is = omega (arith, own.0, own.1);
  above = λ e has. omega (arith, last_greatest limit es last rise is e has, own.1);
  reached = inr (last, last_there es (length es - 1) last is, own.1);
}
least_of low limit least es last rise is (inr kept) = record {
  low_is = omega (arith, kept.1);
  above = λ e has. omega (arith, last_greatest limit es last rise is e has, kept.0, kept.1);
  reached = inl kept.1;
}
