-- The numbers of all sources, as far as rows were numbered.
use Rattle.std.proofs.Common.{◌≡◌, ◌≢◌, ◌∙◌, ℕ, zero, suc, ◌+◌, ◌<◌, List, [], ◌∷◌, ◌++◌, Option, Some, None, length, map, take, get_or, set, replicate, ◌⊎◌, inl, inr, refl, sym, ap, subst, arith}
use Rattle.std.specs.Prelude.{All}
use Rattle.std.specs.List.{slice_get}
use Rattle.std.proofs.lemmas.List.{get_or-set_other, get_or-set_same, length-map, length-replicate, length-set}
use Rattle.std.proofs.lemmas.Option.{get_or_from_slice_get, slice_get_within}
use Rattle.ix_base.specs.declared.document.Row.{Row}
use Rattle.segment_core.specs.LiveRows.{Lived}
use Rattle.merge_core.specs.Numbers.{AreAllNumbers, AreApart, AreNoNumbers, AreNumbers, HaveRows}
use Rattle.merge_core.specs.Reading.{row_of}
use Rattle.merge_core.specs.declared.origin.Origin.{Origin}
use Rattle.merge_core.proofs.Finding.{origin_row, row_at_within, there}
use Rattle.merge_core.proofs.NextBirths.{same_or_not}
use Rattle.merge_core.proofs.Numbers.{NumberedUpto, all_numbered, none_numbered, other_source, own_row}

-- the first i rows are numbered in each source
pub record AllUpto (ss : List Lived) (os : List Origin) (i : ℕ) (ns : List (List (Option ℕ))) : Type 0 where
  pub count : length ns ≡ length ss
  pub each : (k : ℕ) (s : Lived) → slice_get ss k ≡ Some s → NumberedUpto k os (length s.segment.rows) i (get_or ns k [])

abbrev nones : Lived → List (Option ℕ)
nones s = replicate (length s.segment.rows) None

at_source : (ss : List Lived) (k : ℕ) (s : Lived) → slice_get ss k ≡ Some s → get_or (map nones ss) k [] ≡ nones s
at_source [] k s e = absurd (cc)
at_source (x ∷ ss) zero s e = let is : x ≡ s = cc in ap nones is
at_source (x ∷ ss) (suc k) s e = at_source ss k s e

suc_nones : (ss : List Lived) (i : ℕ) (s : Lived) → slice_get ss i ≡ Some s → map nones (take (suc i) ss) ≡ map nones (take i ss) ++ nones s ∷ []
suc_nones [] i s e = absurd (cc)
suc_nones (x ∷ ss) zero s e = let is : x ≡ s = cc in ap (λ (y : Lived). nones y ∷ []) is
suc_nones (x ∷ ss) (suc i) s e = ap (λ (l : List (List (Option ℕ))). nones x ∷ l) (suc_nones ss i s e)

-- one more source without numbers
pub nones_more : (ss : List Lived) (i : ℕ) (s : Lived) (old new : List (List (Option ℕ))) → AreNoNumbers (take i ss) old → slice_get ss i ≡ Some s → new ≡ old ++ nones s ∷ []
    → AreNoNumbers (take (i + 1) ss) new
nones_more ss i s old new was e is =
    let next : suc i ≡ i + 1 = omega arith in
    is ∙ ap (λ (l : List (List (Option ℕ))). l ++ nones s ∷ []) was ∙ sym (suc_nones ss i s e) ∙ ap (λ (n : ℕ). map nones (take n ss)) next

pub none_upto : (ss : List Lived) (os : List Origin) (ns : List (List (Option ℕ))) → AreNoNumbers ss ns → AllUpto ss os 0 ns
none_upto ss os ns is = record {
  count = ap length is ∙ length-map ss nones;
  each = λ k s at.
      let own : get_or ns k [] ≡ nones s = ap (λ (l : List (List (Option ℕ))). get_or l k []) is ∙ at_source ss k s at in
      none_numbered k os (length s.segment.rows) (get_or ns k []) own (ap length own ∙ length-replicate (length s.segment.rows) None);
}

-- the row has a place in its source's numbers
pub row_within : (ss : List Lived) (os : List Origin) (i : ℕ) (d : Origin) (ns : List (List (Option ℕ))) → AllUpto ss os i ns → HaveRows ss os → i < length os
    → (get_or os i d).source < length ss → (get_or os i d).row < length (get_or ns (get_or os i d).source [])
row_within ss os i d ns upto rows lt within =
    let k : ℕ = (get_or os i d).source in
    let s = there ss k within in
    let less : (get_or os i d).row < length s.0.segment.rows = rows k s.0 s.1 i d lt refl in
    omega (arith, less, (upto.each k s.0 s.1).long)

-- one more row
pub one_upto : (ss : List Lived) (os : List Origin) (i : ℕ) (d : Origin) (ns new : List (List (Option ℕ))) → AllUpto ss os i ns → AreApart os → HaveRows ss os
    → i < length os → (get_or os i d).source < length ss
    → new ≡ set ns (get_or os i d).source (set (get_or ns (get_or os i d).source []) (get_or os i d).row (Some i)) → AllUpto ss os (i + 1) new
one_upto ss os i d ns new upto apart rows lt within is = record {
  count = ap length is ∙ length-set ns source own ∙ upto.count;
  each = λ k s at. by k s at (same_or_not k source);
}
  where
    source : ℕ
    source = (get_or os i d).source

    own : List (Option ℕ)
    own = set (get_or ns source []) (get_or os i d).row (Some i)

    by : (k : ℕ) (s : Lived) → slice_get ss k ≡ Some s → (k ≡ source) ⊎ (k ≢ source) → NumberedUpto k os (length s.segment.rows) (i + 1) (get_or new k [])
    by k s at (inl e) =
        let inside : source < length ns = omega (arith, upto.count, within) in
        let got : get_or new k [] ≡ set (get_or ns k []) (get_or os i d).row (Some i) =
        ap (λ (l : List (List (Option ℕ))). get_or l k []) is ∙ ap (λ (j : ℕ). get_or (set ns source own) j []) e ∙ get_or-set_same ns source own [] inside
        ∙ ap (λ (j : ℕ). set (get_or ns j []) (get_or os i d).row (Some i)) (sym e) in
        own_row k os (length s.segment.rows) i d (get_or ns k []) (get_or new k []) (upto.each k s at) lt apart (sym e) (rows k s at i d lt (sym e)) got
    by k s at (inr ne) =
        let got : get_or new k [] ≡ get_or ns k [] = ap (λ (l : List (List (Option ℕ))). get_or l k []) is ∙ get_or-set_other ns source k own [] ne in
        subst (NumberedUpto k os (length s.segment.rows) (i + 1)) (sym got)
        (other_source k os (length s.segment.rows) i d (get_or ns k []) (upto.each k s at) lt (λ e. ne (sym e)))

pub all_upto : (ss : List Lived) (os : List Origin) (i : ℕ) (ns : List (List (Option ℕ))) → AllUpto ss os i ns → i ≡ length os → AreAllNumbers os ns
all_upto ss os i ns upto all k n e =
    let s = there ss k (omega (arith, upto.count, slice_get_within ns k n e)) in
    subst (λ (l : List (Option ℕ)). AreNumbers k os l) (get_or_from_slice_get ns k n [] e)
    (all_numbered k os (length s.0.segment.rows) i (get_or ns k []) (upto.each k s.0 s.1) all)

-- ---- origins of rows that are there

pub have_sources : (ss : List Lived) (os : List Origin) (rows : List Row) → map (row_of ss) os ≡ map Some rows → All (λ (o : Origin). o.source < length ss) os
have_sources ss os rows e i d lt =
    let got = origin_row ss os rows i d e lt in
    row_at_within ss (get_or os i d).source (get_or os i d).row got.0 got.1
