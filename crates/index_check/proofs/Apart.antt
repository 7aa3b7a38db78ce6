-- No operation has rows in two segments, where each belongs to the one that has its rows.
use Rattle.std.proofs.Common.{◌≡◌, ◌⊎◌, inl, inr, ◌∙◌, ℕ, ◌+◌, ◌<◌, ◌≤◌, false, eqb, List, [], ◌∷◌, Option, Some, map, refl, sym, subst, arith}
use Rattle.std.specs.List.{AllByRecursion}
use Rattle.std.proofs.lemmas.Bool.{eqb-true}
use Rattle.ix_base.specs.Births.{number_of}
use Rattle.ix_base.specs.declared.document.Row.{Row}
use Rattle.ix_outside.specs.Files.{Files}
use Rattle.segment_core.proofs.Numbers.{list_false, one_at_most}
use Rattle.segment_core.specs.Births.{SegmentsApart, by_bool, has_number, lists_at}
use Rattle.segment_core.specs.LiveRows.{Lived}
use Rattle.commit_point.specs.declared.heads.HeadSegment.{HeadSegment}
use Rattle.commit_point.specs.Fits.{IdsRise}
use Rattle.commit_point.specs.Holds.{HaveSegments}
use Rattle.index_check.specs.Earlier.{AreOwned}

-- an operation that has one of the rows belongs to their segment
owner_there : (owner : ℕ → Option ℕ) (id n : ℕ) (rows : List Row) → AreOwned owner id rows → (has_number rows n ≡ false) ⊎ (owner n ≡ Some id)
owner_there owner id n [] owned = inl refl
owner_there owner id n (r ∷ rs) owned = by_bool (eqb (number_of r.birth) n)
    (λ e. let is : number_of r.birth ≡ n = eqb-true _ _ e in inr (subst (λ (x : ℕ). owner x ≡ Some id) is owned.0))
    (λ e. rest e (owner_there owner id n rs owned.1))
  where
    rest : eqb (number_of r.birth) n ≡ false → (has_number rs n ≡ false) ⊎ (owner n ≡ Some id) → (has_number (r ∷ rs) n ≡ false) ⊎ (owner n ≡ Some id)
    rest e (inl none) = inl (rw e none)
    rest e (inr is) = inr is

-- how many segments have rows of an operation, from the one that may have some
abbrev Rows : Lived → List Row
Rows g = g.segment.rows

none_first : (n : ℕ) (g : Lived) (gs : List Lived) → has_number g.segment.rows n ≡ false → lists_at n (map Rows (g ∷ gs)) ≡ lists_at n (map Rows gs)
none_first n g gs e = omega (arith, list_false n g.segment.rows e)

some_first : (n : ℕ) (g : Lived) (gs : List Lived) → lists_at n (map Rows (g ∷ gs)) ≤ 1 + lists_at n (map Rows gs)
some_first n g gs = omega (arith, one_at_most n g.segment.rows)

-- no operation of another segment has rows in these, whose ids are above
none_there : (files : Files) (s low limit id n : ℕ) (owner : ℕ → Option ℕ) (es : List HeadSegment) (gs : List Lived) → id < low → owner n ≡ Some id → IdsRise low limit es → HaveSegments files s es gs
    → AllByRecursion (λ (g : Lived). AreOwned owner g.segment.id g.segment.rows) gs → lists_at n (map Rows gs) ≡ 0
none_there files s low limit id n owner [] [] below is ids have owned = refl
none_there files s low limit id n owner [] (g ∷ gs) below is ids have owned = absurd have
none_there files s low limit id n owner (e ∷ es) [] below is ids have owned = absurd have
none_there files s low limit id n owner (e ∷ es) (g ∷ gs) below is ids have owned =
    by (none_there files s (e.id + 1) limit id n owner es gs (omega (arith, below, ids.0)) is ids.2 have.1 owned.1) (owner_there owner g.segment.id n g.segment.rows owned.0)
  where
    by : lists_at n (map Rows gs) ≡ 0 → (has_number g.segment.rows n ≡ false) ⊎ (owner n ≡ Some g.segment.id) → lists_at n (map Rows (g ∷ gs)) ≡ 0
    by rest (inl none) = none_first n g gs none ∙ rest
    by rest (inr other) =
        let same : id ≡ g.segment.id = (let one : Some id ≡ Some g.segment.id = sym is ∙ other in cc) in
        absurd (omega (arith, same, have.0.id, below, ids.0))

pub segments_apart : (files : Files) (s low limit : ℕ) (owner : ℕ → Option ℕ) (es : List HeadSegment) (gs : List Lived) → IdsRise low limit es → HaveSegments files s es gs
    → AllByRecursion (λ (g : Lived). AreOwned owner g.segment.id g.segment.rows) gs → SegmentsApart gs
segments_apart files s low limit owner [] [] ids have owned n = omega arith
segments_apart files s low limit owner [] (g ∷ gs) ids have owned n = absurd have
segments_apart files s low limit owner (e ∷ es) [] ids have owned n = absurd have
segments_apart files s low limit owner (e ∷ es) (g ∷ gs) ids have owned n =
    by (segments_apart files s (e.id + 1) limit owner es gs ids.2 have.1 owned.1 n) (owner_there owner g.segment.id n g.segment.rows owned.0)
  where
    by : lists_at n (map Rows gs) ≤ 1 → (has_number g.segment.rows n ≡ false) ⊎ (owner n ≡ Some g.segment.id) → lists_at n (map Rows (g ∷ gs)) ≤ 1
    by rest (inl none) = omega (arith, none_first n g gs none, rest)
    by rest (inr is) =
        let others : lists_at n (map Rows gs) ≡ 0 = none_there files s (e.id + 1) limit g.segment.id n owner es gs (omega (arith, have.0.id)) is ids.2 have.1 owned.1 in
        omega (arith, some_first n g gs, others)
