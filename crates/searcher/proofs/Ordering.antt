-- What is found, by birth, is what the rows give that match.
use Rattle.std.proofs.Common.{◌≡◌, ℕ, ◌+◌, ◌≤◌, Bool, true, false, cond, List, [], ◌∷◌, map, refl, sym, ap, subst, ◌∙◌, inl, inr, arith}
use Rattle.std.specs.Prelude.{IsPermutation}
use Rattle.std.specs.List.{filter, sum_by}
use Rattle.std.proofs.lemmas.List.Sorted.{Contains-permutation, IsPermutation-sym, sum_by-IsPermutation}
use Rattle.std.proofs.lemmas.List.Sums.{sum_by-cons}
use Rattle.ix_base.specs.Births.{first_birth, last_birth}
use Rattle.ix_base.specs.Hits.{hits, hit_of, matching}
use Rattle.ix_base.specs.Matches.{matches}
use Rattle.ix_base.specs.Query.{tree_of}
use Rattle.ix_base.specs.declared.document.Hit.{Hit}
use Rattle.ix_base.specs.declared.document.Row.{Row}
use Rattle.ix_base.specs.declared.query.Query.{Query}
use Rattle.segment_core.specs.LiveRows.{Lived, all_live}
use Rattle.segment_files.specs.Fits.{BirthsRise}
use Rattle.searcher.specs.Finding.{AreByBirth, found_of, found_among}
use Rattle.searcher.specs.Searching.{Searches}
use Rattle.searcher.specs.declared.shown.Found.{Found}
use Rattle.searcher.proofs.Order.{Rises, counted, unit, IsIn, in_from, in_to, AreAlike, one_order, climbs_from}

abbrev birth_of : Found → ℕ
birth_of found = found.birth

-- what is found among rows that pass a test
abbrev tested : (Row → Bool) → List Row → List Found
tested test rows = map found_of (filter test rows)

rise_lower : (low high : ℕ) (xs : List Found) → low ≤ high → Rises birth_of high xs → Rises birth_of low xs
rise_lower low high [] le rise = tt
rise_lower low high (x ∷ xs) le rise = (omega (arith, rise.0), rise.1)

rise_tested : (test : Row → Bool) (low s : ℕ) (rows : List Row) → BirthsRise low s rows → Rises birth_of low (tested test rows)
rise_tested test low s [] rise = tt
rise_tested test low s (r ∷ rs) rise = by_test (test r) (rise_tested test (r.birth + 1) s rs rise.2)
  where
    by_test : (b : Bool) → Rises birth_of (r.birth + 1) (tested test rs) → Rises birth_of low (map found_of (cond b (r ∷ filter test rs) (filter test rs)))
    by_test true more = (rise.0, more)
    by_test false more = rise_lower low (r.birth + 1) (tested test rs) (omega (arith, rise.0)) more

-- ---- the same rows give the same

sum_tested : (f : Found → ℕ) (test : Row → Bool) (rows : List Row) → sum_by f (tested test rows) ≡ sum_by (λ row. cond (test row) (f (found_of row)) 0) rows
sum_tested f test [] = refl
sum_tested f test (r ∷ rs) =
    by_test (test r) (sum_tested f test rs) ∙ sym (sum_by-cons (λ row. cond (test row) (f (found_of row)) 0) r rs)
  where
    by_test : (b : Bool) → sum_by f (tested test rs) ≡ sum_by (λ row. cond (test row) (f (found_of row)) 0) rs
        → sum_by f (map found_of (cond b (r ∷ filter test rs) (filter test rs))) ≡ cond b (f (found_of r)) 0 + sum_by (λ row. cond (test row) (f (found_of row)) 0) rs
    by_test true more = sum_by-cons f (found_of r) (tested test rs) ∙ ap (λ (n : ℕ). f (found_of r) + n) more
    by_test false more = omega (arith, more)

in_tested : (test : Row → Bool) (rows : List Row) (row : Row) → IsIn row rows → test row ≡ true → IsIn (found_of row) (tested test rows)
in_tested test [] row h passes = absurd h
in_tested test (r ∷ rs) row (inl e) passes = rw (ap test e ∙ passes) (inl (ap found_of e))
in_tested test (r ∷ rs) row (inr h) passes = by_test (test r) (in_tested test rs row h passes)
  where
    by_test : (b : Bool) → IsIn (found_of row) (tested test rs) → IsIn (found_of row) (map found_of (cond b (r ∷ filter test rs) (filter test rs)))
    by_test true more = inr more
    by_test false more = more

-- a row that gives it
record Gives (test : Row → Bool) (rows : List Row) (z : Found) : Type 0 where
  row : Row
  there : IsIn row rows
  passes : test row ≡ true
  is : found_of row ≡ z

gives_more : (test : Row → Bool) (r : Row) (rs : List Row) (z : Found) → Gives test rs z → Gives test (r ∷ rs) z
gives_more test r rs z g = record { row = g.row; there = inr g.there; passes = g.passes; is = g.is }

of_tested : (test : Row → Bool) (rows : List Row) (z : Found) → IsIn z (tested test rows) → Gives test rows z
of_tested test [] z h = absurd h
of_tested test (r ∷ rs) z h = by_test (λ k. gives_more test r rs z (of_tested test rs z k)) (test r) refl h
  where
    by_test : (IsIn z (tested test rs) → Gives test (r ∷ rs) z) → (b : Bool) → test r ≡ b → IsIn z (map found_of (cond b (r ∷ filter test rs) (filter test rs))) → Gives test (r ∷ rs) z
    by_test more true e (inl is) = record { row = r; there = inl refl; passes = e; is = is }
    by_test more true e (inr k) = more k
    by_test more false e k = more k

tested_alike : (test : Row → Bool) (all rows : List Row) (sorted : List Found) → IsPermutation all rows → IsPermutation (tested test all) sorted
    → AreAlike birth_of (tested test rows) sorted
tested_alike test all rows sorted p q = record { there = there; counts = counts }
  where
    there : (z : Found) → IsIn z sorted → IsIn z (tested test rows)
    there z h =
        let found = in_from (tested test all) z (Contains-permutation sorted (tested test all) z (IsPermutation-sym (tested test all) sorted q) (in_to sorted z h)) in
        let g = of_tested test all z found in
        let row = in_from rows g.row (Contains-permutation all rows g.row p (in_to all g.row g.there)) in
        subst (λ (f : Found). IsIn f (tested test rows)) g.is (in_tested test rows g.row row g.passes)

    counts : (k : ℕ) → counted birth_of k (tested test rows) ≡ counted birth_of k sorted
    counts k =
        sum_tested (λ f. unit k f.birth) test rows
        ∙ sum_by-IsPermutation (λ row. cond (test row) (unit k row.birth) 0) all rows p
        ∙ sym (sum_tested (λ f. unit k f.birth) test all)
        ∙ sym (sum_by-IsPermutation (λ (f : Found). unit k f.birth) (tested test all) sorted q)

-- ---- the hits

hits_of : (rows : List Row) → map (λ (f : Found). f.hit) (map found_of rows) ≡ map hit_of rows
hits_of [] = refl
hits_of (r ∷ rs) = ap (λ (hs : List Hit). hit_of r ∷ hs) (hits_of rs)

-- What was found in the segments, by birth, is what matches among all their rows.
pub hits_by_birth : (query : Query) (segments : List Lived) (rows : List Row) (found : List Hit) → AreByBirth (found_among query (all_live segments)) found → Searches segments rows
    → found ≡ hits query rows
hits_by_birth query segments rows found by searches =
    let test = λ (row : Row). matches (tree_of query) row.doc in
    let climbs = climbs_from birth_of 0 by.sorted (λ d some. omega arith) by.rise in
    let rises = rise_tested test (first_birth 1) (last_birth searches.number) rows searches.rows_are.births in
    let alike = tested_alike test (all_live segments) rows by.sorted searches.rows_are.merged by.merged in
    by.are ∙ ap (map (λ (f : Found). f.hit)) (sym (one_order birth_of (first_birth 1) 0 (tested test rows) by.sorted rises climbs alike)) ∙ hits_of (matching query rows)
