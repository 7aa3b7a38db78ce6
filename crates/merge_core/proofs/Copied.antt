-- Rows that are copied and counted, step by step.
use Rattle.std.proofs.Common.{◌≡◌, ◌∙◌, ℕ, zero, suc, ◌+◌, ◌-◌, ◌<◌, ◌≤◌, List, [], ◌∷◌, ◌++◌, Some, length, map, take, get_or, ◌⊎◌, inl, inr, refl, sym, ap, subst, arith}
use Rattle.std.specs.List.{slice_get}
use Rattle.std.proofs.lemmas.List.{length-append, length_push, map-append, map_more}
use Rattle.ix_base.specs.declared.document.Row.{Row}
use Rattle.segment_core.specs.LiveRows.{Lived, stored_rows}
use Rattle.merge_postings.specs.Steps.{IsMergedUpto}
use Rattle.merge_postings.specs.declared.partly.PartlyMerged.{PartlyMerged}
use Rattle.merge_core.specs.Merging.{row_count}
use Rattle.merge_core.specs.Numbers.{movings}
use Rattle.merge_core.specs.Reading.{Counts, HasRead, HasReadWithin, IsCopied, IsStep, row_of}
use Rattle.merge_core.specs.declared.merge.Merge.{Merge}
use Rattle.merge_core.specs.declared.merge.Step.{Step}
use Rattle.merge_core.specs.declared.merge.Step.TheVariants.{More, Ready}
use Rattle.merge_core.specs.declared.origin.Origin.{Origin}
use Rattle.merge_core.proofs.Finishing.{lengths}

-- ---- copies

pub copied_more : (ss : List Lived) (os : List Origin) (rows new : List Row) (d : Origin) (r : Row) → IsCopied ss os rows → length rows < length os → row_of ss (get_or os (length rows) d) ≡ Some r
    → new ≡ rows ++ r ∷ [] → IsCopied ss os new
copied_more ss os rows new d r was lt is added = subst (IsCopied ss os) (sym added)
    (map-append Some rows (r ∷ [])
    ∙ ((λ i. was i ++ sym is i ∷ [])
    ∙ (sym (map_more (row_of ss) os (length rows) d lt) ∙ ap (λ (n : ℕ). map (row_of ss) (take n os)) (sym (length_push rows r)))))

pub none_copied : (ss : List Lived) (os : List Origin) (rows : List Row) → rows ≡ [] → IsCopied ss os rows
none_copied ss os rows is = subst (IsCopied ss os) (sym is) refl

some_same : (xs ys : List Row) → map Some xs ≡ map Some ys → xs ≡ ys
some_same [] [] e = refl
some_same [] (y ∷ ys) e = absurd (cc)
some_same (x ∷ xs) [] e = absurd (cc)
some_same (x ∷ xs) (y ∷ ys) e =
    let first : x ≡ y = cc in
    let rest : map Some xs ≡ map Some ys = cc in
    let more = some_same xs ys rest in
    λ i. first i ∷ more i

pub take_past : {X : Type 0} (n : ℕ) (xs : List X) → length xs ≤ n → take n xs ≡ xs
take_past zero [] le = refl
take_past (suc n) [] le = refl
take_past zero (x ∷ xs) le = absurd (omega (arith, le))
take_past (suc n) (x ∷ xs) le = ap (λ l. x ∷ l) (take_past n xs (omega (arith, le)))

-- once all rows are read, all are copied
pub all_copied : (m : Merge) (ss : List Lived) (read : HasRead m ss (row_count ss)) → m.rows ≡ read.rows
all_copied m ss read =
    let long : length m.origins.items ≤ length m.rows = omega (arith, lengths m.origins.items ss read.rows read.numbered, read.enough, read.counted) in
    some_same m.rows read.rows (read.copied ∙ ap (map (row_of ss)) (take_past (length m.rows) m.origins.items long) ∙ read.numbered.origins_are)

-- ---- a step

-- more rows are copied, and more terms are merged
pub read_on : (m : Merge) (ss : List Lived) (count : ℕ) (rows : List Row) (postings : PartlyMerged) → HasRead m ss count → IsCopied ss m.origins.items rows → length m.rows ≤ length rows
    → IsMergedUpto (movings ss m.numbers.items) postings → HasRead (record m { rows = rows; postings = postings }) ss count
read_on m ss count rows postings read copied longer merged = record {
  can = read.can;
  rows = read.rows;
  numbered = read.numbered;
  copied = copied;
  enough = omega (arith, read.enough, longer);
  counted = read.counted;
  numbers_count = read.numbers_count;
  numbers = read.numbers;
  merged = merged;
}

pub within : (m : Merge) (ss : List Lived) (count more : ℕ) → HasRead m ss count → HasReadWithin m ss count (count + more)
within m ss count more read = (count, omega arith, omega arith, read)

-- the rows that are counted are copied
pub step_counted : (m new : Merge) (ss : List Lived) (count more before : ℕ) (step : Step) → HasRead m ss count → length m.origins.items ≤ before + m.left
    → (length m.origins.items ≤ length m.rows) ⊎ (before + more ≤ length m.rows) → Counts m more new step → IsStep new ss (count + more) step
step_counted m new ss count more before More read enough copied counts =
    let less : more < m.left = counts.0 in (
      subst (λ (n : Merge). HasRead n ss (count + more)) (sym counts.1) (record {
        can = read.can;
        rows = read.rows;
        numbered = read.numbered;
        copied = read.copied;
        enough = still copied;
        counted = omega (arith, read.counted, less);
        numbers_count = read.numbers_count;
        numbers = read.numbers;
        merged = read.merged;
      }),
      omega (arith, read.counted, less),
    )
  where
    still : (length m.origins.items ≤ length m.rows) ⊎ (before + more ≤ length m.rows) → length read.rows ≤ length m.rows + (m.left - more)
    still (inl le) = omega (arith, le, lengths m.origins.items ss read.rows read.numbered)
    still (inr le) = omega (arith, le, enough, counts.0, lengths m.origins.items ss read.rows read.numbered)
step_counted m new ss count more before Ready read enough copied counts =
    let less : m.left ≤ more = counts.0 in (
      subst (λ (n : Merge). HasRead n ss (row_count ss)) (sym counts.1) (record {
        can = read.can;
        rows = read.rows;
        numbered = read.numbered;
        copied = read.copied;
        enough = still copied;
        counted = omega arith;
        numbers_count = read.numbers_count;
        numbers = read.numbers;
        merged = read.merged;
      }),
      omega (arith, read.counted, less),
    )
  where
    still : (length m.origins.items ≤ length m.rows) ⊎ (before + more ≤ length m.rows) → length read.rows ≤ length m.rows + 0
    still (inl le) = omega (arith, le, lengths m.origins.items ss read.rows read.numbered)
    still (inr le) = omega (arith, le, enough, counts.0, lengths m.origins.items ss read.rows read.numbered)

-- ---- how many rows there are

pub rows_more : (ss : List Lived) (i : ℕ) (s : Lived) → slice_get ss i ≡ Some s → row_count (take (i + 1) ss) ≡ row_count (take i ss) + length s.segment.rows
rows_more ss i s e = let next : suc i ≡ i + 1 = omega arith in subst (λ (n : ℕ). row_count (take n ss) ≡ row_count (take i ss) + length s.segment.rows) next (go ss i e)
  where
    go : (xs : List Lived) (j : ℕ) → slice_get xs j ≡ Some s → row_count (take (suc j) xs) ≡ row_count (take j xs) + length s.segment.rows
    go [] j f = absurd (cc)
    go (x ∷ xs) zero f = let is : x ≡ s = cc in omega (arith, length-append x.segment.rows [], ap (λ (y : Lived). length y.segment.rows) is)
    go (x ∷ xs) (suc j) f = omega (arith, go xs j f, length-append x.segment.rows (stored_rows (take (suc j) xs)), length-append x.segment.rows (stored_rows (take j xs)))
