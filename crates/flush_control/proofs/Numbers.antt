-- In how many segments, and in how many pieces, an operation has rows.
use Rattle.std.proofs.Common.{◌≡◌, ◌∙◌, ◌⊎◌, inl, inr, ℕ, ◌+◌, ◌<◌, ◌≤◌, false, List, [], ◌∷◌, ◌++◌, map, refl, sym, ap, subst, arith, IsPermutation}
use Rattle.std.specs.List.{AllByRecursion, flat_map, sum_by}
use Rattle.std.proofs.lemmas.Grind.{flat_map-append}
use Rattle.std.proofs.lemmas.List.Recursion.{is_sum_by}
use Rattle.std.proofs.lemmas.List.Sorted.{sum_by-IsPermutation}
use Rattle.ix_base.specs.Births.{first_birth, last_birth, number_of}
use Rattle.ix_base.specs.declared.document.Row.{Row}
use Rattle.frozen_packet.specs.declared.packet.Packet.{Packet}
use Rattle.segment_core.specs.LiveRows.{Lived, stored_rows}
use Rattle.segment_core.specs.declared.segment.Segment.{Segment}
use Rattle.segment_core.specs.Births.{births_at, by_bool, has_number, lists_at, SegmentsApart}
use Rattle.segment_core.proofs.Numbers.{birth_in_lists, birth_with, list_false, list_true, lists_joined, lists_of_birth, one_list}
use Rattle.segment_files.specs.Fits.{BirthsRise}
use Rattle.commit_point.specs.Writing.{CanWrite}
use Rattle.merge_core.specs.Merging.{Sources}
use Rattle.thread_writer.specs.Writing.{piece_rows}
use Rattle.thread_writer.specs.declared.piece.Piece.{Piece}
use Rattle.flush_control.specs.Merging.{without}
use Rattle.flush_control.specs.Published.{AreApplied, AreBuilt, IdsDiffer, IsPublished}
use Rattle.flush_control.specs.Rounds.{PiecesApart}
use Rattle.flush_control.specs.declared.published.Published.{Published}
use Rattle.flush_control.proofs.Births.{births_none_above, births_none_below, lt_or_le}
use Rattle.flush_control.proofs.Parting.{parted}

abbrev pub segment_lists : List Lived → List (List Row)
segment_lists segments = map (λ (g : Lived). g.segment.rows) segments

abbrev pub piece_lists : List Piece → List (List Row)
piece_lists pieces = map (λ (p : Piece). p.frozen.rows.items) pieces

-- ---- pieces behind the segments that are there

-- rows that were born before are of no such operation
none_above : (low limit n : ℕ) (rows : List Row) → BirthsRise low limit rows → limit < first_birth n → has_number rows n ≡ false
none_above low limit n rows rise lt = by_bool (has_number rows n) (λ e. absurd (not_there (birth_with n rows e))) (λ e. e)
  where
    not_there : ((b : ℕ) × (number_of b ≡ n) × (1 ≤ births_at b rows)) → ⊥
    not_there has =
        let is : number_of has.0 ≡ n = has.1 in
        let above : limit < has.0 = omega (arith, is, lt) in
        omega (arith, births_none_above low limit has.0 rows rise above, has.2)

olds_none : (base n : ℕ) (ss : List Lived) → AllByRecursion (CanWrite base) ss → base < n → lists_at n (segment_lists ss) ≡ 0
olds_none base n [] can lt = refl
olds_none base n (s ∷ ss) can lt =
    let here = none_above (first_birth 1) (last_birth base) n s.segment.rows can.0.births (omega (arith, lt)) in
    omega (arith, list_false n s.segment.rows here, olds_none base n ss can.1 lt)

pieces_none : (base limit n : ℕ) (ps : List Piece) (rows : List Row) → n ≤ base → BirthsRise (first_birth (base + 1)) (last_birth limit) rows
    → ((b : ℕ) → births_at b (piece_rows ps) ≡ births_at b rows) → lists_at n (piece_lists ps) ≡ 0
pieces_none base limit n ps rows le rise same = by (lt_or_le 0 (lists_at n (piece_lists ps)))
  where
    not_there : ((b : ℕ) × (number_of b ≡ n) × (1 ≤ births_at b (piece_rows ps))) → ⊥
    not_there has =
        let is : number_of has.0 ≡ n = has.1 in
        let below : has.0 < first_birth (base + 1) = omega (arith, is, le) in
        omega (arith, same has.0, births_none_below (first_birth (base + 1)) (last_birth limit) has.0 rows rise below, has.2)

    by : (0 < lists_at n (piece_lists ps)) ⊎ (lists_at n (piece_lists ps) ≤ 0) → lists_at n (piece_lists ps) ≡ 0
    by (inl some) = absurd (not_there (birth_in_lists (λ (p : Piece). p.frozen.rows.items) n ps (omega (arith, some))))
    by (inr none) = omega (arith, none)

-- an operation has rows in no more of the segments than of the pieces that they are built of
lists_made : (n : ℕ) (ps : List Piece) (id next : ℕ) (made : List Lived) → AreBuilt ps id made next
    → lists_at n (segment_lists made) ≤ lists_at n (piece_lists ps)
lists_made n [] id next made are = omega (arith, ap (λ (ss : List Lived). lists_at n (segment_lists ss)) are.0)
lists_made n (p ∷ ps) id next made (inl dead) = omega (arith, lists_made n ps id next made dead.1)
lists_made n (p ∷ ps) id next made (inr lives) =
    omega (
      arith,
      ap (λ (ss : List Lived). lists_at n (segment_lists ss)) lives.2,
      ap (one_list n) lives.3.rows,
      lists_made n ps (id + 1) next lives.1 lives.4,
    )

-- Rows of old segments are of operations up to a number, and those of pieces of later ones.
pub apart_made : (base limit : ℕ) (olds : List Lived) (ps : List Piece) (id next : ℕ) (made : List Lived) (rows : List Row) → SegmentsApart olds
    → AllByRecursion (CanWrite base) olds → PiecesApart ps → AreBuilt ps id made next → BirthsRise (first_birth (base + 1)) (last_birth limit) rows
    → ((b : ℕ) → births_at b (piece_rows ps) ≡ births_at b rows) → SegmentsApart (olds ++ made)
apart_made base limit olds ps id next made rows apart can pieces are rise same n = by (lt_or_le base n)
  where
    sum : lists_at n (segment_lists (olds ++ made)) ≡ lists_at n (segment_lists olds) + lists_at n (segment_lists made)
    sum = lists_joined (λ (g : Lived). g.segment.rows) n olds made

    by : (base < n) ⊎ (n ≤ base) → lists_at n (segment_lists (olds ++ made)) ≤ 1
    by (inl lt) = omega (arith, sum, lists_made n ps id next made are, olds_none base n olds can lt, pieces n)
    by (inr le) = omega (arith, sum, lists_made n ps id next made are, pieces_none base limit n ps rows le rise same, apart n)

pub lists_applied : (packet : Packet) (olds news : List Lived) → AreApplied packet olds news → segment_lists news ≡ segment_lists olds
lists_applied packet [] [] are = refl
lists_applied packet [] (new ∷ news) are = absurd are
lists_applied packet (old ∷ olds) [] are = absurd are
lists_applied packet (old ∷ olds) (new ∷ news) are =
    ap (λ (g : Segment). g.rows ∷ segment_lists news) are.0
    ∙ ap (λ (lists : List (List Row)). old.segment.rows ∷ lists) (lists_applied packet olds news are.2)

-- ---- segments that are merged

lists_sum : (n : ℕ) (lists : List (List Row)) → lists_at n lists ≡ sum_by (one_list n) lists
lists_sum n lists = is_sum_by (lists_at n) (one_list n) refl (λ rows more. refl) lists

lists_permuted : (n : ℕ) (xs ys : List (List Row)) → IsPermutation xs ys → lists_at n xs ≡ lists_at n ys
lists_permuted n xs ys moved = lists_sum n xs ∙ (sym (sum_by-IsPermutation (one_list n) xs ys moved) ∙ sym (lists_sum n ys))

one_each : (gs : List Lived) → flat_map (λ (g : Lived). g.segment.rows ∷ []) gs ≡ segment_lists gs
one_each [] = refl
one_each (g ∷ gs) = ap (λ (lists : List (List Row)). g.segment.rows ∷ lists) (one_each gs)

-- the operation has rows in as many of the segments as of those that stay and of the sources together
pub lists_parted : (p : Published) (ids : List ℕ) (ss : List Lived) (n : ℕ) → IsPublished p → IdsDiffer ids → Sources p.segments ids ss
    → lists_at n (segment_lists p.segments) ≡ lists_at n (segment_lists (without ids p.segments)) + lists_at n (segment_lists ss)
lists_parted p ids ss n published apart found =
    let stay = without ids p.segments in
    let one : Lived → List (List Row) = λ g. g.segment.rows ∷ [] in
    let moved = parted one 1 p.next_id p.segments ids ss published.ids apart found in
    ap (lists_at n) (sym (one_each p.segments))
    ∙ (lists_permuted n (flat_map one p.segments) (flat_map one stay ++ flat_map one ss) moved
    ∙ (ap (lists_at n) (sym (flat_map-append one stay ss) ∙ one_each (stay ++ ss))
    ∙ lists_joined (λ (g : Lived). g.segment.rows) n stay ss))

-- a segment whose births are those of others has rows of no operation of which these have none
pub lists_merged : (n : ℕ) (ss : List Lived) (rows : List Row) → ((b : ℕ) → births_at b rows ≤ births_at b (stored_rows ss))
    → one_list n rows ≤ lists_at n (segment_lists ss)
lists_merged n ss rows stored =
    by_bool (has_number rows n)
    (λ e. omega (arith, list_true n rows e, there (birth_with n rows e)))
    (λ e. omega (arith, list_false n rows e))
  where
    there : ((b : ℕ) × (number_of b ≡ n) × (1 ≤ births_at b rows)) → 1 ≤ lists_at n (segment_lists ss)
    there has =
        subst (λ (m : ℕ). 1 ≤ lists_at m (segment_lists ss)) has.1
        (lists_of_birth (λ (g : Lived). g.segment.rows) has.0 ss (omega (arith, has.2, stored has.0)))
