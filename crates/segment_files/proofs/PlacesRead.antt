-- Places that are read stand behind those that were there.
use Rattle.std.proofs.Common.{◌≡◌, ℕ, ◌+◌, ◌-◌, ◌<◌, ◌≤◌, Bool, true, false, ◌&&◌, ◌||◌, ◌==◌, cond, leb, ltb, List, [], ◌∷◌, ◌++◌, length, Result, Ok, Err, ◌⊎◌, inl, inr, refl, sym, ap, subst, ◌∙◌, arith}
use Rattle.std.specs.Int.{w32}
use Rattle.std.specs.List.{AllByRecursion}
use Rattle.std.proofs.lemmas.Bool.{and_parts, eqb-true, eq-eqb, ne_eqb, leb-true, le-leb, lt-ltb}
use Rattle.std.proofs.lemmas.List.Folds.{list_any-append}
use Rattle.ix_base.specs.Codec.{◌>>=◌, Fails, number_at, items_at, left_by}
use Rattle.ix_base.proofs.CodecLaws.{bind_ok, ok_is, passes}
use Rattle.ix_base.specs.FileReading.{number_where}
use Rattle.ix_base.specs.Grouped.{one, joined, with_spot, IsAfter}
use Rattle.ix_base.proofs.ItemLaws.{items_count}
use Rattle.ix_base.specs.Posted.{has_number, posted_at}
use Rattle.ix_base.proofs.ReadLoops.{so_far, starts, goes_on_from, ends_from, is_done, left_by-push}
use Rattle.ix_base.specs.declared.broken.Broken.{Broken}
use Rattle.ix_base.specs.declared.postings.Posting.{Posting}
use Rattle.ix_base.specs.declared.spots.Spot.{Spot}
use Rattle.segment_files.specs.Placing.{posted_after}
use Rattle.segment_files.specs.Reading.{position_at, posting_at}
use Rattle.segment_files.proofs.Chains.{AllRowsBelow}

abbrev pub AllBelow : ℕ → List ℕ → Type 0
AllBelow low xs = AllByRecursion (λ x. x < low) xs

-- ---- what is below

below_push : (low x : ℕ) (xs : List ℕ) → AllBelow low xs → low ≤ x → AllBelow (x + 1) (xs ++ x ∷ [])
below_push low x [] all le = (omega arith, tt)
below_push low x (y ∷ ys) all le = (omega (arith, all.0), below_push low x ys all.1 le)

pub rows_below_push : (low row : ℕ) (p : Posting) (gs : List Posting) → AllRowsBelow low gs → p.row ≡ row → low ≤ row → AllRowsBelow (row + 1) (gs ++ p ∷ [])
rows_below_push low row p [] all is le = (omega (arith, is), tt)
rows_below_push low row p (g ∷ gs) all is le = (omega (arith, all.0), rows_below_push low row p gs all.1 is le)

has_below : (low : ℕ) (xs : List ℕ) → AllBelow low xs → (x : ℕ) → has_number xs x ≡ true → x < low
has_below low [] all x h = absurd cc
has_below low (y ∷ ys) all x h = go (y == x) refl h (has_below low ys all.1 x)
  where
    go : (b : Bool) → (y == x) ≡ b → (b || has_number ys x) ≡ true → (has_number ys x ≡ true → x < low) → x < low
    go true e h more = omega (arith, all.0, eqb-true y x e)
    go false e h more = more h

posted_below : (low : ℕ) (gs : List Posting) → AllRowsBelow low gs → (r x : ℕ) → posted_at gs r x ≡ true → r < low
posted_below low [] all r x h = absurd cc
posted_below low (g ∷ gs) all r x h = go ((g.row == r) && has_number g.positions x) refl h (posted_below low gs all.1 r x)
  where
    go : (b : Bool) → ((g.row == r) && has_number g.positions x) ≡ b → (b || posted_at gs r x) ≡ true → (posted_at gs r x ≡ true → r < low) → r < low
    go true e h more = omega (arith, all.0, eqb-true g.row r (and_parts (g.row == r) (has_number g.positions x) e).0)
    go false e h more = more h

after_all : (old : List Posting) (row low position : ℕ) (front : List ℕ) → AllRowsBelow row old → AllBelow low front → low ≤ position → IsAfter row position (posted_after old row front)
after_all old row low position [] rows below le r x h = inl (posted_below row old rows r x h)
after_all old row low position (y ∷ ys) rows below le r x h = go (posted_at old r x) refl (sym (list_any-append _ old (record { row = row; positions = y ∷ ys } ∷ [])) ∙ h)
  where
    go : (b : Bool) → posted_at old r x ≡ b → (b || (((row == r) && has_number (y ∷ ys) x) || false)) ≡ true → (r < row) ⊎ ((r ≡ row) × (x < position))
    go true e h = inl (posted_below row old rows r x e)
    go false e h = last ((row == r) && has_number (y ∷ ys) x) refl h
      where
        last : (b : Bool) → ((row == r) && has_number (y ∷ ys) x) ≡ b → (b || false) ≡ true → (r < row) ⊎ ((r ≡ row) × (x < position))
        last true e h = let p = and_parts (row == r) (has_number (y ∷ ys) x) e in inr (sym (eqb-true row r p.0), omega (arith, has_below low (y ∷ ys) below x p.1))
        last false e h = absurd cc

-- ---- one more place

begins : (old : List Posting) (s : Spot) → AllRowsBelow s.row old → with_spot old s ≡ old ++ one s ∷ []
begins [] s all = refl
begins (g ∷ []) s all = ap (λ (b : Bool). joined b g s) (ne_eqb g.row s.row (λ e. omega (arith, all.0, e)))
begins (g ∷ h ∷ gs) s all = ap (λ (l : List Posting). g ∷ l) (begins (h ∷ gs) s all.1)

at_end : (front : List Posting) (last : Posting) (s : Spot) → with_spot (front ++ last ∷ []) s ≡ front ++ joined (last.row == s.row) last s
at_end [] last s = refl
at_end (g ∷ []) last s = refl
at_end (g ∷ h ∷ gs) last s = ap (λ (l : List Posting). g ∷ l) (at_end (h ∷ gs) last s)

put_position : (old : List Posting) (row position : ℕ) (front : List ℕ) → AllRowsBelow row old
    → with_spot (posted_after old row front) (record { row = row; position = position }) ≡ posted_after old row (front ++ position ∷ [])
put_position old row position [] all = begins old (record { row = row; position = position }) all
put_position old row position (y ∷ ys) all =
    let last : Posting = record { row = row; positions = y ∷ ys } in
    at_end old last (record { row = row; position = position }) ∙ ap (λ (b : Bool). old ++ joined b last (record { row = row; position = position })) (eq-eqb row row refl)

-- ---- positions of a row

position_low : (low : ℕ) (bytes : List ℕ) (x : ℕ × List ℕ) → position_at low bytes ≡ Ok x → low ≤ x.0
position_low low bytes x e =
    let b = bind_ok (number_at w32 bytes) (λ n. cond (leb low n.0) (Ok n) (Err (length bytes))) x e in
    let g = passes (leb low b.0.0) (length bytes) b.0 x b.2 in
    subst (λ (y : ℕ × List ℕ). low ≤ y.0) g.1 (leb-true low b.0.0 g.0)

-- where reading the positions of a row stands
pub record PositionsRead (old : List Posting) (row low left : ℕ) (rest : List ℕ) (now : List Posting) (total : Result (List ℕ × List ℕ) ℕ) : Type 0 where
  pub front : List ℕ
  pub spots : now ≡ posted_after old row front
  pub low_is : low ≡ left_by (λ (x : ℕ). x + 1) 0 front
  pub below : AllBelow low front
  pub read : so_far position_at (λ (x : ℕ). x + 1) 0 front left rest ≡ total

pub positions_start : (old : List Posting) (row count : ℕ) (bytes : List ℕ) → PositionsRead old row 0 (count - 0) bytes old (items_at position_at (λ (x : ℕ). x + 1) 0 count bytes)
positions_start old row count bytes = record { front = []; spots = refl; low_is = refl; below = tt; read = starts position_at (λ (x : ℕ). x + 1) 0 count bytes }

pub comes_after : (old : List Posting) (row low left : ℕ) (rest : List ℕ) (now : List Posting) (total : Result (List ℕ × List ℕ) ℕ) (position : ℕ) (after : List ℕ)
    → AllRowsBelow row old → position_at low rest ≡ Ok (position, after) → PositionsRead old row low left rest now total → IsAfter row position now
comes_after old row low left rest now total position after rows e at =
    subst (IsAfter row position) (sym at.spots) (after_all old row low position at.front rows at.below (position_low low rest (position, after) e))

pub positions_go_on : (old : List Posting) (row low count i : ℕ) (rest : List ℕ) (now : List Posting) (total : Result (List ℕ × List ℕ) ℕ) (position : ℕ) (after : List ℕ) (new : List Posting)
    → AllRowsBelow row old → i < count → position_at low rest ≡ Ok (position, after) → new ≡ with_spot now (record { row = row; position = position })
    → PositionsRead old row low (count - i) rest now total → PositionsRead old row (position + 1) (count - (i + 1)) after new total
positions_go_on old row low count i rest now total position after new rows lt e is at = record {
  front = at.front ++ position ∷ [];
  spots = is ∙ ap (λ (l : List Posting). with_spot l (record { row = row; position = position })) at.spots ∙ put_position old row position at.front rows;
  low_is = sym (left_by-push (λ (x : ℕ). x + 1) 0 at.front position);
  below = below_push low position at.front at.below (position_low low rest (position, after) e);
  read = goes_on_from position_at (λ (x : ℕ). x + 1) 0 low at.front count i rest position after total at.low_is lt e at.read;
}

pub positions_end : (old : List Posting) (row low count i : ℕ) (rest : List ℕ) (now : List Posting) (total : Result (List ℕ × List ℕ) ℕ) (f : Broken)
    → i < count → Fails f (position_at low rest) → PositionsRead old row low (count - i) rest now total → Fails f total
positions_end old row low count i rest now total f lt e at = ends_from position_at (λ (x : ℕ). x + 1) 0 low f at.front count i rest total at.low_is lt e at.read

pub positions_done : (old : List Posting) (row low count i : ℕ) (rest : List ℕ) (now : List Posting) (total : Result (List ℕ × List ℕ) ℕ)
    → count ≤ i → PositionsRead old row low (count - i) rest now total → (xs : List ℕ) × (total ≡ Ok (xs, rest)) × (now ≡ posted_after old row xs)
positions_done old row low count i rest now total le at = (at.front, is_done position_at (λ (x : ℕ). x + 1) 0 at.front count i rest total le at.read, at.spots)

-- ---- a row with its positions

pub posting_put : (n low : ℕ) (bytes : List ℕ) (row : ℕ) (counted : List ℕ) (count : ℕ) (rest after : List ℕ) (old new : List Posting)
    → number_at w32 bytes ≡ Ok (row, counted) → low ≤ row → row < n → number_at w32 counted ≡ Ok (count, rest) → 1 ≤ count
    → (xs : List ℕ) × (items_at position_at (λ (x : ℕ). x + 1) 0 count rest ≡ Ok (xs, after)) × (new ≡ posted_after old row xs)
    → (p : Posting) × (posting_at n low bytes ≡ Ok (p, after)) × (p.row ≡ row) × (new ≡ old ++ p ∷ [])
unfolding posting_at
posting_put n low bytes row counted count rest after old new first le lt second some read =
    let is : posting_at n low bytes ≡ Ok (record { row = row; positions = read.0 }, after) =
    rw (first, le-leb low row le, lt-ltb row n lt, second, le-leb 1 count some, read.1) refl in
    let many : length read.0 ≡ count = items_count position_at (λ (x : ℕ). x + 1) 0 count rest (read.0, after) read.1 in
    (record { row = row; positions = read.0 }, is, refl, behind read.0 (omega (arith, many)) read.2)
  where
    behind : (xs : List ℕ) → 0 < length xs → new ≡ posted_after old row xs → new ≡ old ++ record { row = row; positions = xs } ∷ []
    behind [] some e = absurd (omega arith)
    behind (x ∷ xs) some e = e

pub posting_low : (n low : ℕ) (bytes : List ℕ) (p : Posting) (after : List ℕ) → posting_at n low bytes ≡ Ok (p, after) → low ≤ p.row
unfolding posting_at
posting_low n low bytes p after e =
    let a = bind_ok (number_where w32 (λ x. leb low x && ltb x n) bytes) (λ row. number_where w32 (λ x. leb 1 x) row.1 >>= λ count. items_at position_at (λ (x : ℕ). x + 1) 0 count.0 count.1 >>= λ positions. Ok (record { row = row.0; positions = positions.0 }, positions.1)) (p, after) e in
    let b = bind_ok (number_where w32 (λ x. leb 1 x) a.0.1) (λ count. items_at position_at (λ (x : ℕ). x + 1) 0 count.0 count.1 >>= λ positions. Ok (record { row = a.0.0; positions = positions.0 }, positions.1)) (p, after) a.2 in
    let c = bind_ok (items_at position_at (λ (x : ℕ). x + 1) 0 b.0.0 b.0.1) (λ positions. Ok (record { row = a.0.0; positions = positions.0 }, positions.1)) (p, after) b.2 in
    let n0 = bind_ok (number_at w32 bytes) (λ k. cond (leb low k.0 && ltb k.0 n) (Ok k) (Err (length bytes))) a.0 a.1 in
    let g = passes (leb low n0.0.0 && ltb n0.0.0 n) (length bytes) n0.0 a.0 n0.2 in
    let le : low ≤ n0.0.0 = leb-true _ _ (and_parts (leb low n0.0.0) (ltb n0.0.0 n) g.0).0 in
    let le2 : low ≤ a.0.0 = subst (λ (y : ℕ × List ℕ). low ≤ y.0) g.1 le in
    let made : Posting × List ℕ = (record { row = a.0.0; positions = c.0.0 }, c.0.1) in
    subst (λ (y : Posting × List ℕ). low ≤ y.0.row) (ok_is made (p, after) c.2) le2

-- ---- rows one after another

pub places_go_on : (n low count i : ℕ) (rest : List ℕ) (now : List Posting) (total : Result (List Posting × List ℕ) ℕ) (row : ℕ) (after : List ℕ) (new : List Posting)
    → low ≡ left_by (λ (p : Posting). p.row + 1) 0 now → i < count → AllRowsBelow low now → so_far (posting_at n) (λ (p : Posting). p.row + 1) 0 now (count - i) rest ≡ total
    → (p : Posting) × (posting_at n low rest ≡ Ok (p, after)) × (p.row ≡ row) × (new ≡ now ++ p ∷ [])
    → (so_far (posting_at n) (λ (p : Posting). p.row + 1) 0 new (count - (i + 1)) after ≡ total) × (row + 1 ≡ left_by (λ (p : Posting). p.row + 1) 0 new) × AllRowsBelow (row + 1) new
places_go_on n low count i rest now total row after new low_is lt below so found =
    let p = found.0 in
    let all = goes_on_from (posting_at n) (λ (q : Posting). q.row + 1) 0 low now count i rest p after total low_is lt found.1 so in
    let le : low ≤ p.row = posting_low n low rest p after found.1 in (
      subst (λ (l : List Posting). so_far (posting_at n) (λ (q : Posting). q.row + 1) 0 l (count - (i + 1)) after ≡ total) (sym found.3) all,
      ap (λ (r : ℕ). r + 1) (sym found.2) ∙ sym (left_by-push (λ (q : Posting). q.row + 1) 0 now p) ∙ ap (left_by (λ (q : Posting). q.row + 1) 0) (sym found.3),
      subst (AllRowsBelow (row + 1)) (sym found.3) (rows_below_push low row p now below found.2 (omega (arith, found.2, le))),
    )
