-- Places that stand together in one row are one posting, and what is behind them the other ones.
use Rattle.std.proofs.Common.{◌≡◌, ◌≢◌, ℕ, zero, suc, ◌+◌, ◌^◌, ◌<◌, ◌≤◌, Bool, true, false, ◌==◌, List, [], ◌∷◌, ◌++◌, length, map, take, drop, get_or, refl, sym, ap, subst, ◌∙◌, append_assoc, arith}
use Rattle.std.specs.List.{flat_map, AllByRecursion}
use Rattle.std.proofs.lemmas.Bool.{eq-eqb, ne_eqb}
use Rattle.std.proofs.lemmas.List.{append-nil, take-append-drop, length-take, length-drop, length-map, get_or-drop}
use Rattle.std.proofs.lemmas.List.Concat.{flat_map-cons}
use Rattle.ix_base.specs.Grouped.{one, joined, with_spot, grouped, grouped_from}
use Rattle.ix_base.specs.Spelling.{be32}
use Rattle.ix_base.specs.declared.postings.Posting.{Posting}
use Rattle.ix_base.specs.declared.spots.Spot.{Spot}
use Rattle.segment_files.specs.Fits.{PostingFits}
use Rattle.segment_files.specs.Placing.{posting_in, IsFirstRow}
use Rattle.segment_files.specs.Spelling.{posting}

shape : (h : Posting) (gs : List Posting) (s : Spot) → (k : Posting) × (ks : List Posting) × (with_spot (h ∷ gs) s ≡ k ∷ ks)
shape h [] s = go (h.row == s.row)
  where
    go : (b : Bool) → (k : Posting) × (ks : List Posting) × (joined b h s ≡ k ∷ ks)
    go true = (record { row = h.row; positions = h.positions ++ s.position ∷ [] }, [], refl)
    go false = (h, one s ∷ [], refl)
shape h (i ∷ gs) s = (h, with_spot (i ∷ gs) s, refl)

-- only the last of the postings grows
first_stays : (g h : Posting) (gs : List Posting) (spots : List Spot) → grouped_from (g ∷ h ∷ gs) spots ≡ g ∷ grouped_from (h ∷ gs) spots
first_stays g h gs [] = refl
first_stays g h gs (s ∷ rest) =
    let p = shape h gs s in
    subst (λ (l : List Posting). grouped_from (g ∷ l) rest ≡ g ∷ grouped_from l rest) (sym p.2) (first_stays g p.0 p.1 rest)

abbrev AreIn : ℕ → List Spot → Type 0
AreIn row spots = AllByRecursion (λ (s : Spot). s.row ≡ row) spots

abbrev BeginsElsewhere : ℕ → List Spot → Type 0
BeginsElsewhere row spots = 0 < length spots → (d : Spot) → (get_or spots 0 d).row ≢ row

run_done : (g : Posting) (behind : List Spot) → BeginsElsewhere g.row behind → grouped_from (g ∷ []) behind ≡ g ∷ grouped behind
run_done g [] other = refl
run_done g (x ∷ xs) other =
    let differs : (g.row == x.row) ≡ false = ne_eqb g.row x.row (λ e. other (omega arith) x (sym e)) in
    ap (λ (b : Bool). grouped_from (joined b g x) xs) differs ∙ first_stays g (one x) [] xs

in_run : (g : Posting) (run behind : List Spot) → AreIn g.row run → BeginsElsewhere g.row behind
    → grouped_from (g ∷ []) (run ++ behind) ≡ record { row = g.row; positions = g.positions ++ map (λ (s : Spot). s.position) run } ∷ grouped behind
in_run g [] behind same other =
    run_done g behind other ∙ ap (λ (l : List ℕ). record { row = g.row; positions = l } ∷ grouped behind) (sym (append-nil g.positions))
in_run g (s ∷ run) behind same other =
    let more : Posting = record { row = g.row; positions = g.positions ++ s.position ∷ [] } in
    ap (λ (b : Bool). grouped_from (joined b g s) (run ++ behind)) (eq-eqb g.row s.row (sym same.0))
    ∙ in_run more run behind same.1 other
    ∙ ap (λ (l : List ℕ). record { row = g.row; positions = l } ∷ grouped behind) (append_assoc g.positions (s.position ∷ []) (map (λ (t : Spot). t.position) run))

pub is_first_row : (spots run behind : List Spot) (row : ℕ) → spots ≡ run ++ behind → 0 < length run → AreIn row run → BeginsElsewhere row behind → IsFirstRow spots row run behind
is_first_row spots [] behind row is some same other = absurd (omega arith)
is_first_row spots (s ∷ run) behind row is some same other =
    let all = in_run (one s) run behind (subst (λ (r : ℕ). AreIn r run) (sym same.0) same.1) (subst (λ (r : ℕ). BeginsElsewhere r behind) (sym same.0) other) in
    record {
      parts = is;
      some = some;
      postings = ap grouped is ∙ all ∙ ap (λ (r : ℕ). posting_in r (s ∷ run) ∷ grouped behind) same.0;
    }

-- no row without its first place
some_run : (spots : List Spot) (row n : ℕ) (d : Spot) → 0 < length spots → (get_or spots 0 d).row ≡ row → (n < length spots → (e : Spot) → (get_or spots n e).row ≢ row) → 0 < n
some_run spots row zero d some is next = absurd (next some d is)
some_run spots row (suc n) d some is next = omega arith

at_drop : (n : ℕ) (spots : List Spot) (e : Spot) → get_or (drop n spots) 0 e ≡ get_or spots n e
at_drop n spots e = let k : n + 0 ≡ n = omega arith in get_or-drop n spots 0 e ∙ ap (λ (i : ℕ). get_or spots i e) k

pub split_is_first_row : (spots run behind : List Spot) (row n : ℕ) (d : Spot) → 0 < length spots → (get_or spots 0 d).row ≡ row → n ≤ length spots
    → AllByRecursion (λ (s : Spot). s.row ≡ row) (take n spots) → (n < length spots → (e : Spot) → (get_or spots n e).row ≢ row)
    → run ≡ take n spots → behind ≡ drop n spots → IsFirstRow spots row run behind
split_is_first_row spots run behind row n d some is le same next front back =
    let long : 0 < n = some_run spots row n d some is next in
    let elsewhere : BeginsElsewhere row (drop n spots) = λ more e. subst (λ (s : Spot). s.row ≢ row) (sym (at_drop n spots e)) (next (omega (arith, length-drop n spots)) e) in
    let parted : IsFirstRow spots row (take n spots) (drop n spots) = is_first_row spots (take n spots) (drop n spots) row (sym (take-append-drop n spots)) (omega (arith, length-take n spots)) same elsewhere in
    subst (λ (b : List Spot). IsFirstRow spots row run b) (sym back) (subst (λ (a : List Spot). IsFirstRow spots row a (drop n spots)) (sym front) parted)

-- ---- the bytes of a row

abbrev position_bytes : Spot → List ℕ
position_bytes s = be32 s.position

positions_spelled : (run : List Spot) → flat_map position_bytes run ≡ flat_map be32 (map (λ (s : Spot). s.position) run)
positions_spelled [] = refl
positions_spelled (s ∷ run) =
    flat_map-cons position_bytes s run ∙ ap (λ (l : List ℕ). be32 s.position ++ l) (positions_spelled run) ∙ sym (flat_map-cons be32 s.position (map (λ (t : Spot). t.position) run))

pub run_spelled : (row : ℕ) (run : List Spot) → (be32 row ++ be32 (length run)) ++ flat_map position_bytes run ≡ posting (posting_in row run)
run_spelled row run =
    append_assoc (be32 row) (be32 (length run)) (flat_map position_bytes run)
    ∙ ap (λ (n : ℕ). be32 row ++ (be32 n ++ flat_map position_bytes run)) (sym (length-map run (λ (s : Spot). s.position)))
    ∙ ap (λ (l : List ℕ). be32 row ++ (be32 (length (map (λ (s : Spot). s.position) run)) ++ l)) (positions_spelled run)

positions_fit : (run : List Spot) → AllByRecursion (λ (s : Spot). s.position < 2 ^ 32) run → AllByRecursion (λ x. x < 2 ^ 32) (map (λ (s : Spot). s.position) run)
positions_fit [] all = tt
positions_fit (s ∷ run) all = (all.0, positions_fit run all.1)

pub run_fits : (row : ℕ) (run : List Spot) → length run < 2 ^ 32 → AllByRecursion (λ (s : Spot). s.position < 2 ^ 32) run → PostingFits (posting_in row run)
run_fits row run short all = record { count = omega (arith, length-map run (λ (s : Spot). s.position)); positions = positions_fit run all }
