-- Segments one after another: the live rows so far.
use Rattle.std.proofs.Common.{◌≡◌, ℕ, zero, suc, ◌+◌, ◌-◌, ◌^◌, ◌<◌, ◌≤◌, Bool, true, false, cond, List, [], ◌∷◌, ◌++◌, length, get_or, take, refl, sym, ap, ◌∙◌, arith}
use Rattle.std.specs.Prelude.{min, nat_lt}
use Rattle.std.proofs.Math.ListN.{length-append}
use Rattle.std.proofs.lemmas.Bool.{lt-ltb}
use Rattle.std.proofs.lemmas.Grind.{take_at_read, flat_map-append}
use Rattle.std.proofs.lemmas.List.{append-nil, take_all}
use Rattle.ix_base.specs.Counts.{doc_count}
use Rattle.ix_base.specs.declared.document.Row.{Row}
use Rattle.live_docs.specs.Marks.{count_live}
use Rattle.segment_core.proofs.LiveLaws.{live_counted}
use Rattle.segment_core.specs.LiveRows.{Lived, IsWhole, live, all_live}
use Rattle.commit_point.specs.Encoding.{AreWhole}
use Rattle.commit_point.specs.Writing.{is_alive, listed}

next_taken : {X : Type 0} (xs : List X) (i : ℕ) (x : X) → i < length xs → x ≡ get_or xs i x → take (i + 1) xs ≡ take i xs ++ x ∷ []
next_taken {X} xs i x lt is = (take_at_read xs i x lt).1 ∙ ap (λ (y : X). take i xs ++ y ∷ []) (sym is)

-- one segment more
counted : (xs : List Lived) (i : ℕ) (x : Lived) → i < length xs → x ≡ get_or xs i x → length (all_live (take (i + 1) xs)) ≡ length (all_live (take i xs)) + length (live x)
counted xs i x lt is =
    let split : all_live (take (i + 1) xs) ≡ all_live (take i xs) ++ all_live (x ∷ []) = ap all_live (next_taken xs i x lt is) ∙ flat_map-append live (take i xs) (x ∷ []) in
    ap length split ∙ length-append (all_live (take i xs)) (all_live (x ∷ [])) ∙ ap (λ (rs : List Row). length (all_live (take i xs)) + length rs) (append-nil (live x))

-- the live rows of a segment are counted by its marks
pub next_docs : (xs : List Lived) (i : ℕ) (x : Lived) (count n next : ℕ) → i < length xs → x ≡ get_or xs i x → IsWhole x.segment x.live → n ≡ count_live x.live.marks
    → next ≡ min (count + n) (2 ^ 64 - 1) → count ≡ doc_count (all_live (take i xs)) → next ≡ doc_count (all_live (take (i + 1) xs))
next_docs xs i x count n next lt is whole counts adds so_far =
    let live_is : length (live x) ≡ count_live x.live.marks = live_counted x.segment.rows x.live.marks whole.rows in
    omega (arith, counted xs i x lt is, live_is, counts, adds, so_far)

pub all_docs : (xs : List Lived) (i count : ℕ) → length xs ≤ i → count ≡ doc_count (all_live (take i xs)) → count ≡ doc_count (all_live xs)
all_docs xs i count le so_far = so_far ∙ ap (λ (ys : List Lived). doc_count (all_live ys)) (take_all i xs le)

-- ---- segments without a live row

none_live : (n : ℕ) → nat_lt 0 n ≡ false → n ≡ 0
none_live zero e = refl
none_live (suc n) e = absurd (let both : true ≡ false = sym (lt-ltb 0 (suc n) (omega arith)) ∙ e in cc)

listed_live : (gs : List Lived) → AreWhole gs → length (all_live (listed gs)) ≡ length (all_live gs)
listed_live [] whole = refl
listed_live (g ∷ gs) whole = by (is_alive g) refl (listed_live gs whole.1)
  where
    by : (b : Bool) → is_alive g ≡ b → length (all_live (listed gs)) ≡ length (all_live gs) → length (all_live (cond b (g ∷ listed gs) (listed gs))) ≡ length (all_live (g ∷ gs))
    by true e rest = omega (arith, length-append (live g) (all_live (listed gs)), length-append (live g) (all_live gs), rest)
    by false e rest =
        let none : count_live g.live.marks ≡ 0 = none_live (count_live g.live.marks) e in
        omega (arith, length-append (live g) (all_live gs), live_counted g.segment.rows g.live.marks whole.0.rows, none, rest)

-- live rows are those of the segments that are listed
pub listed_docs : (gs : List Lived) → AreWhole gs → doc_count (all_live gs) ≡ doc_count (all_live (listed gs))
listed_docs gs whole = let same = listed_live gs whole in omega (arith, same)
