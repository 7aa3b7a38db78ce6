-- What updates make of live rows.
use Rattle.std.proofs.Common.{◌≡◌, ◌∙◌, ◌≢◌, ℕ, ◌<◌, ◌^◌, List, [], ◌∷◌, Bool, true, false, cond, length, replicate, Some, None, refl, sym, ap, subst, arith}
use Rattle.std.specs.List.{cons_option, filter}
use Rattle.ix_base.specs.declared.document.Row.{Row}
use Rattle.ix_base.specs.Inversion.{IsInversion}
use Rattle.live_docs.specs.declared.live_docs.Mark.{Mark}
use Rattle.live_docs.specs.Marks.{Marks, fresh, count_live}
use Rattle.row_fates.specs.Fate.{Numbered, survivors, renumbered}
use Rattle.frozen_packet.specs.declared.updates.Updates.{Updates}
use Rattle.frozen_packet.specs.Updates.{as_operations, Stands}
use Rattle.segment_core.specs.Segments.{documents, IsInverted}
use Rattle.segment_core.specs.LiveRows.{with_numbers, live_rows, above, Fated}
use Rattle.segment_core.specs.Marking.{marks_after}
use Rattle.segment_core.specs.declared.segment.Segment.{Segment}
use Rattle.segment_core.proofs.Above.{above_of_late, same-above, survive_same}
use Rattle.segment_core.proofs.Marking.{live_after, all_live}

-- what updates make of marks is fates under the operations for which they stand
pub fated : (low : ℕ) (u : Updates) (rows : List Row) (before after : List Mark) → after ≡ marks_after (above low (as_operations u)) rows before → Fated low u rows before after
fated low u rows before after e ops stands =
    ap (live_rows rows) e
    ∙ (live_after (above low (as_operations u)) rows before
    ∙ survive_same (above low (as_operations u)) (above low ops) (same-above low (as_operations u) ops stands.same) (live_rows rows before))

-- and of fresh marks the fates of all rows
pub fated_fresh : (u : Updates) (rows : List Row) (after : List Mark) → Fated 0 u rows (replicate (length rows) fresh) after
    → (ops : List Numbered) → Stands u ops → live_rows rows after ≡ survivors ops rows
fated_fresh u rows after e ops stands =
    e ops stands
    ∙ (ap (survivors (above 0 ops)) (all_live rows)
    ∙ survive_same (above 0 ops) ops (λ row. above_of_late 0 ops row (omega arith)) rows)

-- ---- how many are live

pub none_live : (rows : List Row) (marks : List Mark) → count_live marks ≡ 0 → live_rows rows marks ≡ []
none_live [] marks e = refl
none_live (row ∷ rows) [] e = refl
none_live (row ∷ rows) (m ∷ marks) e = by m.live e (none_live rows marks)
  where
    by : (b : Bool) → length (cond b (m ∷ filter (λ (x : Mark). x.live) marks) (filter (λ (x : Mark). x.live) marks)) ≡ 0
        → (count_live marks ≡ 0 → live_rows rows marks ≡ [])
        → cons_option (cond b (Some (renumbered (with_numbers m.values row.doc.num) row)) None) (live_rows rows marks) ≡ []
    by true e more = absurd (omega (arith, e))
    by false e more = more e

pub some_live : (rows : List Row) (marks : List Mark) → length marks ≡ length rows → count_live marks ≢ 0 → live_rows rows marks ≢ []
some_live [] [] long e none = e refl
some_live [] (m ∷ marks) long e none = absurd (omega (arith, long))
some_live (row ∷ rows) [] long e none = absurd (omega (arith, long))
some_live (row ∷ rows) (m ∷ marks) long e none = by m.live e none (some_live rows marks (omega (arith, long)))
  where
    by : (b : Bool) → (length (cond b (m ∷ filter (λ (x : Mark). x.live) marks) (filter (λ (x : Mark). x.live) marks)) ≢ 0)
        → cons_option (cond b (Some (renumbered (with_numbers m.values row.doc.num) row)) None) (live_rows rows marks) ≡ []
        → (count_live marks ≢ 0 → live_rows rows marks ≢ []) → ⊥
    by true e none more = cc none
    by false e none more = more e none

-- ---- as the calls tell it

-- rows read from a segment are those of which it is an inverted index
pub read_inverted : (s : Segment) (read : List Row) → read ≡ s.rows → length s.rows < 2 ^ 32 → IsInverted s
    → (documents read ≡ documents s.rows) × (length s.rows < 2 ^ 32) × IsInversion (documents read) s.postings
read_inverted s read e few is = (ap documents e, few, subst (λ (rows : List Row). IsInversion (documents rows) s.postings) (sym e) is)

pub of_given : (given : List Row) (s : Segment) → s.rows ≡ given → IsInversion (documents given) s.postings → IsInverted s
of_given given s same inverted = subst (λ (rows : List Row). IsInversion (documents rows) s.postings) (sym same) inverted

-- live docs that were new, and then had the updates applied: the live rows are the fates of all rows
pub fates_of_new : (given : List Row) (s : Segment) (count cut : ℕ) (new made : Marks) (u : Updates)
    → s.rows ≡ given → count ≡ length given → new ≡ record { applied = cut; marks = replicate count fresh } → IsInversion (documents given) s.postings
    → (IsInverted s → Fated 0 u s.rows new.marks made.marks) → (ops : List Numbered) → Stands u ops → live_rows s.rows made.marks ≡ survivors ops given
fates_of_new given s count cut new made u same counted is inverted fates ops stands =
    fated_fresh u s.rows made.marks
    (subst (λ (before : List Mark). Fated 0 u s.rows before made.marks) (ap (λ (m : Marks). m.marks) is ∙ ap (λ n. replicate n fresh) (counted ∙ sym (ap length same))) (fates (of_given given s same inverted)))
    ops stands
    ∙ ap (survivors ops) same
