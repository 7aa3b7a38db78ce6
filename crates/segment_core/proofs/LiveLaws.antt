-- As many rows are live as their marks say.
use Rattle.std.proofs.Common.{◌≡◌, suc, List, [], ◌∷◌, Bool, true, false, cond, length, Some, None, refl, ap, arith}
use Rattle.std.specs.List.{filter, cons_option}
use Rattle.ix_base.specs.declared.document.Row.{Row}
use Rattle.live_docs.specs.Marks.{count_live}
use Rattle.live_docs.specs.declared.live_docs.Mark.{Mark}
use Rattle.row_fates.specs.Fate.{renumbered}
use Rattle.segment_core.specs.LiveRows.{with_numbers, live_rows}

pub live_counted : (rows : List Row) (marks : List Mark) → length marks ≡ length rows → length (live_rows rows marks) ≡ count_live marks
live_counted [] [] long = refl
live_counted [] (m ∷ marks) long = absurd (omega (arith, long))
live_counted (row ∷ rows) [] long = absurd (omega (arith, long))
live_counted (row ∷ rows) (m ∷ marks) long = by m.live (live_counted rows marks (omega (arith, long)))
  where
    by : (b : Bool) → length (live_rows rows marks) ≡ count_live marks
        → length (cons_option (cond b (Some (renumbered (with_numbers m.values row.doc.num) row)) None) (live_rows rows marks))
        ≡ length (cond b (m ∷ filter (λ (x : Mark). x.live) marks) (filter (λ (x : Mark). x.live) marks))
    by true more = ap suc more
    by false more = more
