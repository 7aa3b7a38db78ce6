-- A writer on a commit that was read.
use Rattle.std.proofs.Common.{◌≡◌, ℕ, ◌≤◌, List, [], ◌∷◌, Option, length, sym, subst, arith, ◌∙◌, ap}
use Rattle.std.specs.List.{AllByRecursion}
use Rattle.segment_core.specs.LiveRows.{Lived}
use Rattle.commit_point.specs.declared.heads.HeadSegment.{HeadSegment}
use Rattle.commit_point.specs.declared.open.Opened.{Opened}
use Rattle.commit_point.specs.declared.written.Written.{Written}
use Rattle.commit_point.specs.Writing.{WrittenUpTo}
use Rattle.index_writer.specs.Ready.{CanFollow, IsReady, NewIdsFrom, opened_on, written_of}

no_new : (since : ℕ) (es : List HeadSegment) (gs : List Lived) → NewIdsFrom since gs (written_of es gs)
no_new since [] [] = tt
no_new since [] (g ∷ gs) = tt
no_new since (e ∷ es) [] = tt
no_new since (e ∷ es) (g ∷ gs) = no_new since es gs

pub opened : (last : Opened) (size merge : ℕ) (ws : List (Option Written)) → CanFollow last → 1 ≤ size → size ≤ 65536 → 2 ≤ merge → merge ≤ 64
    → ws ≡ written_of last.entries last.segments
    → IsReady (record (opened_on last size merge) { written = ws })
opened last size merge ws can some most several within is = record {
  published = record { can = can.can.can; ids = can.can.ids; some_id = can.some_id; apart = can.can.apart; running = tt };
  count = ap (λ (xs : List (Option Written)). length xs) is ∙ can.can.count;
  written = subst (AllByRecursion (WrittenUpTo last.number)) (sym is) can.can.written;
  new_ids = subst (NewIdsFrom last.next_id last.segments) (sym is) (no_new last.next_id last.entries last.segments);
  since = omega arith;
  last = omega arith;
  pending = tt;
  some = some;
  most = most;
  several = several;
  within = within;
}
