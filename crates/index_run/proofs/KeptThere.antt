-- What a writer can go on from, in other files that keep the last commit's segments.
use Rattle.std.proofs.Common.{◌≡◌, inl, inr, ℕ, suc, List, [], ◌∷◌, refl, sym, subst, ◌∙◌, arith}
use Rattle.std.specs.Prelude.{Contains}
use Rattle.ix_base.specs.declared.file_name.FileName.{FileName}
use Rattle.ix_base.specs.declared.file_name.FileName.TheVariants.{Live, Posts, Rows, Values}
use Rattle.ix_outside.specs.Files.{Files}
use Rattle.segment_core.specs.LiveRows.{Lived}
use Rattle.commit_point.specs.declared.heads.HeadSegment.{HeadSegment}
use Rattle.commit_point.specs.declared.open.Opened.{Opened}
use Rattle.commit_point.specs.Holds.{HasSegment, HasSegments, HaveSegments, IsAmong, KeepsCommits, head_of, names_of}
use Rattle.commit_point.proofs.KeptLaws.{there_by}
use Rattle.commit_point.proofs.RowsKept.{rows_kept}
use Rattle.index_writer.specs.declared.state.State.{State}
use Rattle.index_writer.specs.Laws.{OpenedGoOn}
use Rattle.index_writer.specs.Ready.{IsStored, opened_on}
use Rattle.index_writer.specs.Storing.{GoesOn}
use Rattle.run_log.specs.Headline.{Given, HasOnly, KeepsSegments}
use Rattle.run_log.proofs.OnlyLaws.{lists_back, none_there}
use Rattle.index_run.specs.Leaving.{IsOfLast}

-- a writer that goes on from the first files goes on from these
pub goes_on_there : (files d : Files) (w : State) → GoesOn files w → IsStored d w → HasOnly files d → GoesOn d w
goes_on_there files d w goes stored has = record {
  none_above = λ t above. none_there files d t has (goes.none_above t above);
  ids = λ t e lists. goes.ids t e (lists_back files d t e has lists);
  stored = stored;
}

-- ---- the segments of a commit

segment_there : (files d : Files) (t : ℕ) (e : HeadSegment) (g : Lived)
    → ((name : FileName) → IsAmong (names_of e) name → d name ≡ files name)
    → HasSegment files t e g → HasSegment d t e g
segment_there files d t e g same has = record {
  id = has.id;
  count = has.count;
  whole = has.whole;
  applied = has.applied;
  rows = rows_kept files d e.id g.segment.rows (same (Rows e.id) (inl refl)) has.rows;
  posts = same (Posts e.id) (inr (inl refl)) ∙ has.posts;
  live = same (Live e.id e.written) (inr (inr (inl refl))) ∙ has.live;
  values = same (Values e.id e.written) (inr (inr (inr (inl refl)))) ∙ has.values;
  rows_fit = has.rows_fit;
  posts_fit = has.posts_fit;
  live_fit = has.live_fit;
  values_fit = has.values_fit;
}

segments_there : (files d : Files) (t : ℕ) (entries : List HeadSegment) (segments : List Lived)
    → ((e : HeadSegment) → Contains entries e → (name : FileName) → IsAmong (names_of e) name → d name ≡ files name)
    → HaveSegments files t entries segments → HaveSegments d t entries segments
segments_there files d t [] [] same have = have
segments_there files d t [] (g ∷ gs) same have = have
segments_there files d t (e ∷ es) [] same have = have
segments_there files d t (e ∷ es) (g ∷ gs) same have = (
  segment_there files d t e g (same e (0, omega arith, refl)) have.0,
  segments_there files d t es gs (λ x h. same x (suc h.0, omega (arith, h.1), h.2)) have.1,
)

-- ---- what is on the store of a writer that begins

-- files that keep each commit keep the segments of this one
pub segments_kept : (files d : Files) (s : ℕ) → KeepsCommits files d → KeepsSegments s files d
segments_kept files d s kept name e lists among =
    kept s (there_by files s _ lists.has_head.file) name (inr (e, lists, among))

-- the writer is on the last commit of the files
pub opened_of_last : OpenedGoOn → (g : Given) (last : Opened) (size merge : ℕ) → last.number ≡ g.base
    → HasSegments g.files last.number last.next_id last.entries last.segments → IsOfLast g (opened_on last size merge)
opened_of_last law g last size merge number spelled d kept =
    let same : KeepsSegments last.number g.files d =
    subst (λ (n : ℕ). KeepsSegments n g.files d) (sym number) kept in
    (law d last).stored size merge
    (segments_there g.files d last.number last.entries last.segments
    (λ e listed name among.
    same name e (record {
      head = head_of last.number last.next_id spelled.tail last.entries last.segments;
      has_head = spelled.head;
      listed = listed;
    }) among)
    spelled.each)
