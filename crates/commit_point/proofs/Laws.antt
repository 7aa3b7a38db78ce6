-- Laws of what commits hold.
use Rattle.std.specs.Prelude.{◌≡◌, ◌≢◌, ℕ, ◌+◌, ◌<◌, List, [], ◌∷◌, Ok}
use Rattle.std.specs.List.{AllByRecursion}
use Rattle.std.proofs.Common.{◌∙◌, ap, sym, arith}
use Rattle.ix_base.specs.declared.file_name.FileName.TheVariants.{Commit, Rows, Posts, Live, Values}
use Rattle.ix_base.specs.declared.document.Row.{Row}
use Rattle.ix_outside.specs.Files.{Files}
use Rattle.segment_core.specs.LiveRows.{Lived}
use Rattle.commit_point.specs.declared.heads.HeadSegment.{HeadSegment}
use Rattle.commit_point.specs.declared.heads.Head.{Head}
use Rattle.commit_point.specs.Fits.{IdsRise, EntryFits}
use Rattle.commit_point.proofs.HeadReading.{head_again}
use Rattle.commit_point.proofs.RowsKept.{rows_kept}
use Rattle.commit_point.specs.Reading.{head_in}
use Rattle.commit_point.specs.Holds.{Holds, HoldsInverted, HasSegments, HaveSegments, HasHead}
use Rattle.commit_point.specs.Spelling.{commit_file}
use Rattle.commit_point.specs.Writing.{SameElsewhere}

-- a commit file spells one head
pub one_head : (files : Files) (s : ℕ) (a b : Head) → HasHead files s a → HasHead files s b → a ≡ b
one_head files s a b p q =
    let same : commit_file a ≡ commit_file b = (let one = p.file in let two = q.file in cc) in
    let first : head_in s (commit_file a) ≡ Ok a = ap (λ (n : ℕ). head_in n (commit_file a)) (sym p.number) ∙ head_again a p.fits in
    let second : head_in s (commit_file b) ≡ Ok b = ap (λ (n : ℕ). head_in n (commit_file b)) (sym q.number) ∙ head_again b q.fits in
    let read : head_in s (commit_file a) ≡ head_in s (commit_file b) = ap (head_in s) same in
    cc

-- all ids below this one are old
abbrev pub OldBelow : ℕ → (ℕ → Type 0) → Type 0
OldBelow limit Old = (id : ℕ) → id < limit → Old id

segments_kept : (t s low limit : ℕ) (Old : ℕ → Type 0) (old new : Files) (entries : List HeadSegment) (segments : List Lived)
    → t < s → OldBelow limit Old → SameElsewhere s Old old new → IdsRise low limit entries
    → AllByRecursion (EntryFits t) entries → HaveSegments old t entries segments → HaveSegments new t entries segments
segments_kept t s low limit Old old new [] [] lt are same rise fit have = have
segments_kept t s low limit Old old new [] (g ∷ gs) lt are same rise fit have = have
segments_kept t s low limit Old old new (e ∷ es) [] lt are same rise fit have = have
segments_kept t s low limit Old old new (e ∷ es) (g ∷ gs) lt are same rise fit have =
    let before : e.written ≢ s = λ is. absurd (omega (arith, is, fit.0.not_later, lt)) in (
      record {
        id = have.0.id;
        count = have.0.count;
        whole = have.0.whole;
        applied = have.0.applied;
        rows = rows_kept old new e.id g.segment.rows (same (Rows e.id) (are e.id rise.1)) have.0.rows;
        posts = same (Posts e.id) (are e.id rise.1) ∙ have.0.posts;
        live = same (Live e.id e.written) before ∙ have.0.live;
        values = same (Values e.id e.written) before ∙ have.0.values;
        rows_fit = have.0.rows_fit;
        posts_fit = have.0.posts_fit;
        live_fit = have.0.live_fit;
        values_fit = have.0.values_fit;
      },
      segments_kept t s (e.id + 1) limit Old old new es gs lt are same rise.2 fit.1 have.1,
    )

-- A commit stays when a later one is made, whose new segments have none of its ids.
pub has_kept : (t n s : ℕ) (Old : ℕ → Type 0) (entries : List HeadSegment) (segments : List Lived) (old new : Files)
    → t < s → OldBelow n Old → SameElsewhere s Old old new
    → HasSegments old t n entries segments → HasSegments new t n entries segments
has_kept t n s Old entries segments old new lt are same h = record {
  tail = h.tail;
  head = record {
    file = same (Commit t) (λ e. absurd (omega (arith, e, lt))) ∙ h.head.file;
    number = h.head.number;
    fits = h.head.fits;
  };
  each = segments_kept t s 1 n Old old new entries segments lt are same h.head.fits.ids h.head.fits.entries h.each;
  apart = h.apart;
}

pub holds_kept : (t n s : ℕ) (Old : ℕ → Type 0) (rows : List Row) (old new : Files) → t < s → OldBelow n Old
    → SameElsewhere s Old old new → Holds old t n rows → Holds new t n rows
holds_kept t n s Old rows old new lt are same h = record {
  entries = h.entries;
  segments = h.segments;
  spelled = has_kept t n s Old h.entries h.segments old new lt are same h.spelled;
  rows_are = h.rows_are;
}

pub inverted_kept : (t n s : ℕ) (Old : ℕ → Type 0) (rows : List Row) (old new : Files) → t < s → OldBelow n Old
    → SameElsewhere s Old old new → HoldsInverted old t n rows → HoldsInverted new t n rows
inverted_kept t n s Old rows old new lt are same h = record {
  holds = record {
    entries = h.holds.entries;
    segments = h.holds.segments;
    spelled = has_kept t n s Old h.holds.entries h.holds.segments old new lt are same h.holds.spelled;
    rows_are = h.holds.rows_are;
  };
  inverted = h.inverted;
}
