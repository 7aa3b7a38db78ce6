-- The files of a segment spell the same postings, and its rows fit a later commit too.
use Rattle.std.proofs.Common.{◌≡◌, ℕ, ◌+◌, ◌^◌, ◌<◌, ◌≤◌, List, [], ◌∷◌, Ok, sym, ap, subst, arith}
use Rattle.std.specs.List.{AllByRecursion}
use Rattle.ix_base.specs.Births.{first_birth, last_birth}
use Rattle.ix_base.specs.declared.document.Row.{Row}
use Rattle.ix_base.specs.declared.postings.Postings.{Postings}
use Rattle.ix_outside.specs.Files.{Files}
use Rattle.segment_core.specs.LiveRows.{Lived}
use Rattle.segment_files.proofs.PostsRead.{posts_again}
use Rattle.segment_files.specs.Fits.{BirthsRise, PostingsFit, RowsFit}
use Rattle.segment_files.specs.Reading.{posts_in}
use Rattle.segment_files.specs.Spelling.{posts_file}
use Rattle.commit_point.specs.declared.heads.HeadSegment.{HeadSegment}
use Rattle.commit_point.specs.Holds.{HaveSegments}
use Rattle.index_check.specs.Earlier.{CanSpell}

-- ---- rows

births_later : (low s t : ℕ) (rows : List Row) → s ≤ t → BirthsRise low s rows → BirthsRise low t rows
births_later low s t [] le rise = tt
births_later low s t (r ∷ rs) le rise = (rise.0, omega (arith, le, rise.1), births_later (r.birth + 1) s t rs le rise.2)

pub fit_later : (s t : ℕ) (rows : List Row) → s ≤ t → RowsFit s rows → RowsFit t rows
fit_later s t rows le fits = record { some = fits.some; count = fits.count; births = births_later (first_birth 1) (last_birth s) (last_birth t) rows (omega (arith, le)) fits.births; documents = fits.documents }

-- ---- postings

pub same_postings : (id n : ℕ) (p q : Postings) → id < 2 ^ 64 → n < 2 ^ 32 → PostingsFit n p → PostingsFit n q → posts_file id n p ≡ posts_file id n q → p ≡ q
same_postings id n p q id_fits few p_fits q_fits same =
    let one : posts_in id n (posts_file id n p) ≡ Ok p = posts_again id n p id_fits few p_fits in
    let two : posts_in id n (posts_file id n q) ≡ Ok q = posts_again id n q id_fits few q_fits in
    let moved : posts_in id n (posts_file id n p) ≡ posts_in id n (posts_file id n q) = ap (posts_in id n) same in
    cc

-- ---- the segments of a commit

pub can_spell : (files : Files) (s : ℕ) (es : List HeadSegment) (gs : List Lived) → HaveSegments files s es gs → AllByRecursion CanSpell gs
can_spell files s [] [] have = tt
can_spell files s [] (g ∷ gs) have = absurd have
can_spell files s (e ∷ es) [] have = absurd have
can_spell files s (e ∷ es) (g ∷ gs) have = (
  record { few = have.0.whole.few; fits = subst (λ (n : ℕ). PostingsFit n g.segment.postings) (sym have.0.count) have.0.posts_fit },
  can_spell files s es gs have.1,
)
