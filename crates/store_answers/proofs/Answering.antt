-- What is answered from a commit that was read, or said where it is damaged.
use Rattle.std.proofs.Common.{◌≡◌, ◌⊎◌, inl, inr, ℕ, List, Option, Some, Err, refl, sym, subst}
use Rattle.ix_base.specs.declared.damaged.Damaged.{Damaged}
use Rattle.ix_base.specs.declared.document.Row.{Row}
use Rattle.ix_outside.specs.Files.{Files, Was}
use Rattle.segment_core.specs.LiveRows.{Lived}
use Rattle.commit_point.specs.Holds.{HasSegments, HoldsInverted}
use Rattle.commit_point.specs.Loading.{IsOutside}
use Rattle.commit_point.specs.Reading.{reading}
use Rattle.commit_point.proofs.SegmentLaws.{has_reads}
use Rattle.commit_point.specs.declared.fault.OpenFault.{OpenFault}
use Rattle.commit_point.specs.declared.fault.OpenFault.TheVariants as opening
use Rattle.commit_point.specs.declared.heads.HeadSegment.{HeadSegment}
use Rattle.commit_point.specs.declared.open.Opened.{Opened}
use Rattle.searcher.specs.Searching.{IsDamagedIn, Searches}
use Rattle.store_answers.proofs.Told.{same_files}

-- ---- a commit that was read

-- it can be searched
pub searches_read : (files : Files) (s next : ℕ) (rows : List Row) (holds : HoldsInverted files s next rows) (opened : Opened)
    → opened ≡ record { number = s; next_id = next; entries = holds.holds.entries; segments = holds.holds.segments } → Searches opened.segments rows
searches_read files s next rows holds opened is = subst (λ (o : Opened). Searches o.segments rows) (sym is) (record {
  number = s;
  rows_are = holds.holds.rows_are;
  inverted = holds.inverted;
})

-- ---- a damaged commit

-- what is spelled isn't broken
pub spelled_whole : {A : Type 0} (told : Option Files) (s next : ℕ) (entries : List HeadSegment) (segments : List Lived) (files : Files) (damaged : Damaged) → told ≡ Some files
    → (seen : Files) × Was told seen × HasSegments seen s next entries segments → reading files s ≡ Err damaged → A
spelled_whole told s next entries segments files damaged is spelled broken =
    let same : files ≡ spelled.0 = same_files told files spelled.0 is spelled.1 in
    let has : HasSegments files s next entries segments = subst (λ (f : Files). HasSegments f s next entries segments) (sym same) spelled.2 in
    let read = has_reads files s next entries segments has in
    absurd cc

-- why a damaged commit isn't opened
pub breaks : (told : Option Files) (s : ℕ) (fault : OpenFault) (files : Files) (damaged : Damaged)
    → ((d : Damaged) → fault ≡ opening.Damaged d → IsDamagedIn told s d) → ((other : ℕ) → fault ≡ opening.NoSuch other → ⊥)
    → told ≡ Some files → reading files s ≡ Err damaged → (fault ≡ opening.Damaged damaged) ⊎ IsOutside fault
breaks told s opening.Store files damaged each never is broken = inr (inl refl)
breaks told s opening.NoMemory files damaged each never is broken = inr (inr refl)
breaks told s (opening.NoSuch other) files damaged each never is broken = absurd (never other refl)
breaks told s (opening.Damaged d) files damaged each never is broken =
    let found = each d refl in
    let same : files ≡ found.0 = same_files told files found.0 is found.1 in
    let other : reading files s ≡ Err d = subst (λ (f : Files). reading f s ≡ Err d) (sym same) found.2 in
    inl cc
