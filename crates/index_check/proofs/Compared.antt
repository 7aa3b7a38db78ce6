-- What the comparison of a segment's postings comes to.
use Rattle.std.proofs.Common.{◌≡◌, ◌∙◌, ℕ, suc, ◌+◌, ◌^◌, ◌<◌, List, ◌∷◌, ◌++◌, length, get_or, take, drop, Option, Some, None, sym, ap, subst}
use Rattle.std.specs.Prelude.{MatchOption, IsSome}
use Rattle.std.specs.List.{AllByRecursion}
use Rattle.std.proofs.Common.{add-one}
use Rattle.std.proofs.Math.Seq.{split_at}
use Rattle.ix_base.specs.Inversion.{IsInversion}
use Rattle.ix_base.specs.declared.file_name.FileName.TheVariants.{Posts}
use Rattle.ix_base.specs.declared.postings.Postings.{Postings}
use Rattle.segment_core.specs.LiveRows.{Lived}
use Rattle.segment_core.specs.Segments.{documents, IsInverted}
use Rattle.segment_core.specs.declared.segment.Segment.{Segment}
use Rattle.segment_files.specs.Fits.{PostingsFit}
use Rattle.index_check.specs.Difference.{DifferAt, HaveOther, IsOtherAt, spelled}
use Rattle.index_check.specs.declared.fault.Difference.{Difference}
use Rattle.index_check.proofs.Shared.{same_postings}

pub bytes_compared : (segment : Segment) (wanted : Postings) (found other : List ℕ) (r : Option Difference) → segment.id < 2 ^ 64 → length segment.rows < 2 ^ 32
    → PostingsFit (length segment.rows) segment.postings → PostingsFit (length segment.rows) wanted → IsInversion (documents segment.rows) wanted
    → found ≡ spelled segment segment.postings → other ≡ spelled segment wanted
    → MatchOption r (found ≡ other) (DifferAt (Posts segment.id) found other) → MatchOption r (IsInverted segment) (IsOtherAt segment)
bytes_compared segment wanted found other None id_fits few fits wanted_fits inversion found_is other_is same =
    let postings : segment.postings ≡ wanted = same_postings segment.id (length segment.rows) segment.postings wanted id_fits few fits wanted_fits (sym found_is ∙ same ∙ other_is) in
    subst (IsInversion (documents segment.rows)) (sym postings) inversion
bytes_compared segment wanted found other (Some d) id_fits few fits wanted_fits inversion found_is other_is differ =
    let first : DifferAt (Posts segment.id) (spelled segment segment.postings) other d = subst (λ (bs : List ℕ). DifferAt (Posts segment.id) bs other d) found_is differ in
    record { wanted = wanted; inversion = inversion; differ = subst (λ (bs : List ℕ). DifferAt (Posts segment.id) (spelled segment segment.postings) bs d) other_is first }

pub other_among : (IsSame : Lived → Type 0) (segments : List Lived) (i : ℕ) (g : Lived) (r : Option Difference) → i < length segments → g ≡ get_or segments i g
    → AllByRecursion IsSame (take i segments) → MatchOption r (IsSame g) (IsOtherAt g.segment) → IsSome r
    → MatchOption r (AllByRecursion IsSame segments) (HaveOther IsSame segments)
other_among IsSame segments i g None lt is same found some = absurd cc
other_among IsSame segments i g (Some d) lt is same found some = record {
  before = take i segments;
  other = g;
  behind = drop (i + 1) segments;
  there = rw add-one (split_at segments i g lt ∙ ap (λ (x : Lived). take i segments ++ x ∷ drop (suc i) segments) (sym is));
  same = same;
  differs = found;
}
