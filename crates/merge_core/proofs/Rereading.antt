-- What a merge has read, at a later moment.
use Rattle.std.proofs.Common.{◌≡◌, ◌∙◌, ℕ, List, [], ◌∷◌, Option, length, take, refl, sym, ap, subst}
use Rattle.ix_base.specs.declared.document.Row.{Row}
use Rattle.segment_core.specs.declared.segment.Segment.{Segment}
use Rattle.segment_core.specs.LiveRows.{Lived}
use Rattle.merge_postings.specs.Renumbering.{Moving}
use Rattle.merge_postings.specs.Steps.{IsMergedUpto}
use Rattle.merge_core.specs.Merging.{AreLater}
use Rattle.merge_core.specs.Numbers.{movings}
use Rattle.merge_core.specs.Reading.{AreNumbered, ReadingStays}
use Rattle.merge_core.specs.declared.origin.Origin.{Origin}
use Rattle.merge_core.proofs.Later.{are_later_then, later_length, rises_before, same_stored}
use Rattle.merge_core.proofs.Staging.{can_later, same_rows_of}

same_movings : (ss ts : List Lived) (ns : List (List (Option ℕ))) → AreLater ss ts → movings ts ns ≡ movings ss ns
same_movings [] [] ns p = refl
same_movings [] (t ∷ ts) ns p = absurd p
same_movings (s ∷ ss) [] ns p = absurd p
same_movings (s ∷ ss) (t ∷ ts) [] p = refl
same_movings (s ∷ ss) (t ∷ ts) (n ∷ ns) p =
    let first = ap (λ (g : Segment). record { terms = g.postings.terms; numbers = n }) p.0.segment in
    let rest = same_movings ss ts ns p.1 in
    λ i. first i ∷ rest i

numbered_later : (os : List Origin) (ss ts : List Lived) (rows : List Row) → AreLater ss ts → AreNumbered os ss rows → AreNumbered os ts rows
numbered_later os ss ts rows p was = record {
  origins_are = same_rows_of ss ts p os ∙ was.origins_are;
  births = λ limit rise. was.births limit (rises_before limit ss ts p rise);
  few = was.few;
  complete = λ later q. was.complete later (are_later_then ss ts later p q);
}

pub reading_stays : ReadingStays
reading_stays m ss ts count read p = record {
  can = can_later ss ts p read.can;
  rows = read.rows;
  numbered = numbered_later m.origins.items ss ts read.rows p read.numbered;
  copied = read.copied ∙ sym (same_rows_of ss ts p (take (length m.rows) m.origins.items));
  enough = read.enough;
  counted = read.counted ∙ sym (ap (λ (xs : List Row). length xs) (same_stored ss ts p));
  numbers_count = read.numbers_count ∙ sym (later_length ss ts p);
  numbers = read.numbers;
  merged = subst (λ (ms : List Moving). IsMergedUpto ms m.postings) (sym (same_movings ss ts m.numbers.items p)) read.merged;
}
