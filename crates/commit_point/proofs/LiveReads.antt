-- The live docs of live bits and set numbers that were read.
use Rattle.std.proofs.Common.{◌≡◌, ℕ, Bool, List, length, Option, sym, ap, subst, ◌∙◌}
use Rattle.ix_outside.specs.Files.{Files}
use Rattle.live_docs.specs.Marks.{Marks}
use Rattle.live_files.specs.LiveFits.{ValuesFit}
use Rattle.live_files.proofs.LiveMarkLaws.{bits_back, values_back}
use Rattle.live_files.specs.LiveMarks.{marks_of}
use Rattle.live_files.specs.LiveSpelling.{SetValue, live_bits, values_of}
use Rattle.commit_point.specs.declared.heads.HeadSegment.{HeadSegment}
use Rattle.commit_point.specs.SegmentReads.{BitsRead, ValuesRead}

-- what was read, and what the live docs were made of
pub record Joins (applied : ℕ) (bits seen_bits : List Bool) (values seen_values : List SetValue) (live : Marks) : Type 0 where
  pub same_bits : seen_bits ≡ bits
  pub same_values : seen_values ≡ values
  pub made : live ≡ record { applied = applied; marks = marks_of seen_bits seen_values }

pub bits_joined : (told : Option Files) (e : HeadSegment) (applied : ℕ) (bits seen_bits : List Bool) (values seen_values : List SetValue) (live : Marks) → Joins applied bits seen_bits values seen_values live
    → BitsRead told e bits → BitsRead told e (live_bits live.marks)
bits_joined told e applied bits seen_bits values seen_values live joins read =
    subst (BitsRead told e) (sym (ap (λ (m : Marks). live_bits m.marks) joins.made ∙ bits_back seen_bits seen_values ∙ joins.same_bits)) read

pub values_joined : (told now_told : Option Files) (e : HeadSegment) (applied : ℕ) (bits seen_bits : List Bool) (values seen_values : List SetValue) (live : Marks) → now_told ≡ told → Joins applied bits seen_bits values seen_values live
    → BitsRead told e bits → ValuesRead now_told e values → ValuesRead told e (values_of live.marks)
values_joined told now_told e applied bits seen_bits values seen_values live same joins bits_read read =
    let rows : e.rows ≡ length seen_bits = sym bits_read.1.count ∙ ap length (sym joins.same_bits) in
    let fit : ValuesFit (length seen_bits) seen_values = subst (λ (n : ℕ). ValuesFit n seen_values) rows (subst (ValuesFit e.rows) (sym joins.same_values) read.1) in
    let back : values_of live.marks ≡ values = ap (λ (m : Marks). values_of m.marks) joins.made ∙ values_back seen_bits seen_values fit ∙ joins.same_values in
    subst (ValuesRead told e) (sym back) (subst (λ (o : Option Files). ValuesRead o e values) same read)
