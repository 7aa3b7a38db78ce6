use Rattle.std.proofs.Common.{List, ℕ, Some, None, ap, ◌∙◌}
use Rattle.std.specs.Prelude.{not}
use Rattle.ix_base.specs.Limits.{text_lt}
use Rattle.ix_base.proofs.ReadLoops.{left_by-last}
use Rattle.ix_base.specs.declared.postings.TermPostings.{TermPostings}
use Rattle.segment_files.proofs.read_terms.field_may_come.Goals as goal

pub returns-in-Some : goal.returns-in-Some
returns-in-Some c =
    let e = left_by-last (λ (entry : TermPostings). Some entry.term) None c.args.entries.now c.in-Some.entry.now c.in-Some.ensures.item.3.0 c.in-Some.ensures.item.1 in
    rw e (ap not (c.lt.ensures ∙ ap (λ (t : List ℕ). text_lt t c.as_str-in-Some.result.now) c.as_str.ensures.bytes ∙ ap (λ (t : List ℕ). text_lt c.args.field.now t) c.as_str-in-Some.ensures.bytes))
