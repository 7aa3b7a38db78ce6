use Rattle.std.proofs.Common.{ℕ, List, Some, None, ◌∙◌, ap}
use Rattle.ix_base.specs.Limits.{text_lt}
use Rattle.ix_base.proofs.ReadLoops.{left_by-last}
use Rattle.segment_files.proofs.read_documents.comes_next.Goals as goal

pub returns-in-Some : goal.returns-in-Some
returns-in-Some g c =
    let e = left_by-last (λ (pair : List ℕ × g.row.V.Denot). Some pair.0) None c.args.pairs.now c.in-Some.pair.now c.in-Some.ensures.item.3.0 c.in-Some.ensures.item.1 in
    rw e (c.lt.ensures ∙ ap (λ (t : List ℕ). text_lt t c.as_str-in-Some.result.now) c.as_str.ensures.bytes ∙ ap (λ (t : List ℕ). text_lt c.in-Some.pair.now.0 t) c.as_str-in-Some.ensures.bytes)
