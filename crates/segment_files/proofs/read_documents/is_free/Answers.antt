use Rattle.std.proofs.Common.{List, ℕ, sym, ap, map, ◌∙◌}
use Rattle.ix_base.specs.Limits.{is_among}
use Rattle.segment_files.proofs.Readers.{free_from}
use Rattle.segment_files.proofs.read_documents.is_free.Goals as goal

pub returns-then-ne : goal.returns-then-ne
returns-then-ne c = free_from (map (λ pair. pair.0) c.args.taken.now) c.args.name.now c.as_str.result.now c.has_name.result c.as_str.ensures.bytes (sym c.ne.ensures ∙ c.if-ne.true) (c.has_name.ensures ∙ ap (is_among (map (λ (pair : List ℕ × List ℕ). pair.0) c.args.taken.now)) c.as_str-then-ne.ensures.bytes)
