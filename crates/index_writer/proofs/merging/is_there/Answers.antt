use Rattle.std.proofs.Common.{rules}
use Rattle.std.specs.Prelude.{◌==◌}
use Rattle.std.proofs.lemmas.Iterator.{YieldsList-from_slice}
use Rattle.std.proofs.lemmas.Iterator.Search.{any_from_yields_List}
use borrow.Author.Tests.{tests}
use Rattle.segment_core.specs.LiveRows.{Lived}
use Rattle.index_writer.proofs.merging.is_there.Goals as goal

pub returns : goal.returns
returns c =
    any_from_yields_List (λ (g : Lived). g.segment.id == c.args.id) _ _ _ c.any.ensures.ran (YieldsList-from_slice c.args.segments.now cc) (λ x b q k. search (rules, tests))
