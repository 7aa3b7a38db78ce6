use Rattle.std.proofs.Common.{◌≡◌, ◌∙◌, List, true, sym, ap, subst}
use Rattle.ix_base.specs.Limits.{names_rise}
use Rattle.ix_base.specs.Steps.{Named}
use Rattle.segment_core.specs.LiveRows.{with_numbers}
use Rattle.searcher.proofs.MergedNumbers.{names, rise_with}
use Rattle.searcher.proofs.numbers.numbers_with.Goals as goal

pub from_vec-requires : goal.from_vec-requires
from_vec-requires c =
    let own = c.as_slice.ensures in
    subst (λ (ns : List Named). names_rise (names ns) ≡ true) (sym (c.in_ok-made.ensures ∙ ap (with_numbers c.args.values.now) own.pairs)) (rise_with c.args.values.now c.args.numbers.now own.rise)
