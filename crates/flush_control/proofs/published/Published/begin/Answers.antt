use Rattle.std.proofs.Common.{sym, subst}
use Rattle.flush_control.specs.Merging.{PicksStart}
use Rattle.flush_control.proofs.Turning.{picks_start}
use Rattle.flush_control.proofs.published.Published.begin.Goals as goal

pub started-requires-clause-can : goal.started-requires-clause-can
started-requires-clause-can c = subst (PicksStart c.args.m) (sym c.as_slice.ensures) (picks_start c.args.m c.args.self.now c.requires.published)
