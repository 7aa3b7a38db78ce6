use Rattle.std.proofs.Common.{◌∙◌, ◌∷◌, ap, sym}
use mathlib.Core.Option.{some}
use lib.ListN.{get_elem?}
use Rattle.delete_queue.specs.Seats.{the_view}
use Rattle.delete_queue.proofs.Looking.{at_count}
use Rattle.delete_queue.proofs.seat.Seat.last.Goals as goal

pub returns-clause-seen : goal.returns-clause-seen
returns-clause-seen c = let v = the_view c.args.self.now in ap (get_elem? (0 ∷ v.seen)) c.requires.count ∙ (at_count 0 v.seen ∙ ap some (sym c.requires.last))
