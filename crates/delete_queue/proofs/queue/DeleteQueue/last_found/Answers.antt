use Rattle.std.proofs.Common.{◌∙◌, ap, sym, subst}
use Rattle.delete_queue.specs.declared.seat.Place.{Place}
use Rattle.delete_queue.specs.Seats.{KnowsHead, number_at}
use Rattle.delete_queue.proofs.Looking.{found_is, last_found}
use Rattle.delete_queue.proofs.queue.DeleteQueue.last_found.Goals as goal

pub returns-clause-found : goal.returns-clause-found
returns-clause-found c = let s = c.args.seat.now in let f = c.found_at.result in
    found_is s f s.progress.head
    (subst (λ (p : Place). KnowsHead s p s.progress.head) (sym c.found_at.ensures.place) (last_found c.args.self.now s c.last.result c.requires.0 c.requires.1 c.last.ensures.seen c.last.ensures.last))
    (c.found_at.ensures.number ∙ ap (λ (p : Place). number_at s.base p.at s.progress.head) (sym c.found_at.ensures.place))
    c.found_at.ensures.kind
    c.found_at.ensures.words
