use Rattle.std.proofs.Common.{◌+◌, ◌∙◌, ap, refl, ne_eqb}
use Rattle.queue_rule.specs.declared.view.View.{View}
use Rattle.queue_rule.specs.Views.{knows, loaded}
use Rattle.delete_queue.specs.Seats.{the_view}
use Rattle.delete_queue.proofs.Growing.{learnt}
use Rattle.delete_queue.proofs.Looking.{looked_on, look_follows}
use Rattle.delete_queue.proofs.queue.DeleteQueue.look.Goals as goal

pub go_on-requires : goal.go_on-requires
go_on-requires c = let found = c.load_next-found.result in let view = rw (ne_eqb found 0 c.if-found-eq0.false) at c.load_next-found.ensures.view in
    let s = c.args.seat.now in
    record { seat = looked_on c.args.self.now s (record { inner = c.load_next-found.new.seat; base = s.base; progress = s.progress }) (loaded s.progress.last found ((the_view s).loaded.count + 1)) found c.requires.seat c.load_next-found.ensures.seat view.0 view.1 refl refl }

pub returns-clause-learns : goal.returns-clause-learns
returns-clause-learns c = let found = c.load_next-found.result in let view = rw (ne_eqb found 0 c.if-found-eq0.false) at c.load_next-found.ensures.view in
    let s = c.args.seat.now in let head = c.go_on.new.seat.progress.head in
    let v = c.go_on.ensures.view ∙ ap (λ (x : View). knows x (found + 1) head) view.0 in
    learnt c.args.self.now s c.go_on.new.seat c.requires.seat c.go_on.ensures.seat (look_follows (the_view s) (the_view c.go_on.new.seat) (loaded s.progress.last found ((the_view s).loaded.count + 1)) found head v) (ap (λ (x : View). x.own) v)
