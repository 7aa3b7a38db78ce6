use Rattle.std.proofs.Common.{◌≡◌, ◌+◌, ◌∙◌, ap, sym, refl, subst, ne_eqb}
use Rattle.queue_rule.specs.declared.view.View.{View}
use Rattle.queue_rule.specs.Chain.{filled}
use Rattle.queue_rule.specs.Views.{draft_start, sees, knows}
use Rattle.delete_queue.specs.Seats.{the_view, used_of}
use Rattle.delete_queue.specs.Linking.{Follows}
use Rattle.delete_queue.proofs.Fields.{came_in, missed, followed_links, follows_on, follows_sees, follows_knows}
use Rattle.delete_queue.proofs.queue.DeleteQueue.put.Goals as goal

pub came-requires : goal.came-requires
came-requires c = let i = c.loop-draft_start.invariant in let h = c.if-found-eq0.true in let view = rw h at c.try_link-found.ensures.view in
    record { seat = rw i.4 (came_in c.args.self.now c.loop-draft_start.seat (record { inner = c.try_link-found.new.seat; base = c.loop-draft_start.seat.base; progress = c.loop-draft_start.seat.progress }) (used_of c.args.seat.now) c.args.words.now i.0 (ap filled (sym i.2)) c.requires.room c.requires.words i.1 c.try_link-found.ensures.seat view refl refl) }

pub returns-then-found-eq0-clause-follows : goal.returns-then-found-eq0-clause-follows
returns-then-found-eq0-clause-follows c = let i = c.loop-draft_start.invariant in let h = c.if-found-eq0.true in let view = rw h at c.try_link-found.ensures.view in
    followed_links (the_view c.args.seat.now) (the_view c.loop-draft_start.seat) (the_view c.came.new.seat) i.3 (ap (λ s. s.me.0) c.came.ensures.seat.1 ∙ view)

pub go_on-requires : goal.go_on-requires
go_on-requires c = let i = c.loop-draft_start.invariant in let miss = rw (ne_eqb c.try_link-found.result 0 c.if-found-eq0.false) at c.try_link-found.ensures.view in
    record { seat = missed c.args.self.now c.loop-draft_start.seat (record { inner = c.try_link-found.new.seat; base = c.loop-draft_start.seat.base; progress = c.loop-draft_start.seat.progress }) c.try_link-found.result i.0 c.if-saw_close.ensures.1 c.try_link-found.ensures.seat miss.0 miss.1 refl refl }

pub loop-draft_start-preserved : goal.loop-draft_start-preserved
loop-draft_start-preserved c =
    let i = c.loop-draft_start.invariant in
    let found = c.try_link-found.result in
    let w = the_view c.loop-draft_start.seat in
    let miss = rw (ne_eqb found 0 c.if-found-eq0.false) at c.try_link-found.ensures.view in
    let head = c.go_on.new.seat.progress.head in
    let v : the_view c.go_on.new.seat ≡ knows (sees w found) (found + 1) head = c.go_on.ensures.view ∙ ap (λ (x : View). knows x (found + 1) head) miss.0 in (
      c.go_on.ensures.seat,
      ap (λ (x : View). x.draft) v ∙ i.1,
      ap (λ (x : View). x.own) v ∙ i.2,
      subst (Follows (the_view c.args.seat.now)) (sym v) (follows_on _ w (knows (sees w found) (found + 1) head) i.3 (follows_on w (sees w found) _ (follows_sees w found) (follows_knows (sees w found) (found + 1) head))),
      i.4 ∙ ap draft_start (sym v),
    )
