use Rattle.std.proofs.Common.{ℕ, subst, arith}
use Rattle.delete_queue.specs.Copying.{Copied}
use Rattle.delete_queue.proofs.Copying.{copied_later, all_copied}
use Rattle.delete_queue.proofs.Laws.{learns_on, seen_stays}
use Rattle.delete_queue.proofs.queue.DeleteQueue.copy_all.Goals as goal

pub returns-in_default-clause-copied : goal.returns-in_default-clause-copied
returns-in_default-clause-copied c =
    let i = c.loop-found.invariant in let end = c.in_default.ensures.end in
    all_copied c.args.self.now c.next.new.seat c.loop-found.place.at c.loop-found.room c.in_default.ensures.seat
    (copied_later c.loop-found.seat c.next.new.seat c.loop-found.place.at c.loop-found.room c.in_default.ensures.learns.grows.extends i.4) end.0 end.1

pub copy-requires-clause-copied : goal.copy-requires-clause-copied
copy-requires-clause-copied c =
    let i = c.loop-found.invariant in let next = c.in-Some.ensures.found.1 in
    subst (λ (n : ℕ). Copied c.next.new.seat n c.loop-found.room) (omega (arith, next))
    (copied_later c.loop-found.seat c.next.new.seat c.loop-found.place.at c.loop-found.room c.in-Some.ensures.learns.grows.extends i.4)

pub loop-found-preserved : goal.loop-found-preserved
loop-found-preserved c =
    let i = c.loop-found.invariant in
    let found = c.in-Some.ensures.found in
    let copied = c.copy.ensures.learns in
    let within = found.2 in let same = copied.1 in (
      c.copy.ensures.seat,
      learns_on c.args.seat.now c.loop-found.seat c.copy.new.seat i.1 (learns_on c.loop-found.seat c.next.new.seat c.copy.new.seat c.in-Some.ensures.learns copied.0),
      seen_stays c.next.new.seat c.copy.new.seat c.in-Some.found.place copied.0.grows.extends found.0.known.seen,
      omega (arith, within, same),
      c.copy.ensures.copied,
      c.copy.ensures.space,
    )
