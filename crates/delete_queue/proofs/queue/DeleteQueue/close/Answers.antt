use Rattle.std.proofs.Common.{sym, subst}
use Rattle.ix_base.specs.Words.{IsEntryWords}
use Rattle.delete_queue.proofs.Growing.{grown_by, grown_none}
use Rattle.delete_queue.proofs.Words.{closes}
use Rattle.delete_queue.proofs.queue.DeleteQueue.close.Goals as goal

pub put-requires-clause-words : goal.put-requires-clause-words
put-requires-clause-words c = subst IsEntryWords (sym c.closing_head.ensures) (closes c.args.closing)

pub returns-then-put-clause-grows : goal.returns-then-put-clause-grows
returns-then-put-clause-grows c = grown_by c.args.self.now c.args.seat.now c.put.new.seat _ c.requires.seat c.put.ensures.seat c.put.ensures.follows c.if-put.ensures.put.own

pub returns-else-put-clause-grows : goal.returns-else-put-clause-grows
returns-else-put-clause-grows c = grown_none c.args.self.now c.args.seat.now c.put.new.seat c.requires.seat c.put.ensures.seat c.put.ensures.follows c.if-put.ensures.put.own
