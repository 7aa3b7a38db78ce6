use Rattle.std.proofs.Common.{arith}
use Rattle.delete_queue.proofs.Cutting.{within, bounded}
use Rattle.delete_queue.proofs.log.QueueLog.bounds.Goals as goal

pub begin-requires : goal.begin-requires
begin-requires c = let log = c.args.self.now in let lt = within log c.args.i c.requires in omega (arith, lt)

pub index-requires : goal.index-requires
index-requires c = let log = c.args.self.now in let lt = within log c.args.i c.requires in let len = log.ends.ok.0 in omega (arith, lt, len)

pub returns-clause-order : goal.returns-clause-order
returns-clause-order c = (bounded c.args.self.now c.args.i c.begin.result c.index.result.now c.requires c.begin.ensures c.index.ensures).0

pub returns-clause-inside : goal.returns-clause-inside
returns-clause-inside c = (bounded c.args.self.now c.args.i c.begin.result c.index.result.now c.requires c.begin.ensures c.index.ensures).1

pub returns-clause-index : goal.returns-clause-index
returns-clause-index c = let log = c.args.self.now in let lt = within log c.args.i c.requires in let len = log.ends.ok.0 in let few = log.few in omega (arith, lt, len, few)

pub returns-clause-piece : goal.returns-clause-piece
returns-clause-piece c = (bounded c.args.self.now c.args.i c.begin.result c.index.result.now c.requires c.begin.ensures c.index.ensures).2
