use Rattle.std.proofs.Common.{refl}
use Rattle.delete_queue.proofs.Finishing.{is_log}
use Rattle.delete_queue.proofs.queue.DeleteQueue.finish.Goals as goal

pub returns-clause-log : goal.returns-clause-log
returns-clause-log c = is_log c.args.self c.in-Some.seat c.copy_all.new.seat c.args.seats.items c.copy_all.new.room _ c.copy_all.ensures.seat c.in-Some.ensures.taken c.copy_all.ensures.learns c.copy_all.ensures.copied refl refl refl
