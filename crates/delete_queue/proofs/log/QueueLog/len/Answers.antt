use Rattle.std.proofs.Common.{◌∙◌, sym}
use Rattle.delete_queue.proofs.Cutting.{length-pieces}
use Rattle.delete_queue.proofs.log.QueueLog.len.Goals as goal

pub returns : goal.returns
returns c = let log = c.args.self.now in c.len.ensures ∙ (log.ends.ok.0 ∙ sym (length-pieces 0 log.ends.items log.words.items))
