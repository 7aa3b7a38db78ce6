use Rattle.std.proofs.Common.{sym}
use Rattle.piece_queue.proofs.Sorting.{puts}
use Rattle.piece_queue.proofs.receiver.add_to.Goals as goal

pub returns-clause-added : goal.returns-clause-added
returns-clause-added c = λ taken h.
    puts c.args.all.now.items c.args.piece c.index_mut.result.now c.push.new.self taken c.requires.inside
    (sym c.index_mut.ensures.value) c.in_ok-push.ensures.items h
