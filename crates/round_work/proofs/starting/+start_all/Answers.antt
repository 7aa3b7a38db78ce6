use Rattle.std.proofs.Common.{◌∙◌, List, [], ◌∷◌, length, sym, ap, subst, arith, rules, length-append}
use denote.Exit.{yes}
use denote.Param.{param}
use denote.Param.Send.{sendable}
use Rattle.piece_queue.specs.Passes.{number_of}
use Rattle.thread_writer.specs.declared.writer.ThreadWriter.{ThreadWriter}
use Rattle.round_work.specs.declared.starting.Started.{Started}
use Rattle.round_work.specs.Rounds.{Starts, Stops}
use Rattle.round_work.proofs.Sending.{stopped_send, worker_send}
use Rattle.round_work.proofs.Workers.{at_work_many, can_begin, started_last, started_many}
use Rattle.round_work.proofs.starting.+start_all.Goals.{in-Ok, in-Err}
use Rattle.round_work.proofs.starting.+start_all.Goals as goal

pub unreachable-requires : goal.unreachable-requires
unreachable-requires g t c =
    let many = at_work_many c.args.queue.now 0 c.args.writers.items c.args.shares.items c.requires.workers in
    let none = c.in_default-pop.ensures.cases.0 in
    let some = c.in-Some.ensures.cases in
    let writers = c.args.writers.ok.0 in
    let shares = c.args.shares.ok.0 in
    omega (arith, many, none, some, writers, shares)

pub unreachable-requires-in_default-pop-2 : goal.unreachable-requires-in_default-pop-2
unreachable-requires-in_default-pop-2 g t c =
    let many = c.requires.count in
    let none = c.in_default-pop-2.ensures.cases.0 in
    let some = c.in-Some.ensures.cases in
    let writers = c.args.writers.ok.0 in
    let senders = c.args.senders.ok.0 in
    omega (arith, many, none, some, writers, senders)

pub start_all-started-requires-clause-workers : goal.start_all-started-requires-clause-workers
start_all-started-requires-clause-workers g t c = λ lifetimes lives.
    (can_begin c.args.queue.now c.args.pieces.now c.args.writers.items c.pop.new.self.items c.args.shares.items c.pop-2.new.self.items
    c.args.senders.items c.pop-3.new.self.items c.in-Some.writer c.in-Some-pop.share c.in-Some-pop-2.sender c.requires.workers
    c.requires.senders c.requires.count c.in-Some.ensures.items c.in-Some-pop.ensures.items c.in-Some-pop-2.ensures.items).before

pub start_all-started-requires-clause-senders : goal.start_all-started-requires-clause-senders
start_all-started-requires-clause-senders g t c = λ lifetimes lives.
    (can_begin c.args.queue.now c.args.pieces.now c.args.writers.items c.pop.new.self.items c.args.shares.items c.pop-2.new.self.items
    c.args.senders.items c.pop-3.new.self.items c.in-Some.writer c.in-Some-pop.share c.in-Some-pop-2.sender c.requires.workers
    c.requires.senders c.requires.count c.in-Some.ensures.items c.in-Some-pop.ensures.items c.in-Some-pop-2.ensures.items).others

pub start_all-started-requires-clause-count : goal.start_all-started-requires-clause-count
start_all-started-requires-clause-count g t c = λ lifetimes lives.
    (can_begin c.args.queue.now c.args.pieces.now c.args.writers.items c.pop.new.self.items c.args.shares.items c.pop-2.new.self.items
    c.args.senders.items c.pop-3.new.self.items c.in-Some.writer c.in-Some-pop.share c.in-Some-pop-2.sender c.requires.workers
    c.requires.senders c.requires.count c.in-Some.ensures.items c.in-Some-pop.ensures.items c.in-Some-pop-2.ensures.items).count

pub start_all-started-requires-2-clause-workers : goal.start_all-started-requires-2-clause-workers
start_all-started-requires-2-clause-workers g t c = λ lifetimes lives.
    (can_begin c.args.queue.now c.args.pieces.now c.args.writers.items c.pop.new.self.items c.args.shares.items c.pop-2.new.self.items
    c.args.senders.items c.pop-3.new.self.items c.in-Some.writer c.in-Some-pop.share c.in-Some-pop-2.sender c.requires.workers
    c.requires.senders c.requires.count c.in-Some.ensures.items c.in-Some-pop.ensures.items c.in-Some-pop-2.ensures.items).before

pub start_all-started-requires-2-clause-senders : goal.start_all-started-requires-2-clause-senders
start_all-started-requires-2-clause-senders g t c = λ lifetimes lives.
    (can_begin c.args.queue.now c.args.pieces.now c.args.writers.items c.pop.new.self.items c.args.shares.items c.pop-2.new.self.items
    c.args.senders.items c.pop-3.new.self.items c.in-Some.writer c.in-Some-pop.share c.in-Some-pop-2.sender c.requires.workers
    c.requires.senders c.requires.count c.in-Some.ensures.items c.in-Some-pop.ensures.items c.in-Some-pop-2.ensures.items).others

pub start_all-started-requires-2-clause-count : goal.start_all-started-requires-2-clause-count
start_all-started-requires-2-clause-count g t c = λ lifetimes lives.
    (can_begin c.args.queue.now c.args.pieces.now c.args.writers.items c.pop.new.self.items c.args.shares.items c.pop-2.new.self.items
    c.args.senders.items c.pop-3.new.self.items c.in-Some.writer c.in-Some-pop.share c.in-Some-pop-2.sender c.requires.workers
    c.requires.senders c.requires.count c.in-Some.ensures.items c.in-Some-pop.ensures.items c.in-Some-pop-2.ensures.items).count

pub work-stopped-requires-clause-sender : goal.work-stopped-requires-clause-sender
work-stopped-requires-clause-sender g t c = λ lifetimes lives.
    (can_begin c.args.queue.now c.args.pieces.now c.args.writers.items c.pop.new.self.items c.args.shares.items c.pop-2.new.self.items
    c.args.senders.items c.pop-3.new.self.items c.in-Some.writer c.in-Some-pop.share c.in-Some-pop-2.sender c.requires.workers
    c.requires.senders c.requires.count c.in-Some.ensures.items c.in-Some-pop.ensures.items c.in-Some-pop-2.ensures.items).sender

pub work-stopped-requires-clause-worker : goal.work-stopped-requires-clause-worker
work-stopped-requires-clause-worker g t c = λ lifetimes lives.
    (can_begin c.args.queue.now c.args.pieces.now c.args.writers.items c.pop.new.self.items c.args.shares.items c.pop-2.new.self.items
    c.args.senders.items c.pop-3.new.self.items c.in-Some.writer c.in-Some-pop.share c.in-Some-pop-2.sender c.requires.workers
    c.requires.senders c.requires.count c.in-Some.ensures.items c.in-Some-pop.ensures.items c.in-Some-pop-2.ensures.items).worker

pub returns-then-is_done-clause-started : goal.returns-then-is_done-clause-started
returns-then-is_done-clause-started g t c =
    let can = can_begin c.args.queue.now c.args.pieces.now c.args.writers.items c.pop.new.self.items c.args.shares.items c.pop-2.new.self.items
    c.args.senders.items c.pop-3.new.self.items c.in-Some.writer c.in-Some-pop.share c.in-Some-pop-2.sender c.requires.workers
    c.requires.senders c.requires.count c.in-Some.ensures.items c.in-Some-pop.ensures.items c.in-Some-pop-2.ensures.items in
    started_last c.args.queue.now c.args.pieces.now c.args.writers.items c.pop.new.self.items c.args.shares.items c.pop-2.new.self.items
    c.in-Some.writer c.in-Some-pop.share c.push_reserved.new.self.items c.start_all-started.result.items _ c.in-Some.ensures.items
    c.in-Some-pop.ensures.items c.push_reserved.ensures.items c.start_all-started.ensures.started
    (subst (λ k. Stops c.args.queue.now c.args.pieces.now k c.in-Some.writer c.in-Some-pop.share c.work-stopped.result) can.number
    c.work-stopped.ensures.stops)

pub spawn_with-child-requires-send-F : goal.spawn_with-child-requires-send-F
spawn_with-child-requires-send-F g t c κs within =
    worker_send _ _ yes _ _ (param 1 g.row.R) _ _ _ _ _ _ (param 2 g.row.G) (search rules) (search rules)

pub spawn_with-child-requires-send-T : goal.spawn_with-child-requires-send-T
spawn_with-child-requires-send-T g t c κs within = search (sendable, stopped_send) depth 14

pub spawn_with-child-requires-clause-runs : goal.spawn_with-child-requires-clause-runs
spawn_with-child-requires-clause-runs g t c κs within =
    let can = can_begin c.args.queue.now c.args.pieces.now c.args.writers.items c.pop.new.self.items c.args.shares.items c.pop-2.new.self.items
    c.args.senders.items c.pop-3.new.self.items c.in-Some.writer c.in-Some-pop.share c.in-Some-pop-2.sender c.requires.workers
    c.requires.senders c.requires.count c.in-Some.ensures.items c.in-Some-pop.ensures.items c.in-Some-pop-2.ensures.items in
    (can.sender, (can.worker, search rules))

pub spawn_with-requires-clause-sender : goal.spawn_with-requires-clause-sender
spawn_with-requires-clause-sender g t c = λ lifetimes lives.
    let can = can_begin c.args.queue.now c.args.pieces.now c.args.writers.items c.pop.new.self.items c.args.shares.items c.pop-2.new.self.items
    c.args.senders.items c.pop-3.new.self.items c.in-Some.writer c.in-Some-pop.share c.in-Some-pop-2.sender c.requires.workers
    c.requires.senders c.requires.count c.in-Some.ensures.items c.in-Some-pop.ensures.items c.in-Some-pop-2.ensures.items in
    rw c.in-Err.ensures.err can.sender

pub spawn_with-requires-clause-worker : goal.spawn_with-requires-clause-worker
spawn_with-requires-clause-worker g t c = λ lifetimes lives.
    let can = can_begin c.args.queue.now c.args.pieces.now c.args.writers.items c.pop.new.self.items c.args.shares.items c.pop-2.new.self.items
    c.args.senders.items c.pop-3.new.self.items c.in-Some.writer c.in-Some-pop.share c.in-Some-pop-2.sender c.requires.workers
    c.requires.senders c.requires.count c.in-Some.ensures.items c.in-Some-pop.ensures.items c.in-Some-pop-2.ensures.items in
    rw c.in-Err.ensures.err can.worker

pub push_reserved-requires : goal.push_reserved-requires
push_reserved-requires g t c =
    let started = c.start_all-started.result in
    let many = started_many c.args.queue.now c.args.pieces.now 0 c.pop.new.self.items c.pop-2.new.self.items started.items c.start_all-started.ensures.started in
    let long = started.ok.0 in
    let all = ap (λ (ws : List ThreadWriter). length ws) c.in-Some.ensures.items in
    let last = length-append c.pop.new.self.items (c.in-Some.writer ∷ []) in
    let room = c.requires.room.1 in
    let same = c.start_all-started.ensures.room in
    omega (arith, many, long, all, last, room, same)

pub push_reserved-requires-2 : goal.push_reserved-requires-2
push_reserved-requires-2 g t c =
    let started = c.start_all-started-2.result in
    let many = started_many c.args.queue.now c.args.pieces.now 0 c.pop.new.self.items c.pop-2.new.self.items started.items c.start_all-started-2.ensures.started in
    let long = started.ok.0 in
    let all = ap (λ (ws : List ThreadWriter). length ws) c.in-Some.ensures.items in
    let last = length-append c.pop.new.self.items (c.in-Some.writer ∷ []) in
    let room = c.requires.room.1 in
    let same = c.start_all-started-2.ensures.room in
    omega (arith, many, long, all, last, room, same)

pub returns-clause-started : goal.returns-clause-started
returns-clause-started g t c =
    let q = c.args.queue.now in
    let pieces = c.args.pieces.now in
    let n = length c.pop.new.self.items in
    let w = c.in-Some.writer in
    let s = c.in-Some-pop.share in
    let can = can_begin c.args.queue.now c.args.pieces.now c.args.writers.items c.pop.new.self.items c.args.shares.items c.pop-2.new.self.items
    c.args.senders.items c.pop-3.new.self.items c.in-Some.writer c.in-Some-pop.share c.in-Some-pop-2.sender c.requires.workers
    c.requires.senders c.requires.count c.in-Some.ensures.items c.in-Some-pop.ensures.items c.in-Some-pop-2.ensures.items in
    started_last q pieces c.args.writers.items c.pop.new.self.items c.args.shares.items c.pop-2.new.self.items w s
    c.push_reserved-2.new.self.items c.start_all-started-2.result.items c.match-child.push_reserved c.in-Some.ensures.items
    c.in-Some-pop.ensures.items c.push_reserved-2.ensures.items c.start_all-started-2.ensures.started
    (elim c.match-child.branch [
      | in-Ok v ↦ subst (λ (z : Started). Starts q pieces n w s z) (sym v.push_reserved-is)
          (rw v.in-Ok.ensures.ok (c.of.ensures, c.of-2.ensures, c.of-3.ensures, c.of-4.ensures, ap number_of c.of-5.ensures ∙ can.number))
      | in-Err v ↦ subst (λ (z : Started). Starts q pieces n w s z) (sym v.push_reserved-is)
          (subst (λ k. Stops q pieces k w s v.spawn_with.result) can.number (rw v.in-Err.ensures.err at v.spawn_with.ensures))
    ])
