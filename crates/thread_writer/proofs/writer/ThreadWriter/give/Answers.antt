use Rattle.std.proofs.Common.{refl}
use Rattle.thread_writer.proofs.Giving.{on_err, read_writer, read_stays, reads_rows, gives}
use Rattle.thread_writer.proofs.writer.ThreadWriter.give.Goals as goal

pub returns-in_err-read_slice-clause-writer : goal.returns-in_err-read_slice-clause-writer
returns-in_err-read_slice-clause-writer c = read_writer c.args.queue.now c.args.self.now c.read_slice.new.self c.requires.writer c.read_slice.ensures.reads

pub returns-in_err-read_slice-clause-err : goal.returns-in_err-read_slice-clause-err
returns-in_err-read_slice-clause-err c = on_err c.from_residual.result (read_stays c.args.queue.now c.args.self.now c.read_slice.new.self c.read_slice.ensures.reads)

pub returns-in_err-frozen-clause-writer : goal.returns-in_err-frozen-clause-writer
returns-in_err-frozen-clause-writer c =
    let read = c.read_slice.new.self in
    let rows = c.take_frozen.new.self in
    read_writer c.args.queue.now c.args.self.now (record read { rows = rows }) c.requires.writer
    (reads_rows c.args.queue.now c.args.self.now read rows c.in_err-frozen.ensures.err c.read_slice.ensures.reads)

pub returns-in_err-frozen-clause-err : goal.returns-in_err-frozen-clause-err
returns-in_err-frozen-clause-err c =
    let read = c.read_slice.new.self in
    let rows = c.take_frozen.new.self in
    on_err c.from_residual-in_err-frozen.result
    (read_stays c.args.queue.now c.args.self.now (record read { rows = rows })
    (reads_rows c.args.queue.now c.args.self.now read rows c.in_err-frozen.ensures.err c.read_slice.ensures.reads))

pub returns-clause-ok : goal.returns-clause-ok
returns-clause-ok c =
    let r = c.read_slice.new.self in
    gives c.numbers_end_at_last.ensures.numbers c.args.queue.now c.args.self.now r
    (record r { rows = c.take_frozen.new.self; slice = c.start-self.result })
    c.new-updates.result
    (record { worker = c.number.result; frozen = c.in_ok-frozen.frozen; updates = c.read_slice.new.updates; cut = c.last_number-cut.result })
    c.requires.writer c.read_slice.ensures.reads c.read_slice.ensures.to c.new-updates.ensures c.in_ok-read_slice.ensures.ok
    c.in_ok-frozen.ensures.rows c.in_ok-frozen.ensures.inversion c.number.ensures c.last_number-cut.ensures refl c.in_ok-frozen.ensures.ok c.start-self.ensures.from
