use Rattle.std.proofs.Common.{List, length, ap, subst, arith}
use Rattle.ix_base.specs.Documents.{Document}
use Rattle.ix_base.specs.Entry.{entry_of}
use Rattle.ix_base.specs.Words.{entry_words}
use Rattle.thread_writer.specs.Lines.{Does}
use Rattle.thread_writer.specs.Writing.{added_documents}
use Rattle.thread_writer.proofs.Lines.{told_writer, told_numbers, told_stays, told_links}
use Rattle.thread_writer.proofs.writer.ThreadWriter.do_line.Goals as goal

does : (c : goal.After-link_operation) → Does c.args.queue.now (entry_words (entry_of c.args.operation.now)) (added_documents c.args.operation.now) c.link_operation.result c.args.self.now c.link_operation.new.self
does c =
    subst (λ (docs : List Document). Does c.args.queue.now (entry_words (entry_of c.args.operation.now)) docs c.link_operation.result c.args.self.now c.link_operation.new.self)
    c.documents_of.ensures.docs c.link_operation.ensures.does

pub returns-clause-writer : goal.returns-clause-writer
returns-clause-writer c =
    let few = c.documents_of.ensures.few in
    let same = ap (λ (docs : List Document). length docs) c.documents_of.ensures.docs in
    told_writer c.slices_stay.ensures c.args.queue.now c.args.operation.now (entry_words (entry_of c.args.operation.now)) c.link_operation.result c.args.self.now c.link_operation.new.self
    c.requires.room (omega (arith, few, same)) c.requires.writer c.link_operation.ensures.spelled (does c)

pub returns-clause-numbered : goal.returns-clause-numbered
returns-clause-numbered c =
    told_numbers c.args.queue.now c.args.operation.now (entry_words (entry_of c.args.operation.now)) c.link_operation.result c.args.self.now c.link_operation.new.self
    c.link_operation.ensures.spelled (does c)

pub returns-clause-stays : goal.returns-clause-stays
returns-clause-stays c =
    told_stays c.args.queue.now c.args.operation.now (entry_words (entry_of c.args.operation.now)) c.link_operation.result c.args.self.now c.link_operation.new.self
    (does c)

pub returns-clause-links : goal.returns-clause-links
returns-clause-links c =
    told_links c.args.queue.now c.args.operation.now (entry_words (entry_of c.args.operation.now)) c.link_operation.result c.args.self.now c.link_operation.new.self
    (does c)
