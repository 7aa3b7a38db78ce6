use Rattle.std.proofs.Common.{sym, subst}
use Rattle.delete_queue.specs.Answers.{IsOperation}
use Rattle.thread_writer.proofs.Lines.{is_operation}
use Rattle.thread_writer.proofs.writer.ThreadWriter.link_operation.Goals as goal

pub link_words-requires : goal.link_words-requires
link_words-requires c = record {
  writer = c.requires.writer;
  few = c.requires.few;
  words = subst IsOperation (sym c.as_slice.ensures.value) (is_operation c.args.operation.now c.in-Ok.words.items c.in_default.not-Commit c.in-Ok.ensures.words);
}
