use Rattle.delete_queue.specs.Log.{entries_of}
use Rattle.delete_slice.specs.Entries.{Has}
use Rattle.delete_slice.proofs.Words.{before_it, taken_there, on_ok}
use Rattle.delete_slice.proofs.Logs.{entry_in_grammar, has_entry}
use Rattle.delete_slice.specs.Taken.{HaveUpTo, TakesWords, TakesNextLogged}
use Rattle.std.proofs.Common.{ℕ, sym, subst}
use Rattle.delete_slice.proofs.apply.take_logged.Goals as goal

pub take_words-requires-clause-grammar : goal.take_words-requires-clause-grammar
take_words-requires-clause-grammar c =
    entry_in_grammar (entries_of c.args.log.now) c.args.index c.entry-number.result.2.now c.requires.grammar c.entry-number.ensures.words

pub take_words-requires-clause-updates : goal.take_words-requires-clause-updates
take_words-requires-clause-updates c =
    let log = c.args.log.now in let words = c.entry-number.result.2.now in
    subst (λ (n : ℕ). HaveUpTo n c.args.updates.now) (sym c.entry-number.ensures.number)
    (before_it log.base c.args.index words c.args.updates.now (entry_in_grammar (entries_of log) c.args.index words c.requires.grammar c.entry-number.ensures.words) c.requires.updates)

pub returns-clause-taken : goal.returns-clause-taken
returns-clause-taken c =
    let log = c.args.log.now in let words = c.entry-number.result.2.now in
    let grammar = entry_in_grammar (entries_of log) c.args.index words c.requires.grammar c.entry-number.ensures.words in
    on_ok c.take_words.result (TakesWords c.entry-number.result.0 words c.args.updates.now c.take_words.new.updates) (TakesNextLogged log c.args.index c.args.updates.now c.take_words.new.updates)
    (λ taken. taken_there (Has log) log.base c.args.index c.entry-number.result.0 words c.args.updates.now c.take_words.new.updates (has_entry log c.args.index words c.entry-number.ensures.words) grammar c.entry-number.ensures.number taken)
    c.take_words.ensures.taken
