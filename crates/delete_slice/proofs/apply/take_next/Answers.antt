use Rattle.std.proofs.Common.{◌∙◌, length, drop}
use Rattle.delete_queue.proofs.Laws.{learns_on, knows_grammar}
use Rattle.delete_slice.proofs.Reading.{read_known, found_stays, known_upto, known_taken}
use Rattle.delete_slice.proofs.apply.take_next.Goals as goal

pub take_words-requires-clause-grammar : goal.take_words-requires-clause-grammar
take_words-requires-clause-grammar c =
    knows_grammar c.args.queue.now c.read.new.seat c.after-found.result.place.at c.as_slice.result.now c.read.ensures.seat
    (read_known c.read.new.seat c.after-found.result.place.at c.resize.new.self.len c.read.new.words (drop (length c.read.new.words) c.resize.new.self.items) c.as_slice.result.now c.read.ensures.words (c.read.ensures.size ∙ c.as_mut_slice.ensures.len) c.as_slice.ensures.value)

pub take_words-requires-clause-updates : goal.take_words-requires-clause-updates
take_words-requires-clause-updates c =
    let f = c.after-found.result in let s = c.read.new.seat in
    known_upto c.args.queue.now s f c.args.place.at c.as_slice.result.now c.args.updates.now c.read.ensures.seat
    (found_stays c.after-found.new.seat s f c.read.ensures.learns.0.grows.extends c.after-found.ensures.found) c.after-found.ensures.next
    (read_known c.read.new.seat c.after-found.result.place.at c.resize.new.self.len c.read.new.words (drop (length c.read.new.words) c.resize.new.self.items) c.as_slice.result.now c.read.ensures.words (c.read.ensures.size ∙ c.as_mut_slice.ensures.len) c.as_slice.ensures.value) c.requires.updates

pub returns-in_err-take_words-clause-learns : goal.returns-in_err-take_words-clause-learns
returns-in_err-take_words-clause-learns c = learns_on c.args.seat.now c.after-found.new.seat c.read.new.seat c.after-found.ensures.learns.0 c.read.ensures.learns.0

pub returns-clause-learns : goal.returns-clause-learns
returns-clause-learns c = learns_on c.args.seat.now c.after-found.new.seat c.read.new.seat c.after-found.ensures.learns.0 c.read.ensures.learns.0

pub returns-clause-taken : goal.returns-clause-taken
returns-clause-taken c =
    let f = c.after-found.result in let s = c.read.new.seat in
    known_taken c.args.queue.now s f c.args.place.at c.as_slice.result.now c.args.updates.now c.take_words.new.updates c.read.ensures.seat
    (found_stays c.after-found.new.seat s f c.read.ensures.learns.0.grows.extends c.after-found.ensures.found) c.after-found.ensures.next
    (read_known c.read.new.seat c.after-found.result.place.at c.resize.new.self.len c.read.new.words (drop (length c.read.new.words) c.resize.new.self.items) c.as_slice.result.now c.read.ensures.words (c.read.ensures.size ∙ c.as_mut_slice.ensures.len) c.as_slice.ensures.value) c.in_ok-take_words.ensures.taken
