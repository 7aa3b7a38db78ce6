use Rattle.std.proofs.Common.{◌≡◌, ◌∙◌, ◌∷◌, ◌++◌, [], length, ap, arith, ℕ}
use Rattle.delete_queue.proofs.Copying.{words_fit, place_within, copied_more}
use Rattle.delete_queue.proofs.queue.DeleteQueue.copy.Goals as goal

pub copy_words-requires-clause-room : goal.copy_words-requires-clause-room
copy_words-requires-clause-room c =
    let fit = words_fit c.args.self.now c.args.seat.now c.args.found c.args.room.now c.requires.seat c.requires.found c.requires.copied in
    let space = c.requires.space.words in let len = c.args.room.now.words.ok.0 in omega (arith, fit, space, len)

pub push_reserved-requires : goal.push_reserved-requires
push_reserved-requires c =
    let within = place_within c.args.seat.now c.args.found c.requires.found in let bound = c.requires.seat.table.1.bound in let seats = c.requires.seat.table.0.2 in let many = c.args.self.now.many in
    let count = c.requires.copied.count in let entry = c.requires.found.known.entry in let space = c.requires.space.ends in let len = c.args.room.now.ends.ok.0 in
    omega (arith, within, bound, seats, many, count, entry, space, len)

pub returns-clause-copied : goal.returns-clause-copied
returns-clause-copied c =
    let r : c.len.result ≡ length c.copy_words.new.words.items = c.len.ensures ∙ c.copy_words.new.words.ok.0 in
    copied_more c.args.seat.now c.copy_words.new.seat c.args.found.place.at c.args.room.now (record { ends = c.push_reserved.new.self; words = c.copy_words.new.words })
    c.requires.found.known.entry c.requires.copied c.copy_words.ensures.learns.0.grows.extends c.copy_words.ensures.words (c.push_reserved.ensures.items ∙ ap (λ (n : ℕ). c.args.room.now.ends.items ++ n ∷ []) r)
