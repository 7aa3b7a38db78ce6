use Rattle.store_answers.proofs.Listed.{line_told}
use Rattle.store_answers.proofs.listing.line_of.Goals as goal

pub returns-in-Ok-clause-text : goal.returns-in-Ok-clause-text
returns-in-Ok-clause-text g c = λ files told.
    line_told files c.args.number c.in-Ok.head c.listed_text.result c.or_no_memory.result (c.in-Ok.ensures.found files told) c.listed_text.ensures c.or_no_memory.ensures.ok
