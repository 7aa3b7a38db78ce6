use Rattle.delete_slice.proofs.Words.{took_on_ok}
use Rattle.delete_slice.proofs.apply.take_words.Goals as goal

pub returns : goal.returns
returns c =
    let found = rw c.in-Some.is at c.in_ok-entry.ensures.found in
    record {
      taken = took_on_ok c.take.result c.args.number c.args.words.now c.in-Some.entry c.args.updates.now c.take.new.self found c.in_default-entry.not-Turn c.take.ensures.takes c.take.ensures.bounds c.take.ensures.upto;
      err = c.take.ensures.err;
    }
