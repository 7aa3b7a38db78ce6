use Rattle.std.proofs.lemmas.Result.{err_from_is_err_and}
use Rattle.node_words.proofs.Bounds.{no_low, no_high, range_begins}
use Rattle.node_words.proofs.reader.Reader.range.Goals as goal

pub returns-in_err-low : goal.returns-in_err-low
returns-in_err-low c =
    let p = err_from_is_err_and c.from_residual-in_err-low.result c.from_residual-in_err-low.ensures.1 in
    rw (p.1) (no_low c.in_ok-name.name.now c.args.self.now c.name.new.self c.in_ok-name.ensures c.in_err-low.ensures)

pub returns-in_err-high : goal.returns-in_err-high
returns-in_err-high c =
    let p = err_from_is_err_and c.from_residual-in_err-high.result c.from_residual-in_err-high.ensures.1 in
    rw (p.1) (no_high c.in_ok-name.name.now c.in_ok-low.low c.args.self.now c.name.new.self c.signed.new.self c.in_ok-name.ensures c.in_ok-low.ensures c.in_err-high.ensures)
