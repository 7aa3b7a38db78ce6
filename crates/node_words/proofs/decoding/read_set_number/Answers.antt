use Rattle.std.proofs.lemmas.Result.{err_from_is_err_and}
use Rattle.node_words.proofs.Entries.{no_set_number, set_number_there}
use Rattle.node_words.specs.Reads.{setting_in}
use Rattle.node_words.proofs.decoding.read_set_number.Goals as goal

pub returns-in_err-parts : goal.returns-in_err-parts
returns-in_err-parts c =
    let p = err_from_is_err_and c.from_residual.result c.from_residual.ensures.1 in
    rw (p.1, p.2) (no_set_number c.args.bytes.now c.in_err-parts.ensures)

pub returns-in_err-term : goal.returns-in_err-term
returns-in_err-term c =
    let p = err_from_is_err_and c.from_residual-in_err-term.result c.from_residual-in_err-term.ensures.1 in
    rw (p.1, p.2) (set_number_there (setting_in c.in_ok-parts.parts) c.args.bytes.now c.in_ok-parts.ensures.0 c.in_ok-parts.ensures.1)

pub returns-in_err-num : goal.returns-in_err-num
returns-in_err-num c =
    let p = err_from_is_err_and c.from_residual-in_err-num.result c.from_residual-in_err-num.ensures.1 in
    rw (p.1, p.2) (set_number_there (setting_in c.in_ok-parts.parts) c.args.bytes.now c.in_ok-parts.ensures.0 c.in_ok-parts.ensures.1)
