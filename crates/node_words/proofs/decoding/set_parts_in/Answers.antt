use Rattle.std.proofs.lemmas.Result.{err_from_is_err_and}
use Rattle.node_words.proofs.Entries.{no_spelling, more_behind, one_setting, no_set_name, no_set_value, setting_begins}
use Rattle.node_words.specs.Reads.{term_in, IsSetting, setting_bytes}
use Rattle.node_words.proofs.decoding.set_parts_in.Goals as goal

pub returns-in_err-num : goal.returns-in_err-num
returns-in_err-num c =
    let p = err_from_is_err_and c.from_residual-in_err-num.result c.from_residual-in_err-num.ensures.1 in
    rw (p.1) (no_spelling IsSetting setting_bytes c.new-reader.result c.args.bytes.now c.new-reader.ensures
    (no_set_name (term_in c.in_ok-term.term) c.new-reader.result c.own_term.new.self c.in_ok-term.ensures c.in_err-num.ensures))

pub returns-in_err-value : goal.returns-in_err-value
returns-in_err-value c =
    let p = err_from_is_err_and c.from_residual-in_err-value.result c.from_residual-in_err-value.ensures.1 in
    rw (p.1) (no_spelling IsSetting setting_bytes c.new-reader.result c.args.bytes.now c.new-reader.ensures
    (no_set_value (term_in c.in_ok-term.term) c.in_ok-num.num.now c.new-reader.result c.own_term.new.self c.name.new.self c.in_ok-term.ensures c.in_ok-num.ensures c.in_err-value.ensures))

pub returns-in_err-end : goal.returns-in_err-end
returns-in_err-end c =
    let p = err_from_is_err_and c.from_residual-in_err-end.result c.from_residual-in_err-end.ensures.1 in
    let term = term_in c.in_ok-term.term in
    let begins = setting_begins term c.in_ok-num.num.now c.in_ok-value.value c.new-reader.result c.own_term.new.self c.name.new.self c.signed.new.self c.in_ok-term.ensures c.in_ok-num.ensures c.in_ok-value.ensures in
    rw (p.1) (more_behind IsSetting setting_bytes one_setting (term, (c.in_ok-num.num.now, c.in_ok-value.value)) c.new-reader.result c.args.bytes.now c.signed.new.self c.new-reader.ensures begins c.in_err-end.ensures.some)
