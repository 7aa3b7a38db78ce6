use Rattle.std.proofs.Common.{rules, ◌≡◌, false, Contains}
use Rattle.ix_memory.proofs.NameLists.{on_renamed, on_absent}
use Rattle.ix_outside.specs.Disk.{is_same}
use Rattle.ix_memory.proofs.names.rename.Goals as goal

pub returns-in_ok-gain-clause-change : goal.returns-in_ok-gain-clause-change
returns-in_ok-gain-clause-change c =
    let apart : is_same c.args.«from» c.args.to ≡ false = search rules in
    let has : Contains c.args.names.now.items c.args.«from» = search rules in
    on_renamed c.args.«from» c.args.to c.args.names.now.items c.gain.new.names.items c.lose.new.names.items apart has c.in_ok-gain.ensures.change c.lose.ensures.change

pub returns-else-has-clause-change : goal.returns-else-has-clause-change
returns-else-has-clause-change c =
    let apart : is_same c.args.«from» c.args.to ≡ false = search rules in
    let not : ¬ Contains c.args.names.now.items c.args.«from» = search rules in
    on_absent c.args.«from» c.args.to c.args.names.now.items c.lose-else-has.new.names.items c.lose-else-has-2.new.names.items apart not c.lose-else-has.ensures.change c.lose-else-has-2.ensures.change
