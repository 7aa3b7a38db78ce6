use Rattle.std.proofs.Common.{rules}
use Rattle.ix_base.proofs.FileSpelling.{split_numbers}
use Rattle.ix_base.proofs.file_name.two_counted.Goals as goal

pub returns-in_err-id-clause-none : goal.returns-in_err-id-clause-none
returns-in_err-id-clause-none c gone id number own other e =
    let cut = split_numbers c.args.digits.now c.split_once.result c.split_once.ensures.cases id number own e in
    search rules

pub returns-in_err-id-2-clause-none : goal.returns-in_err-id-2-clause-none
returns-in_err-id-2-clause-none c gone id number own other e =
    let cut = split_numbers c.args.digits.now c.split_once.result c.split_once.ensures.cases id number own e in
    search rules

pub returns-in_err-counted-clause-none : goal.returns-in_err-counted-clause-none
returns-in_err-counted-clause-none c gone id number own other e =
    let cut = split_numbers c.args.digits.now c.split_once.result c.split_once.ensures.cases id number own e in
    search rules
