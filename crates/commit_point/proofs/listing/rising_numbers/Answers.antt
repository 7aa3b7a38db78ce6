use Rattle.std.proofs.Common.{◌≡◌, rules}
use Rattle.commit_point.proofs.CommitNumbers.{among, rise}
use Rattle.commit_point.proofs.listing.rising_numbers.Goals as goal

pub returns-clause-commits : goal.returns-clause-commits
returns-clause-commits c =
    let e : c.from_vec.result ≡ c.in_ok-numbers.numbers.keys = search rules in
    among c.in_ok-numbers.numbers c.from_vec.result c.args.names.now e c.in_ok-numbers.ensures

pub returns-clause-rise : goal.returns-clause-rise
returns-clause-rise c =
    let e : c.from_vec.result ≡ c.in_ok-numbers.numbers.keys = search rules in
    rise c.in_ok-numbers.numbers.keys c.from_vec.result e c.into_iter.ensures.into_iter_gives.4
