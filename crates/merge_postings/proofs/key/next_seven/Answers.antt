use Rattle.std.proofs.Common.{sym, ap}
use Rattle.std.proofs.lemmas.List.{drop_all}
use Rattle.merge_postings.specs.Keys.{key}
use Rattle.merge_postings.proofs.key.next_seven.Goals as goal

pub returns-else-bytes-gt8-clause-value : goal.returns-else-bytes-gt8-clause-value
unfolding key
returns-else-bytes-gt8-clause-value c =
    ap (key 7) (sym (drop_all 8 c.args.bytes.now c.if-bytes-gt8.false))
