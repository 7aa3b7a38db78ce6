use Rattle.std.proofs.Common.{sym}
use Rattle.ix_base.proofs.Grouping.{row_stays, row_comes, last_of}
use Rattle.ix_base.proofs.spots.add_row.Goals as goal

pub returns-then-ends_in : goal.returns-then-ends_in
returns-then-ends_in c = row_stays c.args.rows.now.items c.args.row (last_of c.as_slice.ensures.value (c.ends_in.ensures.0 c.if-ends_in.true))

pub returns : goal.returns
returns c = rw c.in_ok-push.ensures.items (row_comes c.args.rows.now.items c.args.row (λ e.
    let yes = c.ends_in.ensures.1 (last_of (sym c.as_slice.ensures.value) e) in
    let no' = c.if-ends_in.false in
    cc))
