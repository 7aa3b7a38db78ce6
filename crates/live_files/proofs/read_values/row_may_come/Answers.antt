use Rattle.std.proofs.Common.{Some, None, refl}
use Rattle.ix_base.proofs.ReadLoops.{left_by-last}
use Rattle.live_files.specs.LiveSpelling.{SetValue}
use Rattle.live_files.proofs.read_values.row_may_come.Goals as goal

pub returns-in-Some : goal.returns-in-Some
returns-in-Some c =
    let e = left_by-last (λ (x : SetValue). Some x) None c.args.values.now c.in-Some.last.now c.in-Some.ensures.item.3.0 c.in-Some.ensures.item.1 in
    rw e refl
