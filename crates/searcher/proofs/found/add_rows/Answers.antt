use Rattle.std.proofs.Common.{sym, ◌∙◌}
use Rattle.searcher.proofs.Gathering.{adds_row, adds_none}
use Rattle.searcher.proofs.found.add_rows.Goals as goal
use Rattle.searcher.proofs.found.add_rows.Goals.{in-Some+in_ok-push, in_default}

pub loop-number-preserved : goal.loop-number-preserved
loop-number-preserved c =
    let at = c.loop-number in
    let start = c.args.found.now.items in
    let rows = c.args.rows.now in
    let marks = c.args.live.now.marks in
    let numbers = c.args.numbers.now in
    let in' = c.loop-number-test.true in
    elim c.match-branch-2.branch [
      | in-Some+in_ok-push w ↦
          rw w.found-is
          (adds_row start at.found.items w.push.new.self.items rows marks numbers at.number-index w.in-Some.one in' (sym w.in-Some.is ∙ c.in_ok-one.ensures) at.invariant w.in_ok-push.ensures.items)
      | in_default w ↦
          rw w.found-is
          (adds_none start at.found.items rows marks numbers at.number-index in' (sym w.in_default.is ∙ c.in_ok-one.ensures) at.invariant)
    ]
