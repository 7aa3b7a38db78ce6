use Rattle.std.proofs.Common.{◌≡◌, ◌∙◌}
use Rattle.ram_postings.proofs.MarksPlaced.{marks_step, mark_some, mark_none}
use Rattle.ram_postings.proofs.numbers.marks_of.Goals as goal
use Rattle.ram_postings.proofs.numbers.marks_of.Goals.{in-Some+in_ok-push, in_default}

pub loop-entry-preserved : goal.loop-entry-preserved
loop-entry-preserved c =
    let e = c.entry-item.result in
    marks_step c.args.staged.now c.loop-entry.entry-index e c.loop-entry.marks.items c.match-entry.marks.items c.loop-entry-test.true c.entry-item.is c.loop-entry.invariant
    (elim c.match-entry.branch [
      | in-Some+in_ok-push w ↦ (let is : c.match-entry.marks.items ≡ w.push.new.self.items = (cc) in
          is ∙ w.in_ok-push.ensures.items ∙ mark_some e.mark e.birth w.in-Some._birth c.loop-entry.marks.items w.in-Some.is)
      | in_default w ↦ (let is : c.match-entry.marks.items ≡ c.loop-entry.marks.items = (cc) in is ∙ mark_none e.mark e.birth c.loop-entry.marks.items w.in_default.is)
    ])
