use Rattle.std.proofs.Common.{◌∙◌, ◌<◌, arith}
use Rattle.index_run.proofs.EndsMerged.{ends_merged, ends_plain, some_number}
use Rattle.index_run.proofs.rounds.end_round.Goals as goal

pub returns-else-rows-gt0-clause-ended : goal.returns-else-rows-gt0-clause-ended
returns-else-rows-gt0-clause-ended g c = λ told parts.
    ends_plain told c.in-Ok.end c.args.writer.now.state c.end_round.new.self.state
    (c.in-Ok.ensures.ended c.requires.on told parts)

pub returns-in_ok-merge_step-clause-ended : goal.returns-in_ok-merge_step-clause-ended
returns-in_ok-merge_step-clause-ended g c = λ told parts.
    let old = c.args.writer.now.state in
    let mid = c.end_round.new.self.state in
    let e = c.in-Ok.ensures.ended c.requires.on told parts in
    let some : old.published.upto < mid.published.upto =
    (
    let more = some_number _ _ _ c.operations_of-operations.ensures
    (λ none. c.rows_of_step-rows.ensures.none (c.work_of.ensures none)) c.if-rows-gt0.true in
    let was = c.upto-before.ensures in
    let is = c.upto.ensures in
    omega (arith, more, was, is)
    ) in
    ends_merged told c.in-Ok.end _ c.in_ok-merge_step.field-0 old mid c.merge_step.new.self.state e
    (c.in_ok-merge_step.ensures.merged (e.closed ∙ c.requires.on)) some
