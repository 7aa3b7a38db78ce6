use Rattle.std.proofs.Common.{◌∙◌}
use Rattle.ix_base.specs.FileNames.{IsCounted}
use Rattle.commit_point.proofs.Making.{did_at, stopped_at, refused_at, did_stop, stopped_first, makes, leaves_others, images_have, images_elsewhere, crash_leaves, crash_before, durable_commit, durable_files, tells_rename}
use Rattle.commit_point.proofs.Names.{are_names, can_publish}
use Rattle.commit_point.proofs.Settled.{settles}
use Rattle.commit_point.proofs.Standing.{keeps_made, left_files, left_same, only_commits}
use Rattle.commit_point.proofs.StepLaws.{goes_none}
use Rattle.commit_point.specs.Steps.{KeepsStanding}
use Rattle.ix_outside.specs.Disk.{told_files}
use Rattle.commit_point.proofs.write.write_commit.Goals as goal

pub returns-in-Err-clause-steps : goal.returns-in-Err-clause-steps
returns-in-Err-clause-steps g c = stopped_first c.args.number c.args.next_id c.args.pairs.now c.args.segments.now c.args.written.now _

pub returns-in-Err-clause-crash : goal.returns-in-Err-clause-crash
returns-in-Err-clause-crash g c room = crash_before c.args.number c.args.next_id c.args.pairs.now c.args.segments.now c.args.written.now _

pub returns-in-Err-clause-only : goal.returns-in-Err-clause-only
returns-in-Err-clause-only g c = only_commits c.args.number c.args.next_id c.args.pairs.now c.args.segments.now c.args.written.now _ _ (returns-in-Err-clause-steps g c)

pub returns-in-Err-clause-standing : goal.returns-in-Err-clause-standing
returns-in-Err-clause-standing g c = λ was told comes. goes_none KeepsStanding (g.S.Store.disk c.args.store.now)

pub returns-in-Err-clause-left : goal.returns-in-Err-clause-left
returns-in-Err-clause-left g c = λ room. left_same c.args.number c.args.next_id c.args.pairs.now c.args.segments.now c.args.written.now (told_files (g.S.Store.disk c.args.store.now))

pub publish-requires-clause-names : goal.publish-requires-clause-names
publish-requires-clause-names g c =
    let number : IsCounted c.args.number = record { some = c.requires.some; fits = c.ranges.number.fits } in
    (are_names c.args.number c.args.next_id c.args.segments.now c.args.written.now _ number c.ranges.next_id.fits c.requires.can.ids (c.as_slice.ensures ∙ c.in-Ok.ensures.files), number, number)

-- ---- all was published

pub returns-in-Ok-publish-clause-steps : goal.returns-in-Ok-publish-clause-steps
returns-in-Ok-publish-clause-steps g c = did_at c.args.number c.args.next_id c.args.pairs.now c.args.segments.now c.args.written.now _ _ _ _ (c.as_slice.ensures ∙ c.in-Ok.ensures.files) (c.as_slice-2.ensures ∙ c.in-Ok.ensures.bytes) c.in-Ok-publish.ensures.disk

pub returns-in-Ok-publish-clause-only : goal.returns-in-Ok-publish-clause-only
returns-in-Ok-publish-clause-only g c =
    only_commits c.args.number c.args.next_id c.args.pairs.now c.args.segments.now c.args.written.now _ _
    (did_stop c.args.number c.args.next_id c.args.pairs.now c.args.segments.now c.args.written.now _ _ (returns-in-Ok-publish-clause-steps g c))

pub returns-in-Ok-publish-clause-standing : goal.returns-in-Ok-publish-clause-standing
returns-in-Ok-publish-clause-standing g c =
    keeps_made c.args.number c.args.next_id c.args.pairs.now c.args.segments.now c.args.written.now _ _
    (can_publish c.args.number c.args.next_id c.args.segments.now c.args.written.now c.requires.can.ids).final_none
    (did_stop c.args.number c.args.next_id c.args.pairs.now c.args.segments.now c.args.written.now _ _ (returns-in-Ok-publish-clause-steps g c))

pub returns-in-Ok-publish-clause-ok : goal.returns-in-Ok-publish-clause-ok
returns-in-Ok-publish-clause-ok g c room =
    makes c.args.number c.args.next_id c.args.pairs.now c.args.segments.now c.args.written.now _ _
    (record { number = c.requires.some; fits = c.ranges.number.fits; some_id = c.requires.some_id; room = room; can = c.requires.can; spelling = c.in-Ok.ensures.spelling; fit = c.in-Ok.ensures.pairs })
    (returns-in-Ok-publish-clause-steps g c)

pub returns-in-Ok-publish-clause-acknowledged : goal.returns-in-Ok-publish-clause-acknowledged
returns-in-Ok-publish-clause-acknowledged g c room =
    images_have c.args.number c.args.next_id c.args.pairs.now c.args.segments.now c.args.written.now _ _
    (record { number = c.requires.some; fits = c.ranges.number.fits; some_id = c.requires.some_id; room = room; can = c.requires.can; spelling = c.in-Ok.ensures.spelling; fit = c.in-Ok.ensures.pairs })
    (returns-in-Ok-publish-clause-steps g c)

pub returns-in-Ok-publish-clause-settled : goal.returns-in-Ok-publish-clause-settled
returns-in-Ok-publish-clause-settled g c room =
    settles c.args.number c.args.next_id c.args.pairs.now c.args.segments.now c.args.written.now _ _ c.requires.can (returns-in-Ok-publish-clause-ok g c room)
    (returns-in-Ok-publish-clause-acknowledged g c room)

pub returns-in-Ok-publish-clause-durable : goal.returns-in-Ok-publish-clause-durable
returns-in-Ok-publish-clause-durable g c = durable_commit c.args.number c.args.next_id c.args.pairs.now c.args.segments.now c.args.written.now _ _ (can_publish c.args.number c.args.next_id c.args.segments.now c.args.written.now c.requires.can.ids) (returns-in-Ok-publish-clause-steps g c)

pub returns-in-Ok-publish-clause-durable_files : goal.returns-in-Ok-publish-clause-durable_files
returns-in-Ok-publish-clause-durable_files g c = durable_files c.args.number c.args.next_id c.args.pairs.now c.args.segments.now c.args.written.now _ _ (can_publish c.args.number c.args.next_id c.args.segments.now c.args.written.now c.requires.can.ids) (returns-in-Ok-publish-clause-steps g c)

pub returns-in-Ok-publish-clause-crash : goal.returns-in-Ok-publish-clause-crash
returns-in-Ok-publish-clause-crash g c room =
    crash_leaves c.args.number c.args.next_id c.args.pairs.now c.args.segments.now c.args.written.now _ _
    (record { number = c.requires.some; fits = c.ranges.number.fits; some_id = c.requires.some_id; room = room; can = c.requires.can; spelling = c.in-Ok.ensures.spelling; fit = c.in-Ok.ensures.pairs })
    (did_stop c.args.number c.args.next_id c.args.pairs.now c.args.segments.now c.args.written.now _ _ (returns-in-Ok-publish-clause-steps g c))

pub returns-in-Ok-publish-clause-images : goal.returns-in-Ok-publish-clause-images
returns-in-Ok-publish-clause-images g c =
    images_elsewhere c.args.number c.args.next_id c.args.pairs.now c.args.segments.now c.args.written.now _ _ (can_publish c.args.number c.args.next_id c.args.segments.now c.args.written.now c.requires.can.ids) (did_stop c.args.number c.args.next_id c.args.pairs.now c.args.segments.now c.args.written.now _ _ (returns-in-Ok-publish-clause-steps g c))

-- ---- not all was

pub returns-in-Err-publish-clause-steps : goal.returns-in-Err-publish-clause-steps
returns-in-Err-publish-clause-steps g c = stopped_at c.args.number c.args.next_id c.args.pairs.now c.args.segments.now c.args.written.now _ _ _ _ (c.as_slice.ensures ∙ c.in-Ok.ensures.files) (c.as_slice-2.ensures ∙ c.in-Ok.ensures.bytes) c.in-Err-publish.ensures.disk

pub returns-in-Err-publish-clause-only : goal.returns-in-Err-publish-clause-only
returns-in-Err-publish-clause-only g c =
    only_commits c.args.number c.args.next_id c.args.pairs.now c.args.segments.now c.args.written.now _ _ (returns-in-Err-publish-clause-steps g c)

pub returns-in-Err-publish-clause-standing : goal.returns-in-Err-publish-clause-standing
returns-in-Err-publish-clause-standing g c =
    keeps_made c.args.number c.args.next_id c.args.pairs.now c.args.segments.now c.args.written.now _ _
    (can_publish c.args.number c.args.next_id c.args.segments.now c.args.written.now c.requires.can.ids).final_none
    (returns-in-Err-publish-clause-steps g c)

pub returns-in-Err-publish-clause-left : goal.returns-in-Err-publish-clause-left
returns-in-Err-publish-clause-left g c room =
    left_files c.args.number c.args.next_id c.args.pairs.now c.args.segments.now c.args.written.now _ _
    (record { number = c.requires.some; fits = c.ranges.number.fits; some_id = c.requires.some_id; room = room; can = c.requires.can; spelling = c.in-Ok.ensures.spelling; fit = c.in-Ok.ensures.pairs })
    (returns-in-Err-publish-clause-steps g c)

pub returns-in-Err-publish-clause-err : goal.returns-in-Err-publish-clause-err
returns-in-Err-publish-clause-err g c = leaves_others c.args.number c.args.next_id c.args.pairs.now c.args.segments.now c.args.written.now _ _ (can_publish c.args.number c.args.next_id c.args.segments.now c.args.written.now c.requires.can.ids) (returns-in-Err-publish-clause-steps g c)

pub returns-in-Err-publish-clause-crash : goal.returns-in-Err-publish-clause-crash
returns-in-Err-publish-clause-crash g c room =
    crash_leaves c.args.number c.args.next_id c.args.pairs.now c.args.segments.now c.args.written.now _ _
    (record { number = c.requires.some; fits = c.ranges.number.fits; some_id = c.requires.some_id; room = room; can = c.requires.can; spelling = c.in-Ok.ensures.spelling; fit = c.in-Ok.ensures.pairs })
    (returns-in-Err-publish-clause-steps g c)

pub returns-in-Err-publish-clause-images : goal.returns-in-Err-publish-clause-images
returns-in-Err-publish-clause-images g c = images_elsewhere c.args.number c.args.next_id c.args.pairs.now c.args.segments.now c.args.written.now _ _ (can_publish c.args.number c.args.next_id c.args.segments.now c.args.written.now c.requires.can.ids) (returns-in-Err-publish-clause-steps g c)

pub returns-in-Err-publish-clause-renamed : goal.returns-in-Err-publish-clause-renamed
returns-in-Err-publish-clause-renamed g c files now told absent told_now =
    tells_rename c.args.number c.args.next_id c.args.pairs.now c.args.segments.now c.args.written.now _ _ c.in-Err-publish.refused (can_publish c.args.number c.args.next_id c.args.segments.now c.args.written.now c.requires.can.ids)
    (refused_at c.args.number c.args.next_id c.args.pairs.now c.args.segments.now c.args.written.now _ _ _ _ c.in-Err-publish.refused (c.as_slice.ensures ∙ c.in-Ok.ensures.files) (c.as_slice-2.ensures ∙ c.in-Ok.ensures.bytes) c.in-Err-publish.ensures.renamed) files now told absent told_now
