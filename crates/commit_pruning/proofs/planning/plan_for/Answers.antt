use Rattle.std.proofs.Common.{◌≡◌, ◌∙◌, rules, ap, subst, map, Err, List, ℕ}
use Rattle.std.specs.Prelude.{Contains}
use Rattle.ix_base.specs.declared.file_name.FileName.TheVariants.{Commit}
use Rattle.std.proofs.lemmas.Result.{err_from_is_err_and}
use Rattle.ix_outside.specs.Disk.{told_files}
use Rattle.commit_point.specs.declared.heads.HeadSegment.{HeadSegment}
use Rattle.commit_pruning.specs.declared.fault.PruningFault.TheVariants.{Damaged}
use Rattle.commit_pruning.specs.Choosing.{earlier, latest, unlisted}
use Rattle.commit_pruning.proofs.Planned.{AreEntries, breaks_staying, planned}
use Rattle.commit_pruning.proofs.planning.plan_for.Goals as goal

pub returns-clause-plan : goal.returns-clause-plan
returns-clause-plan g c files told lists all =
    let front : c.split_at.result.0.now ≡ earlier c.args.keep c.args.numbers.now = search rules in
    let back : c.split_at.result.1.now ≡ latest c.args.keep c.args.numbers.now = search rules in
    let e = c.in_ok-entries.ensures.entries files told in
    planned c.args.keep files c.args.names.now c.from_vec.result c.from_vec-2.result c.args.numbers.now c.in_ok-entries.entries.items lists c.requires all
    (subst (λ (ns : List ℕ). AreEntries files ns c.in_ok-entries.entries.items) back e)
    (c.from_vec.ensures ∙ (c.in_ok-gone.ensures ∙ ap (map Commit) front))
    (c.from_vec-2.ensures ∙ (c.in_ok-rest.ensures ∙ ap (λ (es : List HeadSegment). unlisted es c.args.names.now) c.deref.ensures.value))

pub returns-in_err-entries-clause-staying : goal.returns-in_err-entries-clause-staying
returns-in_err-entries-clause-staying g c files damaged told all is =
    let back : c.split_at.result.1.now ≡ latest c.args.keep c.args.numbers.now = search rules in
    let p = err_from_is_err_and c.from_residual.result c.from_residual.ensures.1 in
    let same : c.in_err-entries.field-0.0 ≡ Damaged damaged = cc in
    let broken = c.in_err-entries.ensures.damaged damaged (ap Err same) in
    breaks_staying c.args.keep files (told_files (g.S.Store.disk c.args.store.now)) c.args.numbers.now damaged told c.requires all
    (broken.0, subst (λ (ns : List ℕ). Contains ns broken.0) back broken.1, broken.2)
