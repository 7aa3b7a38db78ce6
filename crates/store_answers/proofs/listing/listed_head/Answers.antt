use Rattle.std.proofs.Common.{◌≡◌, ℕ, List, Some, None, Err, ap, sym, subst}
use Rattle.ix_base.specs.FileReading.{placed}
use Rattle.ix_base.specs.declared.damaged.Damaged.{Damaged}
use Rattle.ix_base.specs.declared.file_name.FileName.TheVariants.{Commit}
use Rattle.ix_outside.specs.Disk.{told_files}
use Rattle.commit_point.specs.Reading.{head_in}
use Rattle.store_answers.proofs.Listed.{commit_breaks, head_found}
use Rattle.store_answers.proofs.listing.listed_head.Goals as goal

pub returns-in-Ok-clause-found : goal.returns-in-Ok-clause-found
returns-in-Ok-clause-found g c =
    head_found (told_files (g.S.Store.disk c.args.store.now)) c.args.number c.in-Ok.bytes.items c.as_slice.result.now c.decoded.result c.in-Ok.ensures.bytes c.as_slice.ensures.value
    c.decoded.ensures.found

pub returns-in-Ok-clause-damaged : goal.returns-in-Ok-clause-damaged
returns-in-Ok-clause-damaged g c = λ damaged is.
    commit_breaks (told_files (g.S.Store.disk c.args.store.now)) c.args.number (Some c.in-Ok.bytes.items) damaged c.in-Ok.ensures.bytes
    (subst (λ (bytes : List ℕ). placed (Commit c.args.number) bytes (head_in c.args.number bytes) ≡ Err damaged) c.as_slice.ensures.value (c.decoded.ensures.damaged damaged is))

pub returns-in-Err-clause-damaged : goal.returns-in-Err-clause-damaged
returns-in-Err-clause-damaged g c = λ damaged is.
    let absent = c.in-Err.ensures.absent damaged cc in
    commit_breaks (told_files (g.S.Store.disk c.args.store.now)) c.args.number None damaged absent.1 (ap (λ (d : Damaged). Err d) (sym absent.0))
