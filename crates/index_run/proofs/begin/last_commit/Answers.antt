use Rattle.std.proofs.Common.{◌≡◌, ◌∙◌, ℕ, ap, sym, subst}
use Rattle.ix_outside.specs.Disk.{told_files}
use Rattle.std.specs.Prelude.{Option, Some}
use Rattle.ix_outside.specs.Files.{Files, Was}
use Rattle.run_log.specs.Headline.{IsLast}
use Rattle.index_run.specs.Beginning.{last_or_zero}
use Rattle.index_run.proofs.Beginnings.{last_told, last_one}
use Rattle.index_run.proofs.begin.last_commit.Goals as goal

pub returns-in-Ok-clause-last : goal.returns-in-Ok-clause-last
returns-in-Ok-clause-last g c =
    let found : c.last_of.result ≡ last_or_zero c.in-Ok.numbers =
    c.last_of.ensures ∙ ap last_or_zero c.as_slice.ensures in
    let told = last_told (told_files (g.S.Store.disk c.args.store.now)) c.in-Ok.numbers
    c.in-Ok.ensures.commits c.in-Ok.ensures.rise in
    (told.0, told.1, subst (λ (n : ℕ). IsLast told.0 n) (sym found) told.2)

pub returns-in-Ok-clause-only : goal.returns-in-Ok-clause-only
returns-in-Ok-clause-only g c = λ files base told is.
    let found : c.last_of.result ≡ last_or_zero c.in-Ok.numbers =
    c.last_of.ensures ∙ ap last_or_zero c.as_slice.ensures in
    let last = last_told (told_files (g.S.Store.disk c.args.store.now)) c.in-Ok.numbers
    c.in-Ok.ensures.commits c.in-Ok.ensures.rise in
    let was : Was (Some files) last.0 = subst (λ (o : Option Files). Was o last.0) told last.1 in
    found ∙ last_one files (last_or_zero c.in-Ok.numbers) base
    (subst (λ (f : Files). IsLast f (last_or_zero c.in-Ok.numbers)) (sym was) last.2) is
