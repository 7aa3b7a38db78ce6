use Rattle.std.proofs.Common.{◌≡◌, ℕ, Err, List, ◌∷◌, rules, sym, subst}
use Rattle.std.proofs.lemmas.List.Elements.{All-get_or}
use Rattle.ix_base.specs.FileNames.{IsFileName}
use Rattle.ix_outside.specs.Disk.{TakesOn, Told}
use Rattle.ix_outside.specs.declared.step.Step.TheVariants.{Wrote}
use Rattle.commit_point.specs.Publishing.{File}
use Rattle.commit_point.proofs.PutFiles.{one_fails, one_more}
use Rattle.commit_point.proofs.publishing.write_files.Goals as goal

pub write-requires : goal.write-requires
write-requires g c =
    subst (λ (f : File). IsFileName f.0) (sym c.file-item.is) (All-get_or (λ (f : File). IsFileName f.0) c.args.files.now c.loop-file.file-index c.file-item.result c.loop-file-test.true c.requires)

pub returns-in-Err-clause-disk : goal.returns-in-Err-clause-disk
returns-in-Err-clause-disk g c =
    one_fails (λ (f : File). Wrote f.0 f.1) c.args.files.now c.loop-file.file-index c.file-item.result c.in-Err.fault _ (g.S.Store.disk c.loop-file.store) _ c.loop-file-test.true c.file-item.is
    c.loop-file.invariant.disk (subst (λ (bytes : List ℕ). Told (λ old now. TakesOn {T = Unit {0}} (Wrote c.file-item.result.0 bytes) old now (Err c.in-Err.fault)) (g.S.Store.disk c.loop-file.store) (g.S.Store.disk c.write.new.self)) c.as_slice.ensures c.in-Err.ensures.disk)

pub loop-file-preserved : goal.loop-file-preserved
loop-file-preserved g c = record {
  disk = one_more (λ (f : File). Wrote f.0 f.1) c.args.files.now c.loop-file.file-index c.file-item.result _ (g.S.Store.disk c.loop-file.store) _ c.loop-file-test.true c.file-item.is
      c.loop-file.invariant.disk (subst (λ (bytes : List ℕ). Told (λ old now. now ≡ Wrote c.file-item.result.0 bytes ∷ old) (g.S.Store.disk c.loop-file.store) (g.S.Store.disk c.write.new.self)) c.as_slice.ensures c.in-Ok.ensures.disk);
  later = search rules;
}
