use Rattle.std.proofs.Common.{◌∷◌, [], ◌++◌}
use Rattle.ix_outside.specs.declared.step.Step.TheVariants.{Renamed, Settled}
use Rattle.commit_point.specs.Publishing.{puts, puts_all}
use Rattle.commit_point.proofs.Joined.{both_done, stopped, refused_later, refused_first}
use Rattle.commit_point.proofs.publishing.publish.Goals as goal

pub returns-in-Ok-clause-disk : goal.returns-in-Ok-clause-disk
returns-in-Ok-clause-disk g c =
    both_done (puts_all c.args.list.now) (puts c.args.pending c.args.bytes.now ++ (Renamed c.args.pending c.args.last ∷ Settled ∷ [])) _ (g.S.Store.disk c.put_files.new.store) _ c.put_last.result
    c.in-Ok.ensures.disk c.put_last.ensures.disk

pub returns-in-Ok-clause-renamed : goal.returns-in-Ok-clause-renamed
returns-in-Ok-clause-renamed g c =
    refused_later (puts_all c.args.list.now) (puts c.args.pending c.args.bytes.now) (Renamed c.args.pending c.args.last) _ (g.S.Store.disk c.put_files.new.store) _ c.put_last.result
    c.in-Ok.ensures.disk c.put_last.ensures.renamed

pub returns-in-Err-clause-disk : goal.returns-in-Err-clause-disk
returns-in-Err-clause-disk g c =
    stopped (puts_all c.args.list.now) (puts c.args.pending c.args.bytes.now ++ (Renamed c.args.pending c.args.last ∷ Settled ∷ [])) _ _ c.in-Err.ensures.disk

pub returns-in-Err-clause-renamed : goal.returns-in-Err-clause-renamed
returns-in-Err-clause-renamed g c =
    refused_first (puts_all c.args.list.now) (puts c.args.pending c.args.bytes.now) (Renamed c.args.pending c.args.last) _ c.not_renamed.result _ _ c.not_renamed.ensures c.in-Err.ensures.disk
