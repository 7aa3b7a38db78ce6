use Rattle.std.proofs.Common.{arith, ◌∙◌, ap}
use Rattle.ix_base.proofs.CodecLaws.{name_takes, IsText-from_IsName}
use Rattle.ix_base.specs.Limits.{is_name}
use Rattle.segment_files.proofs.read_documents.name_of.Goals as goal

pub copy_of-requires : goal.copy_of-requires
copy_of-requires c = (IsText-from_IsName _ (name_takes c.args.bytes.now _ (λ i. omega (arith, c.type_inv.bytes i)) c.in_ok-name.ensures).1).short

pub returns-in-None : goal.returns-in-None
returns-in-None c =
    let is = (name_takes c.args.bytes.now _ (λ i. omega (arith, c.type_inv.bytes i)) c.in_ok-name.ensures).1 in
    let some = c.in-None.ensures.fits.1 (ap is_name c.in_ok-copy_of.ensures ∙ is.fits) in
    absurd cc
