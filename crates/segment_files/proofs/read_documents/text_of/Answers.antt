use Rattle.std.proofs.Common.{arith}
use Rattle.ix_base.proofs.CodecLaws.{text_takes}
use Rattle.segment_files.proofs.read_documents.text_of.Goals as goal

pub copy_of-requires : goal.copy_of-requires
copy_of-requires c = (text_takes c.args.bytes.now _ (λ i. omega (arith, c.type_inv.bytes i)) c.in_ok-text.ensures).1.short
