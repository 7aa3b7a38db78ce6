use Rattle.std.proofs.Common.{◌≡◌, ◌++◌, map, take, None}
use Rattle.ix_base.specs.Refusals.{block_refusal}
use Rattle.ram_postings.specs.Buffer.{waiting}
use Rattle.thread_writer.proofs.staging.stage_all.Given as goal

abbrev pub invariant-loop-doc : goal.invariant-loop-doc
invariant-loop-doc l = record {
  rows : l.rows ≡ l.fn.rows ++ map waiting (take l.doc-index l.docs);
  fits : block_refusal (take l.doc-index l.docs) ≡ None;
}
