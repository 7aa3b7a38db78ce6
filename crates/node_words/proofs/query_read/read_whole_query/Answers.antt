use Rattle.std.proofs.Common.{subst}
use Rattle.ix_base.specs.QueryBytes.{query_bytes, IsQuery}
use Rattle.ix_base.specs.Query.{tree_of}
use Rattle.node_words.proofs.Entries.{query_read, query_there}
use Rattle.node_words.specs.Reads.{FailsAtStart}
use Rattle.node_words.specs.declared.fault.ReadError.{ReadError}
use Rattle.node_words.proofs.query_read.read_whole_query.Goals as goal

pub unreachable-requires : goal.unreachable-requires
unreachable-requires c =
    let fails = subst (λ (e : ReadError). FailsAtStart IsQuery query_bytes c.new-reader.result e) c.in-Err-Foreign.field-0-is c.in-Err-Foreign.ensures in
    query_there c.new-reader.result c.args.bytes.now c.new-reader.ensures c.in_ok-check_query.ensures fails

pub returns-in-Ok : goal.returns-in-Ok
returns-in-Ok c = query_read (tree_of c.in-Ok.query) c.new-reader.result c.args.bytes.now c.read_query.new.reader c.new-reader.ensures c.in_ok-check_query.ensures c.in-Ok.ensures
