use Rattle.std.proofs.Common.{◌≡◌, ◌∙◌, sym, ap, length, is_some, arith}
use Rattle.op_script.specs.Documents.{texts_of}
use Rattle.op_script.proofs.Pairs.{few_by-few, few_by-many}
use Rattle.op_script.proofs.document_check.are_few_texts.Goals as goal

pub returns-then-len-gt-MOST_MEMBERS : goal.returns-then-len-gt-MOST_MEMBERS
returns-then-len-gt-MOST_MEMBERS c =
    let len : c.len.result ≡ length c.args.members.now.entries = c.len.ensures.len in
    ap is_some (sym (few_by-many texts_of c.args.members.now.entries (omega arith)))

pub returns : goal.returns
returns c =
    let len : c.len.result ≡ length c.args.members.now.entries = c.len.ensures.len in
    c.are_texts.ensures ∙ ap is_some (sym (few_by-few texts_of c.args.members.now.entries (omega arith)))
