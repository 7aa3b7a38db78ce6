use Rattle.std.proofs.Common.{◌≡◌, ◌∙◌, sym, ap, length, Some, rules, arith}
use Rattle.serde_json.specs.View.{members_view}
use Rattle.op_script.specs.Documents.{numbers_of}
use Rattle.op_script.proofs.Pairs.{few_by-few, few_by-many}
use Rattle.op_script.proofs.documents.numbers_in.Goals as goal

pub returns-then-len-gt-MOST_MEMBERS : goal.returns-then-len-gt-MOST_MEMBERS
returns-then-len-gt-MOST_MEMBERS c =
    let len : c.len.result ≡ length c.args.members.now.entries = c.len.ensures.len in
    sym (few_by-many numbers_of c.args.members.now.entries (omega arith))

pub returns-in-Some : goal.returns-in-Some
returns-in-Some c =
    let len : c.len.result ≡ length c.args.members.now.entries = c.len.ensures.len in
    let pairs : Some c.in-Some.pairs.items ≡ numbers_of (members_view c.args.members.now.entries) = search rules in
    ap Some c.from_vec.ensures ∙ pairs ∙ sym (few_by-few numbers_of c.args.members.now.entries (omega arith))
