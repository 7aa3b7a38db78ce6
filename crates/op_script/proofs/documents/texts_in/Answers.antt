use Rattle.std.proofs.Common.{◌≡◌, ◌∙◌, sym, ap, length, Some, rules, arith}
use Rattle.serde_json.specs.View.{members_view}
use Rattle.op_script.specs.Documents.{texts_of}
use Rattle.op_script.proofs.Pairs.{few_by-few, few_by-many, length-texts}
use Rattle.op_script.proofs.documents.texts_in.Goals as goal

pub returns-then-len-gt-MOST_MEMBERS : goal.returns-then-len-gt-MOST_MEMBERS
returns-then-len-gt-MOST_MEMBERS c =
    let len : c.len.result ≡ length c.args.members.now.entries = c.len.ensures.len in
    sym (few_by-many texts_of c.args.members.now.entries (omega arith))

pub returns-in-Some : goal.returns-in-Some
returns-in-Some c =
    let len : c.len.result ≡ length c.args.members.now.entries = c.len.ensures.len in
    let pairs : Some c.in-Some.pairs.items ≡ texts_of (members_view c.args.members.now.entries) = search rules in
    ap Some c.from_vec.ensures ∙ pairs ∙ sym (few_by-few texts_of c.args.members.now.entries (omega arith))

pub from_vec-requires-clause-count : goal.from_vec-requires-clause-count
from_vec-requires-clause-count c =
    let len : c.len.result ≡ length c.args.members.now.entries = c.len.ensures.len in
    let pairs : Some c.in-Some.pairs.items ≡ texts_of (members_view c.args.members.now.entries) = search rules in
    omega (arith, length-texts c.args.members.now.entries c.in-Some.pairs.items (sym pairs))
