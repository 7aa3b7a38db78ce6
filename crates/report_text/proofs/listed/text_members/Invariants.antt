use Rattle.std.proofs.Common.{◌≡◌, fold, take}
use Rattle.serde_json.specs.Data.{no_members}
use Rattle.serde_json.specs.View.{members_view}
use Rattle.report_text.specs.Lines.{with_text}
use Rattle.report_text.proofs.listed.text_members.Given as goal

abbrev pub invariant-loop-name : goal.invariant-loop-name
invariant-loop-name l = members_view l.found.entries ≡ fold with_text no_members (take l.name-index l.pairs)
