-- The line that tells a fault, as serde_json would write its value.
use Rattle.std.specs.Prelude.{ℕ, List, codes}
use Rattle.serde_json.specs.Data.{Data, object, member, no_members, string}
use Rattle.ix_base.specs.FileNames.{name_text}
use Rattle.op_script.specs.declared.script.Why.{Why}
use Rattle.op_script.specs.declared.script.Why.TheVariants as why
use Rattle.report_text.specs.Lines.{natural, text_line}
use Rattle.report_text.specs.declared.fault.Fault.{Fault}
use Rattle.report_text.specs.declared.fault.Fault.TheVariants as fault

-- the reason of a bad line
abbrev pub why_text : Why → List ℕ
why_text why.Long = codes "long"
why_text why.Json = codes "json"
why_text why.Caller = codes "caller"
why_text why.Op = codes "op"
why_text why.Members = codes "members"
why_text why.Name = codes "name"
why_text why.Text = codes "text"
why_text why.Number = codes "number"
why_text why.Query = codes "query"
why_text why.Doc = codes "doc"
why_text why.Data = codes "data"

-- {"status":N,"why":W}
abbrev pub plain_value : ℕ → List ℕ → Data
plain_value status why =
    object (member (codes "status") (natural status) (member (codes "why") (string why) no_members))

abbrev pub fault_value : Fault → Data
fault_value fault.Words = plain_value 2 (codes "words")
fault_value (fault.BadLine bad) = object (member (codes "line") (natural bad.line) (member (codes "status") (natural 3) (member (codes "why") (string (why_text bad.why)) no_members)))
fault_value fault.Source = plain_value 5 (codes "source")
fault_value fault.Store = plain_value 7 (codes "store")
fault_value (fault.Damaged damaged) = object (member (codes "at") (natural damaged.at) (member (codes "file") (string (name_text damaged.file)) (member (codes "status") (natural 8) no_members)))
fault_value (fault.NoSuch commit) =
    object (member (codes "commit") (natural commit) (member (codes "status") (natural 9) no_members))
fault_value (fault.Base base) =
    object (member (codes "base") (natural base) (member (codes "status") (natural 10) no_members))
fault_value (fault.Differs file at found wanted) = object (member (codes "at") (natural at) (member (codes "file") (string (name_text file)) (member (codes "found") (natural found)
    (member (codes "status") (natural 11) (member (codes "wanted") (natural wanted) no_members)))))

abbrev pub fault_text : Fault → List ℕ
fault_text fault = text_line (fault_value fault)

abbrev pub status_of : Fault → ℕ
status_of fault.Words = 2
status_of (fault.BadLine bad) = 3
status_of fault.Source = 5
status_of fault.Store = 7
status_of (fault.Damaged damaged) = 8
status_of (fault.NoSuch commit) = 9
status_of (fault.Base base) = 10
status_of (fault.Differs file at found wanted) = 11
