use Rattle.report_text.proofs.FaultTexts.{missing_text}
use Rattle.report_text.proofs.fault.missing_commit.Goals as goal

pub returns : goal.returns
returns c =
    rw (c.push_str-3.ensures.bytes, c.push_str-2.ensures.bytes, c.push_str.ensures.bytes, c.format.ensures.text, c.new-text.ensures)
    (missing_text c.args.number)
