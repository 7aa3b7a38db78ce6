use Rattle.report_text.proofs.FaultTexts.{bad_line_text}
use Rattle.report_text.proofs.fault.bad_line.Goals as goal

pub returns : goal.returns
returns c =
    rw (c.push_str-5.ensures.bytes, c.push_str-4.ensures.bytes, c.push_str-3.ensures.bytes, c.push_str-2.ensures.bytes, c.push_str.ensures.bytes, c.format.ensures.text, c.reason.ensures.text, c.new-text.ensures)
    (bad_line_text c.args.bad)
