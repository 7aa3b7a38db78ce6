use Rattle.report_text.proofs.FaultTexts.{base_text}
use Rattle.report_text.proofs.fault.high_base.Goals as goal

pub returns : goal.returns
returns c =
    rw (c.push_str-3.ensures.bytes, c.push_str-2.ensures.bytes, c.push_str.ensures.bytes, c.format.ensures.text, c.new-text.ensures)
    (base_text c.args.base)
