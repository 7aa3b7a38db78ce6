use Rattle.report_text.proofs.FaultTexts.{damaged_text}
use Rattle.report_text.proofs.fault.damaged_file.Goals as goal

pub returns : goal.returns
returns c =
    rw (c.push_str-5.ensures.bytes, c.push_str-4.ensures.bytes, c.push_str-3.ensures.bytes, c.push_str-2.ensures.bytes, c.push_str.ensures.bytes, c.format.ensures.text, c.as_str.ensures.value, c.text-name.ensures, c.new-text.ensures)
    (damaged_text c.args.damaged)
