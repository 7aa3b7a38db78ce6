use Rattle.report_text.proofs.FaultTexts.{differing_text}
use Rattle.report_text.proofs.fault.differing_file.Goals as goal

pub returns : goal.returns
returns c =
    rw (c.push_str-9.ensures.bytes, c.push_str-8.ensures.bytes, c.push_str-7.ensures.bytes, c.push_str-6.ensures.bytes, c.push_str-5.ensures.bytes, c.push_str-4.ensures.bytes, c.push_str-3.ensures.bytes, c.push_str-2.ensures.bytes, c.push_str.ensures.bytes, c.format-3.ensures.text, c.format-2.ensures.text, c.format.ensures.text, c.as_str.ensures.value, c.text-name.ensures, c.new-text.ensures)
    (differing_text c.args.file c.args.at c.args.found c.args.wanted)
