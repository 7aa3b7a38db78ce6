use Rattle.std.proofs.Common.{◌∙◌}
use Rattle.report_text.proofs.FaultTexts.{words_text, source_text, store_text}
use Rattle.report_text.proofs.fault.Fault.text.Goals as goal

pub returns-in-Words : goal.returns-in-Words
returns-in-Words c = rw c.in-Words.is (c.plain.ensures ∙ words_text)

pub returns-in-Source : goal.returns-in-Source
returns-in-Source c = rw c.in-Source.is (c.plain-in-Source.ensures ∙ source_text)

pub returns-in-Store : goal.returns-in-Store
returns-in-Store c = rw c.in-Store.is (c.plain-in-Store.ensures ∙ store_text)
