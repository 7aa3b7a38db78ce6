use Rattle.std.proofs.Common.{◌∙◌, ℕ, List, ap}
use Rattle.serde_json.specs.Written.{has_float}
use Rattle.report_text.specs.Lines.{listed_value, text_line}
use Rattle.std.proofs.lemmas.Result.{IfOk-weaker}
use Rattle.report_text.proofs.Floats.{listed_plain}
use Rattle.report_text.proofs.listed.listed_text.Goals as goal

pub text_of-requires : goal.text_of-requires
text_of-requires c = ap has_float c.in_ok-value.ensures ∙ listed_plain c.args.commit c.as_slice.result.now c.args.docs

pub returns : goal.returns
returns c = IfOk-weaker c.text_of.result _ _
    (λ text is. is ∙ ap text_line (c.in_ok-value.ensures ∙ ap (λ (ps : List (List ℕ × List ℕ)). listed_value c.args.commit ps c.args.docs) c.as_slice.ensures.pairs))
    c.text_of.ensures
