use Rattle.std.proofs.Common.{◌≡◌, ◌∙◌, ◌-◌, ap, inl, inr, map, subst, ℕ, List}
use Rattle.std.specs.Prelude.{IfOk, count_by}
use Rattle.ix_base.specs.Hits.{hit_of}
use Rattle.ix_base.specs.declared.document.Hit.{Hit}
use Rattle.report_text.specs.Born.{born_after}
use Rattle.report_text.specs.Lines.{summary_value, text_line}
use Rattle.report_text.specs.Summaries.{summary_of}
use Rattle.report_text.specs.declared.summary.Summary.{Summary}
use Rattle.index_run.specs.Causes.{stop_of}
use Rattle.index_run.specs.Telling.{is_committed}
use Rattle.index_run.proofs.telling.summary.Goals as goal

pub returns-in-Ok-clause-text : goal.returns-in-Ok-clause-text
returns-in-Ok-clause-text g c = λ files next rows told holds.
    let lines = c.args.upto - c.args.base in
    let same : c.of_run.result ≡ summary_of (count_by is_committed c.args.outcomes.now) lines (map hit_of (born_after c.args.base rows)) =
    c.of_run.ensures.summary
    ∙ ap (λ (n : ℕ). summary_of n lines c.as_slice.result.now) c.commits_among-commits.ensures
    ∙ ap (λ (hits : List Hit). summary_of (count_by is_committed c.args.outcomes.now) lines hits)
    (c.as_slice.ensures.value ∙ c.in-Ok.ensures.hits files next rows told holds) in
    subst (λ (s : Summary). IfOk c.text_or_stop.result (λ bytes. bytes.items ≡ text_line (summary_value s))) same c.text_or_stop.ensures.text

pub returns-in-Err-clause-whole : goal.returns-in-Err-clause-whole
returns-in-Err-clause-whole g c = λ files told reads.
    elim (c.in-Err.ensures.whole files reads.0 reads.1 told reads.2) [
      | inl e ↦ inl (c.from.ensures ∙ ap stop_of e)
      | inr e ↦ inr (c.from.ensures ∙ ap stop_of e)
    ]
