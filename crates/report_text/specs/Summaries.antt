-- What a run came to.
use Rattle.std.specs.Prelude.{ℕ, List, length}
use Rattle.ix_base.specs.declared.document.Hit.{Hit}
use Rattle.report_text.specs.Sums.{nearest, sum_of}
use Rattle.report_text.specs.declared.summary.Summary.{Summary}

-- a run that made so many commits, gave so many lines a number, and has these hits of its own rows in its last commit
abbrev pub summary_of : ℕ → ℕ → List Hit → Summary
summary_of commits lines hits =
    record { commits = commits; docs = length hits; lines = lines; sum = nearest (sum_of hits) }
