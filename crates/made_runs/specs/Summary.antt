-- What a made script's run comes to, whatever order its lines get their numbers in.
use Rattle.std.specs.Prelude.{◌≡◌, ℕ, pos, ◌+◌, ◌*◌, ◌≤◌, List, [], length, map, All, count_by, IsPermutation}
use Rattle.ix_base.specs.Hits.{hit_of}
use Rattle.ix_base.specs.Steps.{after}
use Rattle.ix_base.specs.declared.document.Row.{Row}
use Rattle.op_script.specs.declared.script.Line.{Line}
use Rattle.report_text.specs.Sums.{sum_of}
use Rattle.report_text.specs.Summaries.{summary_of}
use Rattle.report_text.specs.declared.summary.Summary.{Summary}
use Rattle.row_fates.specs.Fate.{BornBy}
use Rattle.run_log.specs.Headline.{Interleaves, commit_numbers, is_commit, operations, rows_at}
use Rattle.script_maker.specs.Made.{made_script}
use Rattle.report_text.specs.Born.{born_after}
use Rattle.made_runs.specs.Born.{documents}
use Rattle.made_runs.specs.Ends.{EndsAt}
use Rattle.made_runs.specs.Sums.{HasMadeNumber}

-- the rows that the lines leave where they are taken in the order of the script
abbrev pub left_rows : List Line → List Row
left_rows lines = after [] 0 (operations lines)

-- the rows that a run adds over those of the commit `base`, as the run's last commit has them
abbrev pub run_rows : ℕ → List Row → List Line → List Row
run_rows base rows log = born_after base (rows_at base rows log (base + length log))

-- what the lines come to where they are numbered in the order of the script
abbrev pub script_summary : List Line → Summary
script_summary lines = summary_of (count_by (λ (l : Line). is_commit l.act) lines) (length lines) (map hit_of (left_rows lines))

-- what a run comes to whose lines were numbered by the log over these rows of the commit `base`
abbrev pub run_summary : ℕ → List Row → List Line → Summary
run_summary base rows log =
    summary_of (length (commit_numbers base log)) (length log) (map hit_of (run_rows base rows log))

-- A run of the lines, numbered by the log over rows of the commit `base`, comes to what the lines
-- come to in the order of the script: as many lines and commits, of which the last has the number
-- of the log's last line; and in that commit the same documents up to order, so as many, and of
-- the same sum. So its summary is that of the script.
pub record ComesTo (lines log : List Line) (base : ℕ) (rows : List Row) : Type 0 where
  pub all : length log ≡ length lines
  pub commits : length (commit_numbers base log) ≡ count_by (λ (l : Line). is_commit l.act) lines
  pub last : EndsAt (commit_numbers base log) (base + length log)
  pub same : IsPermutation (documents (left_rows lines)) (documents (run_rows base rows log))
  pub docs : length (run_rows base rows log) ≡ length (left_rows lines)
  pub sum : sum_of (map hit_of (run_rows base rows log)) ≡ sum_of (map hit_of (left_rows lines))
  pub summary : run_summary base rows log ≡ script_summary lines

-- Each run of a made script comes to what the script comes to, whatever its log is.
abbrev pub MadeRuns : Type 0
MadeRuns = (seed lines callers base : ℕ) (rows : List Row) (log : List Line)
    → 1 ≤ callers → callers ≤ 256 → BornBy base rows
    → Interleaves (made_script seed lines callers) log
    → ComesTo (made_script seed lines callers) log base rows

-- The rows are at most as many as these, and each has a number `n` that a made script gives. So
-- their sum is a natural number, and small.
pub record AreCounted (most : ℕ) (rows : List Row) : Type 0 where
  pub few : length rows ≤ most
  pub numbers : All HasMadeNumber (map hit_of rows)
  pub sum : (n : ℕ) × (n ≤ 4095 * most) × (sum_of (map hit_of rows) ≡ pos n)

-- The rows that a run of a made script adds are at most as many as the script's lines, of which
-- each caller's commit is one.
abbrev pub MadeNumbers : Type 0
MadeNumbers = (seed lines callers base : ℕ) (rows : List Row) (log : List Line)
    → 1 ≤ callers → callers ≤ 256 → BornBy base rows
    → Interleaves (made_script seed lines callers) log
    → AreCounted (lines + callers) (run_rows base rows log)
