-- The numbers that workers were told, in a log that grows.
use Rattle.std.proofs.Common.{◌∙◌, ℕ, ◌+◌, ◌++◌, List, length, sym, subst}
use Rattle.std.specs.List.{AllByRecursion, AllZip}
use Rattle.op_script.specs.Shape.{LinesRise}
use Rattle.op_script.specs.declared.script.Line.{Line}
use Rattle.round_order.specs.Order.{Working}
use Rattle.worker_tasks.specs.declared.share.Share.{Share}
use Rattle.run_log.specs.Headline.{is_numbered, numbered}
use Rattle.run_log.proofs.Lists.{each_in_both, each_pair, each_says}
use Rattle.run_log.proofs.NumberLaws.{has_line_behind, has_line_in_front}
use Rattle.run_log.proofs.NumberLaws.{lines_told, number_in_front, numbers_behind}
use Rattle.run_log.proofs.PlaceLaws.{filter_rises}
use Rattle.run_log.specs.Telling.{AreTells, IsOrder, Tell}
use Rattle.run_log.proofs.TellingLaws.{HasNumber}
use Rattle.run_log.specs.Numbering.{HasLine}
use Rattle.line_shares.proofs.LogLaws.{log_grows, log_is_part}
use Rattle.line_shares.proofs.ShareLaws.{shares_go_on}
use Rattle.line_shares.specs.Shares.{AreShares, GoesOn}
use Rattle.line_shares.specs.Tells.{AreTold, IsLogOf, IsTold, told_since, told_so_far}
use Rattle.line_shares.proofs.TellLaws.{tells_grow, tells_since}

-- what was told of the log's lines stays so when it grows
told_stays : (base : ℕ) (log more : List Line) (tells : List Tell) → AllByRecursion (IsTold base log) tells
    → AllByRecursion (IsTold base (log ++ more)) tells
told_stays base log more tells told =
    each_says (IsTold base log) (IsTold base (log ++ more)) tells
    (λ t is. (
      has_line_in_front log more t.line.line is.0,
      number_in_front base log more t.line.line is.0 ∙ is.1,
    )) told

-- Each line that was told a number still stands in the log with it, and so does each that was told one since.
pub told_go_on : (n base low : ℕ) (lines : List Line) (olds news : List Share) (log : List Line) (ts : List Working)
    (more : List Line) → LinesRise low lines → AreShares n lines olds → AllZip GoesOn olds news
    → IsLogOf n lines olds log → AreTold n base lines olds log
    → IsOrder n (base + length log) (told_since n lines olds news) ts more → AreTold n base lines news (log ++ more)
told_go_on n base low lines olds news log ts more rise are go is told o worker =
    subst (AllByRecursion (IsTold base (log ++ more))) (sym (tells_grow n lines olds news are go worker))
    (each_in_both (IsTold base (log ++ more)) (told_so_far n lines olds worker) (since worker)
    (told_stays base log more (told_so_far n lines olds worker) (told worker)) told_now)
  where
    since : ℕ → List Tell
    since = told_since n lines olds news

    tells : AreTells n (numbered lines) since
    tells = tells_since n lines olds news are go

    rises : LinesRise low (numbered lines)
    rises = filter_rises (λ (l : Line). is_numbered l.act) low lines rise

    has : AllByRecursion (λ (t : Tell). HasLine more t.line.line) (since worker)
    has = lines_told n (base + length log) (numbered lines) since ts more tells o worker

    numbers : AllByRecursion (HasNumber base (log ++ more)) (since worker)
    numbers =
        numbers_behind n base low (numbered lines) since ts log more rises tells
        (log_is_part n lines news (log ++ more) (shares_go_on n lines olds news are go)
        (log_grows n (base + length log) lines olds news log ts more are go is o)) o worker

    told_now : AllByRecursion (IsTold base (log ++ more)) (since worker)
    told_now =
        each_pair (λ (t : Tell). HasLine more t.line.line) (HasNumber base (log ++ more)) (IsTold base (log ++ more))
        (since worker) (λ t here is. (has_line_behind log more t.line.line here, is)) has numbers
