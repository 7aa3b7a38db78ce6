-- A script's search lines, answered where the rounds behind their commit lines have ended.
use Rattle.std.specs.Prelude.{◌≡◌, ◌≢◌, ℕ, zero, suc, List, [], ◌∷◌, ◌++◌, length, take, drop}
use Rattle.std.specs.Global.{Vec}
use Rattle.std.specs.List.{AllZip}
use Rattle.ix_base.specs.Hits.{hits}
use Rattle.ix_base.specs.declared.document.Row.{Row}
use Rattle.ix_base.specs.declared.query.Query.{Query}
use Rattle.op_script.specs.declared.script.Line.{Line}
use Rattle.report_text.specs.Lines.{search_value, text_line}
use Rattle.index_writer.specs.Ready.{HasRows}
use Rattle.index_writer.specs.declared.state.State.{State}
use Rattle.line_shares.specs.Asks.{number_behind}
use Rattle.line_shares.specs.declared.asks.Ask.{Ask}
use Rattle.run_log.specs.Headline.{rows_at}
use Rattle.run_log.specs.Numbering.{HasLine}

-- ---- one answer

-- The text of a search line: what matches in these rows of the commit s.
abbrev pub found_text : ℕ → Query → List Row → ℕ → List ℕ
found_text s query rows line = text_line (search_value s (hits query rows) line)

-- The text answers the search line from the rows of the writer, where it has some.
abbrev pub IsTextBy : State → Ask → List ℕ → Type 0
IsTextBy w a text = (rows : List Row) → HasRows w rows
    → text ≡ found_text w.published.upto a.query rows a.line

-- The text answers a search of the commit s from its rows, where the writer had some when the run began.
abbrev pub IsFound : State → List Line → ℕ → Query → ℕ → List ℕ → Type 0
IsFound first log s query line text = (rows : List Row) → HasRows first rows
    → text ≡ found_text s query (rows_at first.published.upto rows log s) line

-- the text answers the search line from the rows of the commit behind whose line it stands
abbrev pub IsTextOf : State → List Line → Ask → List ℕ → Type 0
IsTextOf first log a text = IsFound first log (number_behind first.published.upto log a.behind) a.query a.line text

-- ---- the answers behind one commit line

-- the search line stands behind the commit line at this place, and the text answers it from the rows of the writer
abbrev pub IsAnswerBehind : State → ℕ → Ask → List ℕ → Type 0
IsAnswerBehind w place a text = (a.behind ≡ place) × IsTextBy w a text

-- Of a caller's search lines more were answered by the writer's rows, as far as they stand behind the commit line at this
-- place.
pub record AnswersBehind (w : State) (place : ℕ) (asks : List Ask) (old new : List (List ℕ)) : Type 0 where
  pub more : List (List ℕ)
  pub new_is : new ≡ old ++ more
  pub answers : AllZip (IsAnswerBehind w place) (take (length more) (drop (length old) asks)) more
  pub next : (a : Ask) (rest : List Ask) → drop (length new) asks ≡ a ∷ rest → a.behind ≢ place

-- no search line of a caller is answered
abbrev pub IsNone : Vec (List ℕ) → Type 0
IsNone texts = texts.items ≡ []

-- the same of each caller
abbrev pub AllAnswerBehind : State → ℕ → List (Vec Ask) → List (Vec (List ℕ)) → List (Vec (List ℕ)) → Type 0
AllAnswerBehind w place [] [] [] = Unit {0}
AllAnswerBehind w place (a ∷ asks) (o ∷ olds) (n ∷ news) =
    AnswersBehind w place a.items o.items n.items × AllAnswerBehind w place asks olds news
AllAnswerBehind w place asks olds news = ⊥

-- ---- how far they are answered

-- the commit line at this place is in the log; at the place 0 stands the commit on which the run began
abbrev pub IsSettled : List Line → ℕ → Type 0
IsSettled log zero = Unit {0}
IsSettled log (suc place) = HasLine log (suc place)

-- the search line stands behind a commit line of the log, and the text answers it from that commit's rows
abbrev pub IsAnswerOf : State → List Line → Ask → List ℕ → Type 0
IsAnswerOf first log a text = IsSettled log a.behind × IsTextOf first log a text

-- Of a caller's search lines those are answered that stand behind a commit line of the log.
pub record IsAnswered (first : State) (log : List Line) (asks : List Ask) (texts : List (List ℕ)) : Type 0 where
  pub answers : AllZip (IsAnswerOf first log) (take (length texts) asks) texts
  pub next : (a : Ask) (rest : List Ask) → drop (length texts) asks ≡ a ∷ rest → IsSettled log a.behind → ⊥

-- the same of each caller
abbrev pub AreAnswered : State → List Line → List (Vec Ask) → List (Vec (List ℕ)) → Type 0
AreAnswered first log asks texts = AllZip (λ (a : Vec Ask) (t : Vec (List ℕ)). IsAnswered first log a.items t.items) asks texts
