-- What a command comes to, by what it read and what it did.
use Rattle.std.proofs.Common.{◌≡◌, ◌∙◌, ℕ, ◌<◌, ◌^◌, List, [], ◌∷◌, Some, None, Ok, Err, Result, Vec, refl, sym, ap, subst}
use Rattle.std.specs.Prelude.{Option, IfOk, IfErr, IsErrAnd}
use Rattle.std.specs.declared.alloc.Global.{Global}
use Rattle.commit_point.specs.Holds.{Holds, HoldsInverted}
use Rattle.commit_point.specs.declared.heads.Head.{Head}
use Rattle.command_words.specs.declared.command.Command.{Command}
use Rattle.command_words.specs.declared.command.Command.TheVariants.{Ask, Make, Run}
use Rattle.command_words.specs.declared.command.Command.TheVariants as command
use Rattle.ix_base.specs.declared.document.Row.{Row}
use Rattle.ix_base.specs.declared.damaged.Damaged.{Damaged}
use Rattle.index_check.specs.Difference.{DiffersIn}
use Rattle.index_check.specs.Sound.{AreLawful}
use Rattle.index_check.specs.declared.fault.Difference.{Difference}
use Rattle.ix_outside.specs.Causes.{Rose}
use Rattle.ix_outside.specs.Disk.{Disk, told_files}
use Rattle.ix_outside.specs.Files.{Files}
use Rattle.op_script.specs.Language.{script}
use Rattle.op_script.specs.Questions.{questions}
use Rattle.op_script.specs.declared.questions.Question.{Question}
use Rattle.op_script.specs.declared.script.BadLine.{BadLine}
use Rattle.op_script.specs.declared.script.Line.{Line}
use Rattle.report_text.specs.Faults.{status_of}
use Rattle.report_text.specs.declared.fault.Fault.{Fault}
use Rattle.report_text.specs.declared.fault.Fault.TheVariants as fault
use Rattle.run_log.specs.Headline.{CanEnd, CanRun, Given, IsLast}
use Rattle.store_answers.specs.Answers.{answers_text}
use Rattle.store_answers.specs.Asking.{IsAsked, LacksAsked}
use Rattle.store_answers.specs.Listing.{AreListed}
use Rattle.index_run.specs.declared.stop.Stop.{Stop}
use Rattle.index_run.specs.declared.stop.Stop.TheVariants as stop
use Rattle.index_run.specs.declared.telling.Form.{Form}
use Rattle.index_run.specs.declared.telling.Form.TheVariants.{Report, Summary}
use Rattle.index_run.specs.Beginning.{IsHighBase}
use Rattle.index_run.specs.Causes.{IsOneOf, stop_status}
use Rattle.index_run.specs.Commands.{HasScript, form_text}
use Rattle.index_run.specs.Damage.{FindsDamage}
use Rattle.index_run.specs.Endings.{Caused, Met}
use Rattle.index_run.specs.Keeping.{RunsBy, StopsBy}
use Rattle.index_run.specs.Promises.{AnswersQuestions, CanKeep, ChecksCommits, Does, IsCheckOf, IsListOf, ListsCommits, RunsScript}
use Rattle.index_run.proofs.Finish.{keeps_none, stops_none}
use Rattle.index_run.proofs.Listed.{err_and_listed, err_listed, listed_onto}
use Rattle.index_run.proofs.Pruning.{stops_by}

abbrev Bytes : Type 0
Bytes = Vec ℕ Global

-- two inputs that are read alike are alike
pub same_read : {T : Type 0} (parse : List ℕ → Result (List T) BadLine) (bytes : List ℕ) (given read : List T)
    → parse bytes ≡ Ok given → parse bytes ≡ Ok read → given ≡ read
same_read {T} parse bytes given read one other = ap these (sym one ∙ other)
  where
    these : Result (List T) BadLine → List T
    these (Ok all) = all
    these (Err bad) = []

-- ---- a script

-- The lines were done, and they are the script.
pub script_done : (keep : Option ℕ) (IsScript : List Line → Type 0) (form : Form) (lines : List Line) (input : Option (List ℕ))
    (store left : Option Disk) (text : Result Bytes Stop) → ((ls : List Line) → IsScript ls → ls ≡ lines)
    → ((g : Given) → g.lines ≡ lines → told_files store ≡ Some g.files → CanRun g
    → IfOk text (λ made. RunsBy keep g (form_text form g) (λ told. made.items ≡ told) store left))
    → ((g : Given) → g.lines ≡ lines → told_files store ≡ Some g.files → CanRun g → StopsBy keep g store left)
    → ((g : Given) → told_files store ≡ Some g.files → IsLast g.files g.base → 2 ^ 61 < g.base
    → IsErrAnd text (λ s. IsOneOf (stop_status s) (4 ∷ 7 ∷ 10 ∷ [])))
    → ((g : Given) → told_files store ≡ Some g.files → IsLast g.files g.base → CanEnd g → CanKeep keep g.files
    → IfErr text (λ s. IsOneOf (stop_status s) (4 ∷ 7 ∷ [])))
    → RunsScript keep IsScript (form_text form) (record { input = input; store = store; left = left; text = text })
script_done keep IsScript form lines input store left text same runs stops high whole = record {
  runs = λ g is can. runs g (same g.lines is.script) is.stored can;
  stops = λ g is can. stops g (same g.lines is.script) is.stored can;
  high = λ g is above.
      err_and_listed text (4 ∷ 7 ∷ 10 ∷ []) (4 ∷ 5 ∷ 7 ∷ 10 ∷ []) (refl, (refl, (refl, tt)))
      (high g is.stored is.last above);
  whole = λ g is can keeps.
      err_listed text (4 ∷ 7 ∷ []) (4 ∷ 5 ∷ 7 ∷ []) (refl, (refl, tt)) (whole g is.stored is.last can keeps);
}

-- No script was read or made: where there was one, the source failed or memory ran out.
pub script_undone : (keep : Option ℕ) (IsScript : List Line → Type 0) (form : Form) (input : Option (List ℕ))
    (store left : Option Disk) (s : Stop)
    → left ≡ store → ((ls : List Line) → IsScript ls → IsOneOf (stop_status s) (4 ∷ 5 ∷ []))
    → RunsScript keep IsScript (form_text form) (record { input = input; store = store; left = left; text = Err s })
script_undone keep IsScript form input store left s still outside = record {
  runs = λ g is can. tt;
  stops = λ g is can.
      stops_by keep g store left (keeps_none g store left still is.stored).each (stops_none g store left still is.stored can);
  high = λ g is above. listed_onto (stop_status s) (4 ∷ 5 ∷ []) (4 ∷ 5 ∷ 7 ∷ 10 ∷ []) (refl, (refl, tt)) (outside g.lines is.script);
  whole = λ g is can keeps.
      listed_onto (stop_status s) (4 ∷ 5 ∷ []) (4 ∷ 5 ∷ 7 ∷ []) (refl, (refl, tt)) (outside g.lines is.script);
}

-- the script that was read is the one that the input is
pub is_read : (bytes_of : Option (List ℕ)) (threads buffer merge : ℕ) (keep : Option ℕ) (lines : List Line)
    → ((bytes : List ℕ) → bytes_of ≡ Some bytes → script bytes ≡ Ok lines)
    → (ls : List Line) → HasScript (Run threads buffer merge keep) bytes_of ls → ls ≡ lines
is_read bytes_of threads buffer merge keep lines read ls is = same_read script is.0 ls lines is.2 (read is.0 is.1)

-- ---- questions

pub asked_done : (commit : Option ℕ) (asked : List Question) (input : Option (List ℕ)) (store left : Option Disk)
    (text : Result Bytes Stop) → left ≡ store → ((bytes : List ℕ) → input ≡ Some bytes → questions bytes ≡ Ok asked)
    → ((files : Files) (s next : ℕ) (rows : List Row) → told_files store ≡ Some files → IsAsked files commit s
    → HoldsInverted files s next rows → IfOk text (λ made. made.items ≡ answers_text s rows asked))
    → ((files : Files) (s next : ℕ) (rows : List Row) → told_files store ≡ Some files → IsAsked files commit s
    → Holds files s next rows → IfErr text (λ s. IsOneOf (stop_status s) (4 ∷ 7 ∷ [])))
    → ((files : Files) → told_files store ≡ Some files → LacksAsked files commit
    → IsErrAnd text (λ s. IsOneOf (stop_status s) (4 ∷ 7 ∷ 9 ∷ [])))
    → AnswersQuestions commit (record { input = input; store = store; left = left; text = text })
asked_done commit asked input store left text still read told whole missing = record {
  answers = λ a is holds.
      let same : asked ≡ a.questions = same_read questions is.spelled.0 asked a.questions (read is.spelled.0 is.spelled.1) is.spelled.2 in
      subst (λ (qs : List Question). IfOk text (λ made. made.items ≡ answers_text a.number a.rows qs)) same
      (told a.files a.number a.next a.rows is.stored is.asked holds);
  missing = λ files qs has is lacks.
      err_and_listed text (4 ∷ 7 ∷ 9 ∷ []) (4 ∷ 5 ∷ 7 ∷ 9 ∷ []) (refl, (refl, (refl, tt))) (missing files is lacks);
  whole = λ a is holds.
      err_listed text (4 ∷ 7 ∷ []) (4 ∷ 5 ∷ 7 ∷ []) (refl, (refl, tt))
      (whole a.files a.number a.next a.rows is.stored is.asked holds);
  same = still;
}

-- no question was read: where there were any, the source failed or memory ran out
pub asked_undone : (commit : Option ℕ) (input : Option (List ℕ)) (store left : Option Disk) (s : Stop) → left ≡ store
    → ((bytes : List ℕ) (asked : List Question) → input ≡ Some bytes → questions bytes ≡ Ok asked
    → IsOneOf (stop_status s) (4 ∷ 5 ∷ []))
    → AnswersQuestions commit (record { input = input; store = store; left = left; text = Err s })
asked_undone commit input store left s still outside = record {
  answers = λ a is holds. tt;
  missing = λ files qs has is lacks.
      listed_onto (stop_status s) (4 ∷ 5 ∷ []) (4 ∷ 5 ∷ 7 ∷ 9 ∷ []) (refl, (refl, tt)) (outside has.0 qs has.1 has.2);
  whole = λ a is holds.
      listed_onto (stop_status s) (4 ∷ 5 ∷ []) (4 ∷ 5 ∷ 7 ∷ []) (refl, (refl, tt))
      (outside is.spelled.0 a.questions is.spelled.1 is.spelled.2);
  same = still;
}

-- ---- a list

pub listed_done : (input : Option (List ℕ)) (store left : Option Disk) (text : Result Bytes Stop) → left ≡ store
    → ((files : Files) → told_files store ≡ Some files → IfOk text (λ made. IsListOf files made.items))
    → ((files : Files) (heads : List Head) → told_files store ≡ Some files → AreListed files heads
    → IfErr text (λ s. IsOneOf (stop_status s) (4 ∷ 7 ∷ [])))
    → ListsCommits (record { input = input; store = store; left = left; text = text })
listed_done input store left text still lists whole = record {
  lists = lists;
  whole = λ files heads is are. err_listed text (4 ∷ 7 ∷ []) (4 ∷ 5 ∷ 7 ∷ []) (refl, (refl, tt)) (whole files heads is are);
  same = still;
}

-- ---- a check

pub checked_done : (input : Option (List ℕ)) (store left : Option Disk) (text : Result Bytes Stop) → left ≡ store
    → ((files : Files) → told_files store ≡ Some files → IfOk text (λ made. IsCheckOf files made.items))
    → ((files : Files) (d : Difference) → told_files store ≡ Some files → DiffersIn files d
    → IsErrAnd text (λ s. IsOneOf (stop_status s) (4 ∷ 7 ∷ 11 ∷ [])))
    → ((files : Files) → told_files store ≡ Some files → AreLawful files
    → IfErr text (λ s. IsOneOf (stop_status s) (4 ∷ 7 ∷ [])))
    → ChecksCommits (record { input = input; store = store; left = left; text = text })
checked_done input store left text still checks differs whole = record {
  checks = checks;
  differs = differs;
  whole = λ files is lawful. err_listed text (4 ∷ 7 ∷ []) (4 ∷ 5 ∷ 7 ∷ []) (refl, (refl, tt)) (whole files is lawful);
  same = still;
}

-- ---- a command for which memory ran out

pub does_nothing : (c : Command) (input : Option (List ℕ)) (store left : Option Disk) → left ≡ store
    → Does c (record { input = input; store = store; left = left; text = Err stop.NoMemory })
does_nothing (Run threads buffer merge keep) input store left still =
    script_undone keep (HasScript (Run threads buffer merge keep) input) Report input store left stop.NoMemory still (λ ls is. refl)
does_nothing (Ask commit) input store left still =
    asked_undone commit input store left stop.NoMemory still (λ bytes asked told is. refl)
does_nothing command.List input store left still = record {
  lists = λ files is. tt;
  whole = λ files heads is are. refl;
  same = still;
}
does_nothing command.Check input store left still = record {
  checks = λ files is. tt;
  differs = λ files d is in'. refl;
  whole = λ files is lawful. refl;
  same = still;
}
does_nothing (Make seed count callers) input store left still =
    script_undone None (HasScript (Make seed count callers) input) Summary input store left stop.NoMemory still (λ ls is. refl)

-- ---- the cause of a fault in a run

pub caused_run : (threads buffer merge : ℕ) (keep : Option ℕ) (met : Met) (f : Fault) → IsOneOf (status_of f) (4 ∷ 7 ∷ 8 ∷ 10 ∷ [])
    → (f ≡ fault.Store → Rose met.store_before met.store_after)
    → ((d : Damaged) → f ≡ fault.Damaged d
    → FindsDamage (Run threads buffer merge keep) met.input (told_files met.store) (told_files met.left) d)
    → ((b : ℕ) → f ≡ fault.Base b → IsHighBase (told_files met.store) b) → Caused (Run threads buffer merge keep) met f
caused_run threads buffer merge keep met fault.Words h store damaged base = absurd cc
caused_run threads buffer merge keep met (fault.BadLine bad) h store damaged base = absurd cc
caused_run threads buffer merge keep met fault.Source h store damaged base = absurd cc
caused_run threads buffer merge keep met fault.Store h store damaged base = store refl
caused_run threads buffer merge keep met (fault.Damaged d) h store damaged base = damaged d refl
caused_run threads buffer merge keep met (fault.NoSuch number) h store damaged base = absurd cc
caused_run threads buffer merge keep met (fault.Base b) h store damaged base = base b refl
caused_run threads buffer merge keep met (fault.Differs file at found wanted) h store damaged base = absurd cc
