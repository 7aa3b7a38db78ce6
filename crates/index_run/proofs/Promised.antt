-- What follows from a command's promises.
use Rattle.std.proofs.Common.{◌≡◌, ◌<◌, ◌^◌, [], ◌∷◌, Some, subst}
use Rattle.std.specs.Prelude.{Option, IfOk, IfErr, IsErrAnd}
use Rattle.command_words.specs.declared.command.Command.{Command}
use Rattle.command_words.specs.declared.command.Command.TheVariants.{Ask, Make, Run}
use Rattle.command_words.specs.declared.command.Command.TheVariants as command
use Rattle.report_text.specs.declared.fault.Fault.{Fault}
use Rattle.run_log.specs.Headline.{CanRun, Given, IsGiven}
use Rattle.index_run.specs.Causes.{IsOneOf, stop_status}
use Rattle.index_run.specs.Commands.{HasScript, OnlyReads, keep_of, run_text}
use Rattle.index_run.specs.Keeping.{RunsBy, StopsBy}
use Rattle.index_run.specs.Endings.{Caused, CausedBy, Met}
use Rattle.index_run.specs.Promises.{Call, CanComplete, Does}

-- a command that has a script runs it
pub does_run : (c : Command) (call : Call) → Does c call → (g : Given) → IsGiven g (HasScript c call.input) call.store → CanRun g
    → IfOk call.text (λ made. RunsBy (keep_of c) g (run_text c g) (λ told. made.items ≡ told) call.store call.left)
does_run (Run threads buffer merge keep) call does g is can = does.runs g is can
does_run (Ask commit) call does g is can = absurd is.script
does_run command.List call does g is can = absurd is.script
does_run command.Check call does g is can = absurd is.script
does_run (Make seed count callers) call does g is can = does.runs g is can

pub does_stop : (c : Command) (call : Call) → Does c call → (g : Given) → IsGiven g (HasScript c call.input) call.store → CanRun g
    → StopsBy (keep_of c) g call.store call.left
does_stop (Run threads buffer merge keep) call does g is can = does.stops g is can
does_stop (Ask commit) call does g is can = absurd is.script
does_stop command.List call does g is can = absurd is.script
does_stop command.Check call does g is can = absurd is.script
does_stop (Make seed count callers) call does g is can = does.stops g is can

-- a command that only reads leaves the store as it was
pub does_read : (c : Command) (call : Call) → Does c call → OnlyReads c → call.left ≡ call.store
does_read (Run threads buffer merge keep) call does only = absurd only
does_read (Ask commit) call does only = does.same
does_read command.List call does only = does.same
does_read command.Check call does only = does.same
does_read (Make seed count callers) call does only = absurd only

-- it stops at a last commit that is too high
pub does_high : (c : Command) (call : Call) → Does c call → (g : Given) → IsGiven g (HasScript c call.input) call.store
    → 2 ^ 61 < g.base → IsErrAnd call.text (λ s. IsOneOf (stop_status s) (4 ∷ 5 ∷ 7 ∷ 10 ∷ []))
does_high (Run threads buffer merge keep) call does g is above = does.high g is above
does_high (Ask commit) call does g is above = absurd is.script
does_high command.List call does g is above = absurd is.script
does_high command.Check call does g is above = absurd is.script
does_high (Make seed count callers) call does g is above = does.high g is above

-- where it can come to its end, the outside or memory alone stops it
pub does_whole : (c : Command) (call : Call) → Does c call → CanComplete c call.input call.store
    → IfErr call.text (λ s. IsOneOf (stop_status s) (4 ∷ 5 ∷ 7 ∷ []))
does_whole (Run threads buffer merge keep) call does can = does.whole can.0 can.1 can.2 can.3
does_whole (Ask commit) call does can = does.whole can.0 can.1 can.2
does_whole command.List call does can = does.whole can.0 can.1 can.2 can.3
does_whole command.Check call does can = does.whole can.0 can.1 can.2
does_whole (Make seed count callers) call does can = does.whole can.0 can.1 can.2 tt

-- the cause of a fault in words that are a command
pub caused_in : (words : Option Command) (c : Command) (met : Met) (f : Fault) → words ≡ Some c → CausedBy words met f → Caused c met f
caused_in words c met f is cause = subst (λ (w : Option Command). CausedBy w met f) is cause
