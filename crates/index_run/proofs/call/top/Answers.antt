use Rattle.std.proofs.Common.{◌≡◌, ◌∙◌, ℕ, List, [], ◌∷◌, take, Err, ap, subst}
use Rattle.std.specs.Io.KnownBytes.{Appends}
use Rattle.index_run.specs.Causes.{IsOneOf, LeavesStoreBy, WritesBy, WritesFront, stop_status}
use Rattle.index_run.specs.Commands.{command_of, keep_by, keep_of, run_text}
use Rattle.index_run.specs.Keeping.{RunsBy}
use Rattle.index_run.specs.Endings.{Met}
use Rattle.index_run.specs.Promises.{Call, IsCheckOf, IsListOf, asked_text}
use Rattle.index_run.proofs.Ended.{at_ok, complete_by, ends_by, of_stop, runs_onto}
use Rattle.index_run.proofs.Listed.{at_err, at_err_and, no_err}
use Rattle.index_run.proofs.Promised.{caused_in, does_high, does_read, does_run, does_stop, does_whole}
use Rattle.index_run.proofs.call.top.Goals as goal

-- ---- the text was made

pub returns-in-Ok-clause-high : goal.returns-in-Ok-clause-high
returns-in-Ok-clause-high g c = λ command given words is above.
    let call : Call = record {
      input = g.I.Source.left c.args.input.now;
      store = g.S.Store.disk c.args.store;
      left = g.S.Store.disk c.come_to-text.result.store;
      text = c.come_to-text.result.text;
    } in
    absurd (no_err c.come_to-text.result.text c.in-Ok.text (λ s. IsOneOf (stop_status s) (4 ∷ 5 ∷ 7 ∷ 10 ∷ [])) c.in-Ok.is
    (does_high command call (c.come_to-text.ensures.does command words) given is above))

pub returns-in-Ok-clause-missing : goal.returns-in-Ok-clause-missing
returns-in-Ok-clause-missing g c = λ commit files asked words has told lacks.
    absurd (no_err c.come_to-text.result.text c.in-Ok.text (λ s. IsOneOf (stop_status s) (4 ∷ 5 ∷ 7 ∷ 9 ∷ [])) c.in-Ok.is
    ((c.come_to-text.ensures.does _ words).missing files asked has told lacks))

pub returns-in-Ok-clause-headline : goal.returns-in-Ok-clause-headline
returns-in-Ok-clause-headline g c = λ command given words is can zero.
    let call : Call = record {
      input = g.I.Source.left c.args.input.now;
      store = g.S.Store.disk c.args.store;
      left = g.S.Store.disk c.come_to-text.result.store;
      text = c.come_to-text.result.text;
    } in
    let Wrote : List ℕ → Type 0 = λ text. Appends (g.O.Sink.written c.args.out.now) (g.O.Sink.written c.write_text-status.new.out) text in
    runs_onto (keep_of command) given (run_text command given) (λ told. c.in-Ok.text.items ≡ told) Wrote call.store call.left
    (λ text e. subst Wrote (c.as_slice.ensures.value ∙ e) (c.write_text-status.ensures.text.whole zero))
    (at_ok c.come_to-text.result.text c.in-Ok.text (λ made. RunsBy (keep_of command) given (run_text command given) (λ told. made.items ≡ told) call.store call.left) c.in-Ok.is
    (does_run command call (c.come_to-text.ensures.does command words) given is can))

pub returns-in-Ok-clause-front : goal.returns-in-Ok-clause-front
returns-in-Ok-clause-front g c = λ command given words is can six.
    let call : Call = record {
      input = g.I.Source.left c.args.input.now;
      store = g.S.Store.disk c.args.store;
      left = g.S.Store.disk c.come_to-text.result.store;
      text = c.come_to-text.result.text;
    } in
    let Wrote : List ℕ → Type 0 = λ text. (n : ℕ) × Appends (g.O.Sink.written c.args.out.now) (g.O.Sink.written c.write_text-status.new.out) (take n text) in
    runs_onto (keep_of command) given (run_text command given) (λ told. c.in-Ok.text.items ≡ told) Wrote call.store call.left
    (λ text e. subst Wrote (c.as_slice.ensures.value ∙ e) (c.write_text-status.ensures.text.front six))
    (at_ok c.come_to-text.result.text c.in-Ok.text (λ made. RunsBy (keep_of command) given (run_text command given) (λ told. made.items ≡ told) call.store call.left) c.in-Ok.is
    (does_run command call (c.come_to-text.ensures.does command words) given is can))

pub returns-in-Ok-clause-stops : goal.returns-in-Ok-clause-stops
returns-in-Ok-clause-stops g c = λ command given words is can.
    let call : Call = record {
      input = g.I.Source.left c.args.input.now;
      store = g.S.Store.disk c.args.store;
      left = g.S.Store.disk c.come_to-text.result.store;
      text = c.come_to-text.result.text;
    } in
    does_stop command call (c.come_to-text.ensures.does command words) given is can

pub returns-in-Ok-clause-answers : goal.returns-in-Ok-clause-answers
returns-in-Ok-clause-answers g c = λ commit asked words is holds listed.
    let Wrote : List ℕ → Type 0 = WritesBy c.write_text-status.result (g.O.Sink.written c.args.out.now) (g.O.Sink.written c.write_text-status.new.out) in
    subst Wrote
    (c.as_slice.ensures.value
    ∙ at_ok c.come_to-text.result.text c.in-Ok.text (λ made. made.items ≡ asked_text asked) c.in-Ok.is
    ((c.come_to-text.ensures.does _ words).answers asked is holds)) c.write_text-status.ensures.text

pub returns-in-Ok-clause-lists : goal.returns-in-Ok-clause-lists
returns-in-Ok-clause-lists g c = λ files words told listed.
    let Wrote : List ℕ → Type 0 = WritesBy c.write_text-status.result (g.O.Sink.written c.args.out.now) (g.O.Sink.written c.write_text-status.new.out) in (
      c.in-Ok.text.items,
      at_ok c.come_to-text.result.text c.in-Ok.text (λ made. IsListOf files made.items) c.in-Ok.is
          ((c.come_to-text.ensures.does _ words).lists files told),
      subst Wrote c.as_slice.ensures.value c.write_text-status.ensures.text,
    )

pub returns-in-Ok-clause-differing : goal.returns-in-Ok-clause-differing
returns-in-Ok-clause-differing g c = λ files d words told in'.
    absurd (no_err c.come_to-text.result.text c.in-Ok.text (λ s. IsOneOf (stop_status s) (4 ∷ 7 ∷ 11 ∷ [])) c.in-Ok.is
    ((c.come_to-text.ensures.does _ words).differs files d told in'))

pub returns-in-Ok-clause-checks : goal.returns-in-Ok-clause-checks
returns-in-Ok-clause-checks g c = λ files words told listed.
    let Wrote : List ℕ → Type 0 = WritesBy c.write_text-status.result (g.O.Sink.written c.args.out.now) (g.O.Sink.written c.write_text-status.new.out) in (
      c.in-Ok.text.items,
      at_ok c.come_to-text.result.text c.in-Ok.text (λ made. IsCheckOf files made.items) c.in-Ok.is
          ((c.come_to-text.ensures.does _ words).checks files told),
      subst Wrote c.as_slice.ensures.value c.write_text-status.ensures.text,
    )

pub returns-in-Ok-clause-reads : goal.returns-in-Ok-clause-reads
returns-in-Ok-clause-reads g c = λ command words only. does_read command _ (c.come_to-text.ensures.does command words) only

-- ---- the call stopped

pub returns-in-Err-clause-fault : goal.returns-in-Err-clause-fault
returns-in-Err-clause-fault g c = λ listed.
    let count = g.O.Sink.fault_count in
    let met : Met = record {
      input = g.I.Source.left c.args.input.now;
      store = g.S.Store.disk c.args.store;
      left = g.S.Store.disk c.come_to-text.result.store;
      source_before = g.I.Source.fault_count c.args.input.now;
      source_after = g.I.Source.fault_count c.come_to-text.new.input;
      store_before = g.S.Store.fault_count c.args.store;
      store_after = g.S.Store.fault_count c.come_to-text.result.store;
    } in
    let Wrote : List ℕ → Type 0 = WritesFront (g.O.Sink.written c.args.out.now) (g.O.Sink.written c.tell-status.new.out) (count c.args.out.now) (count c.tell-status.new.out) in
    ends_by (command_of c.args.words.now) met c.in-Err.stop c.tell-status.result Wrote c.tell-status.ensures.status
    (λ f is. c.come_to-text.ensures.caused f (c.in-Err.is ∙ ap Err is)) (λ f is. c.tell-status.ensures.front f is) listed

pub returns-in-Err-clause-high : goal.returns-in-Err-clause-high
returns-in-Err-clause-high g c = λ command given words is above.
    let call : Call = record {
      input = g.I.Source.left c.args.input.now;
      store = g.S.Store.disk c.args.store;
      left = g.S.Store.disk c.come_to-text.result.store;
      text = c.come_to-text.result.text;
    } in
    of_stop (λ (n : ℕ). IsOneOf n (4 ∷ 5 ∷ 7 ∷ 10 ∷ [])) c.tell-status.result c.in-Err.stop c.tell-status.ensures.status
    (at_err_and c.come_to-text.result.text c.in-Err.stop (λ s. IsOneOf (stop_status s) (4 ∷ 5 ∷ 7 ∷ 10 ∷ [])) c.in-Err.is
    (does_high command call (c.come_to-text.ensures.does command words) given is above))

pub returns-in-Err-clause-missing : goal.returns-in-Err-clause-missing
returns-in-Err-clause-missing g c = λ commit files asked words has told lacks.
    of_stop (λ (n : ℕ). IsOneOf n (4 ∷ 5 ∷ 7 ∷ 9 ∷ [])) c.tell-status.result c.in-Err.stop c.tell-status.ensures.status
    (at_err_and c.come_to-text.result.text c.in-Err.stop (λ s. IsOneOf (stop_status s) (4 ∷ 5 ∷ 7 ∷ 9 ∷ [])) c.in-Err.is
    ((c.come_to-text.ensures.does _ words).missing files asked has told lacks))

pub returns-in-Err-clause-differing : goal.returns-in-Err-clause-differing
returns-in-Err-clause-differing g c = λ files d words told in'.
    of_stop (λ (n : ℕ). IsOneOf n (4 ∷ 7 ∷ 11 ∷ [])) c.tell-status.result c.in-Err.stop c.tell-status.ensures.status
    (at_err_and c.come_to-text.result.text c.in-Err.stop (λ s. IsOneOf (stop_status s) (4 ∷ 7 ∷ 11 ∷ [])) c.in-Err.is
    ((c.come_to-text.ensures.does _ words).differs files d told in'))

pub returns-in-Err-clause-complete : goal.returns-in-Err-clause-complete
returns-in-Err-clause-complete g c = λ command words can source sink failed.
    let call : Call = record {
      input = g.I.Source.left c.args.input.now;
      store = g.S.Store.disk c.args.store;
      left = g.S.Store.disk c.come_to-text.result.store;
      text = c.come_to-text.result.text;
    } in
    let met : Met = record {
      input = g.I.Source.left c.args.input.now;
      store = g.S.Store.disk c.args.store;
      left = g.S.Store.disk c.come_to-text.result.store;
      source_before = g.I.Source.fault_count c.args.input.now;
      source_after = g.I.Source.fault_count c.come_to-text.new.input;
      store_before = g.S.Store.fault_count c.args.store;
      store_after = g.S.Store.fault_count c.come_to-text.result.store;
    } in
    complete_by command met c.in-Err.stop c.tell-status.result c.tell-status.ensures.status
    (at_err c.come_to-text.result.text c.in-Err.stop (λ s. IsOneOf (stop_status s) (4 ∷ 5 ∷ 7 ∷ [])) c.in-Err.is
    (does_whole command call (c.come_to-text.ensures.does command words) can))
    (λ f is. caused_in (command_of c.args.words.now) command met f words (c.come_to-text.ensures.caused f (c.in-Err.is ∙ ap Err is)))
    source failed

pub returns-in-Err-clause-stops : goal.returns-in-Err-clause-stops
returns-in-Err-clause-stops g c = λ command given words is can.
    let call : Call = record {
      input = g.I.Source.left c.args.input.now;
      store = g.S.Store.disk c.args.store;
      left = g.S.Store.disk c.come_to-text.result.store;
      text = c.come_to-text.result.text;
    } in
    does_stop command call (c.come_to-text.ensures.does command words) given is can

pub returns-in-Err-clause-reads : goal.returns-in-Err-clause-reads
returns-in-Err-clause-reads g c = λ command words only. does_read command _ (c.come_to-text.ensures.does command words) only

pub returns-in-Err-clause-untouched : goal.returns-in-Err-clause-untouched
returns-in-Err-clause-untouched g c = λ listed.
    at_err c.come_to-text.result.text c.in-Err.stop
    (λ s. LeavesStoreBy (keep_by (command_of c.args.words.now)) (stop_status s) → g.S.Store.disk c.come_to-text.result.store ≡ g.S.Store.disk c.args.store) c.in-Err.is
    c.come_to-text.ensures.untouched (subst (LeavesStoreBy (keep_by (command_of c.args.words.now))) c.tell-status.ensures.status listed)
