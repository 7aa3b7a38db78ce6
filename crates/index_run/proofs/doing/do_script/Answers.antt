use Rattle.std.proofs.Common.{◌≡◌, ◌∙◌, ◌≤◌, ℕ, List, [], ◌∷◌, true, false, Err, Some, Result, Option, inl, inr, refl, sym, ap, subst}
use Rattle.std.specs.Prelude.{IfErr, IfOk, IfSome, IsSomeAnd, OnOk}
use Rattle.std.specs.Global.{Vec}
use Rattle.ix_outside.specs.Crash.{MayHold}
use Rattle.ix_outside.specs.Disk.{told_files}
use Rattle.ix_outside.specs.Files.{Files}
use Rattle.commit_point.specs.Holds.{AreKept}
use Rattle.commit_pruning.specs.Pruning.{IsBrokenCommit}
use Rattle.op_script.specs.declared.script.Line.{Line}
use Rattle.report_text.specs.declared.fault.Fault.TheVariants as fault
use Rattle.run_log.specs.Headline.{Given}
use Rattle.index_run.specs.Beginning.{CanBeginOn}
use Rattle.index_run.specs.Causes.{IsOneOf, LeavesStoreBy, stop_status}
use Rattle.index_run.specs.Commands.{form_text}
use Rattle.index_run.specs.Keeping.{AreSpelled, PreservesBy, RunsBy, RunsLeaving, StopsBy, has_commit}
use Rattle.index_run.specs.Promises.{CanKeep}
use Rattle.index_run.specs.declared.stop.Stop.{Stop}
use Rattle.index_run.specs.declared.stop.Stop.TheVariants as stop
use Rattle.index_run.proofs.Beside.{is_report, read_alone}
use Rattle.index_run.proofs.DiskAfter.{the_files}
use Rattle.index_run.proofs.Pruning.{all_leave, all_runs, are_whole, preserves_all, preserves_pruned, pruning_damaged, pruning_outside, stops_by}
use Rattle.index_run.proofs.RunPruned.{Prunes, Settles, runs_pruned, stops_pruned}
use Rattle.index_run.proofs.doing.do_script.Goals as goal

pub tell_script-told-requires-clause-beside : goal.tell_script-told-requires-clause-beside
tell_script-told-requires-clause-beside g c κs within = (
  subst (λ (o : Option ℕ). IfSome o (λ k. 1 ≤ k)) c.in-Some.is c.requires.keep,
  is_report c.args.form c.args.options.keep c.in-Some.keep c.requires.all c.in-Some.is,
)

-- ---- all commits are kept

pub returns-in_default-clause-done : goal.returns-in_default-clause-done
returns-in_default-clause-done g c = λ run same told can.
    all_runs c.args.options.keep run (form_text c.args.form run) c.tell_script.result.text _ _ (inl c.in_default.is)
    (c.tell_script.ensures.kept run told can).each (c.tell_script.ensures.done run same told can)

pub returns-in_default-clause-stops : goal.returns-in_default-clause-stops
returns-in_default-clause-stops g c = λ run same told can.
    stops_by c.args.options.keep run _ _ (c.tell_script.ensures.kept run told can).each
    (c.tell_script.ensures.stops run same told can)

pub returns-in_default-clause-kept : goal.returns-in_default-clause-kept
returns-in_default-clause-kept g c = λ run told can.
    preserves_all c.args.options.keep run c.args.lines _ _ (c.tell_script.ensures.kept run told can)
    (c.tell_script.ensures.stops (record run { lines = c.args.lines }) refl told can)

pub returns-in_default-clause-same : goal.returns-in_default-clause-same
returns-in_default-clause-same g c = all_leave c.args.options.keep c.tell_script.result.text _ _ c.tell_script.ensures.same

pub returns-in_default-clause-steps : goal.returns-in_default-clause-steps
returns-in_default-clause-steps g c = λ is. c.tell_script.ensures.steps refl

pub returns-in_default-clause-whole : goal.returns-in_default-clause-whole
returns-in_default-clause-whole g c = λ run told last can may_keep. c.tell_script.ensures.whole run told last can tt

pub returns-in_default-clause-damaged : goal.returns-in_default-clause-damaged
returns-in_default-clause-damaged g c = λ damaged is. inl (read_alone (c.tell_script.ensures.damaged damaged is))

-- ---- no line commits

pub returns-then-not-commits-clause-done : goal.returns-then-not-commits-clause-done
returns-then-not-commits-clause-done g c = λ run same told can.
    let none : has_commit run.lines ≡ false =
    ap has_commit (same ∙ sym c.as_slice.ensures) ∙ sym c.has_commit-commits.ensures ∙ c.if-not-commits.true in
    all_runs c.args.options.keep run (form_text c.args.form run) c.tell_script-then-not-commits.result.text _ _ (inr none)
    (c.tell_script-then-not-commits.ensures.kept run told can).each (c.tell_script-then-not-commits.ensures.done run same told can)

pub returns-then-not-commits-clause-stops : goal.returns-then-not-commits-clause-stops
returns-then-not-commits-clause-stops g c = λ run same told can.
    stops_by c.args.options.keep run _ _ (c.tell_script-then-not-commits.ensures.kept run told can).each
    (c.tell_script-then-not-commits.ensures.stops run same told can)

pub returns-then-not-commits-clause-kept : goal.returns-then-not-commits-clause-kept
returns-then-not-commits-clause-kept g c = λ run told can.
    preserves_all c.args.options.keep run c.args.lines _ _ (c.tell_script-then-not-commits.ensures.kept run told can)
    (c.tell_script-then-not-commits.ensures.stops (record run { lines = c.args.lines }) refl told can)

pub returns-then-not-commits-clause-same : goal.returns-then-not-commits-clause-same
returns-then-not-commits-clause-same g c =
    all_leave c.args.options.keep c.tell_script-then-not-commits.result.text _ _ c.tell_script-then-not-commits.ensures.same

pub returns-then-not-commits-clause-steps : goal.returns-then-not-commits-clause-steps
returns-then-not-commits-clause-steps g c = λ is. c.tell_script-then-not-commits.ensures.steps refl

pub returns-then-not-commits-clause-whole : goal.returns-then-not-commits-clause-whole
returns-then-not-commits-clause-whole g c = λ run told last can may_keep. c.tell_script-then-not-commits.ensures.whole run told last can tt

pub returns-then-not-commits-clause-damaged : goal.returns-then-not-commits-clause-damaged
returns-then-not-commits-clause-damaged g c = λ damaged is. inl (read_alone (c.tell_script-then-not-commits.ensures.damaged damaged is))

-- ---- no text was made

pub returns-in-Err-clause-stops : goal.returns-in-Err-clause-stops
returns-in-Err-clause-stops g c = λ run same told can.
    subst (λ (k : Option ℕ). StopsBy k run (g.S.Store.disk c.args.store) (g.S.Store.disk c.tell_script-told.result.store)) (sym c.in-Some.is)
    (c.tell_script-told.ensures.stops run same told can)

pub returns-in-Err-clause-kept : goal.returns-in-Err-clause-kept
returns-in-Err-clause-kept g c = λ run told can.
    subst (λ (k : Option ℕ). PreservesBy k run (g.S.Store.disk c.args.store) (g.S.Store.disk c.tell_script-told.result.store)) (sym c.in-Some.is)
    (preserves_pruned c.in-Some.keep run c.args.lines _ _
    (c.tell_script-told.ensures.stops (record run { lines = c.args.lines }) refl told can))

pub returns-in-Err-clause-same : goal.returns-in-Err-clause-same
returns-in-Err-clause-same g c = λ leaves.
    let same =
    subst (λ (r : Result (Vec ℕ) Stop). IfErr r (λ s. LeavesStoreBy (Some c.in-Some.keep) (stop_status s)
    → g.S.Store.disk c.tell_script-told.result.store ≡ g.S.Store.disk c.args.store)) c.in-Err.is c.tell_script-told.ensures.same in
    same (subst (λ (k : Option ℕ). LeavesStoreBy k (stop_status c.in-Err.stop)) c.in-Some.is leaves)

pub returns-in-Err-clause-whole : goal.returns-in-Err-clause-whole
returns-in-Err-clause-whole g c = λ run told last can may_keep.
    subst (λ (r : Result (Vec ℕ) Stop). IfErr r (λ s. IsOneOf (stop_status s) (4 ∷ 7 ∷ []))) c.in-Err.is
    (c.tell_script-told.ensures.whole run told last can
    (subst (λ (k : Option ℕ). CanKeep k run.files) c.in-Some.is may_keep))

pub returns-in-Err-clause-damaged : goal.returns-in-Err-clause-damaged
returns-in-Err-clause-damaged g c = λ damaged is.
    let said : c.tell_script-told.result.text ≡ Err (stop.Fault (fault.Damaged damaged)) = c.in-Err.is ∙ is in
    elim (c.tell_script-told.ensures.damaged damaged said) [
      | inl read ↦ inl read
      | inr found ↦ inr (found.0, c.in-Some.is ∙ found.1, found.2)
    ]

-- ---- commits were given up

pub returns-in-Ok-prune-clause-done : goal.returns-in-Ok-prune-clause-done
returns-in-Ok-prune-clause-done g c = λ run same told can.
    let keep = c.in-Some.keep in
    let start = g.S.Store.disk c.args.store in
    let mid = g.S.Store.disk c.tell_script-told.result.store in
    let new = g.S.Store.disk c.prune.new.store in
    let prunes : Prunes keep mid new = record {
      some = subst (λ (o : Option ℕ). IfSome o (λ k. 1 ≤ k)) c.in-Some.is c.requires.keep;
      left = c.prune.ensures.left;
      only = c.prune.ensures.only;
      crash = c.prune.ensures.crash;
      each = record { each = c.prune.ensures.each; none = c.prune.ensures.none };
    } in
    let settles : Settles run start mid = λ are f told_mid.
    subst (λ (r : Result (Vec ℕ) Stop). OnOk r (AreKept f (MayHold mid))) c.in-Ok.is
    (c.tell_script-told.ensures.settled run f told can are told_mid) in
    let text = form_text c.args.form run in
    let commits : has_commit run.lines ≡ true =
    ap has_commit (same ∙ sym c.as_slice.ensures) ∙ sym c.has_commit-commits.ensures ∙ c.if-not-commits.false in
    subst (λ (k : Option ℕ). RunsBy k run text (λ said. c.in-Ok.text.items ≡ said) start new) (sym c.in-Some.is)
    (runs_pruned keep run text (λ said. c.in-Ok.text.items ≡ said) start mid new c.in-Ok-prune.field-0 commits can prunes settles
    c.in-Ok-prune.ensures.pruned c.in-Ok-prune.ensures.kept
    (subst (λ (r : Result (Vec ℕ) Stop). IfOk r (λ made. RunsLeaving keep run text (λ said. made.items ≡ said) start mid)) c.in-Ok.is
    (c.tell_script-told.ensures.done run same told can)))

pub returns-in-Ok-prune-clause-stops : goal.returns-in-Ok-prune-clause-stops
returns-in-Ok-prune-clause-stops g c = λ run same told can.
    let keep = c.in-Some.keep in
    let start = g.S.Store.disk c.args.store in
    let mid = g.S.Store.disk c.tell_script-told.result.store in
    let new = g.S.Store.disk c.prune.new.store in
    let prunes : Prunes keep mid new = record {
      some = subst (λ (o : Option ℕ). IfSome o (λ k. 1 ≤ k)) c.in-Some.is c.requires.keep;
      left = c.prune.ensures.left;
      only = c.prune.ensures.only;
      crash = c.prune.ensures.crash;
      each = record { each = c.prune.ensures.each; none = c.prune.ensures.none };
    } in
    let settles : Settles run start mid = λ are f told_mid.
    subst (λ (r : Result (Vec ℕ) Stop). OnOk r (AreKept f (MayHold mid))) c.in-Ok.is
    (c.tell_script-told.ensures.settled run f told can are told_mid) in
    subst (λ (k : Option ℕ). StopsBy k run start new) (sym c.in-Some.is)
    (stops_pruned keep run (form_text c.args.form run) (λ said. c.in-Ok.text.items ≡ said) start mid new can prunes settles
    (subst (λ (r : Result (Vec ℕ) Stop). IfOk r (λ made. RunsLeaving keep run (form_text c.args.form run) (λ said. made.items ≡ said) start mid))
    c.in-Ok.is (c.tell_script-told.ensures.done run same told can)))

pub returns-in-Ok-prune-clause-kept : goal.returns-in-Ok-prune-clause-kept
returns-in-Ok-prune-clause-kept g c = λ run told can.
    let keep = c.in-Some.keep in
    let start = g.S.Store.disk c.args.store in
    let mid = g.S.Store.disk c.tell_script-told.result.store in
    let new = g.S.Store.disk c.prune.new.store in
    let prunes : Prunes keep mid new = record {
      some = subst (λ (o : Option ℕ). IfSome o (λ k. 1 ≤ k)) c.in-Some.is c.requires.keep;
      left = c.prune.ensures.left;
      only = c.prune.ensures.only;
      crash = c.prune.ensures.crash;
      each = record { each = c.prune.ensures.each; none = c.prune.ensures.none };
    } in
    let own : Given = record run { lines = c.args.lines } in
    let settles : Settles own start mid = λ are f told_mid.
    subst (λ (r : Result (Vec ℕ) Stop). OnOk r (AreKept f (MayHold mid))) c.in-Ok.is
    (c.tell_script-told.ensures.settled own f told can are told_mid) in
    subst (λ (k : Option ℕ). PreservesBy k run start new) (sym c.in-Some.is)
    (preserves_pruned keep run c.args.lines start new
    (stops_pruned keep own (form_text c.args.form own) (λ said. c.in-Ok.text.items ≡ said) start mid new can prunes settles
    (subst (λ (r : Result (Vec ℕ) Stop). IfOk r (λ made. RunsLeaving keep own (form_text c.args.form own) (λ said. made.items ≡ said) start mid))
    c.in-Ok.is (c.tell_script-told.ensures.done own refl told can))))

pub returns-in-Ok-prune-clause-unbegun : goal.returns-in-Ok-prune-clause-unbegun
returns-in-Ok-prune-clause-unbegun g c = λ files told not.
    absurd (not (subst (λ (r : Result (Vec ℕ) Stop). OnOk r (CanBeginOn files)) c.in-Ok.is
    (c.tell_script-told.ensures.begun files told)))

pub returns-in-Err-prune-clause-stops : goal.returns-in-Err-prune-clause-stops
returns-in-Err-prune-clause-stops g c = λ run same told can.
    let keep = c.in-Some.keep in
    let start = g.S.Store.disk c.args.store in
    let mid = g.S.Store.disk c.tell_script-told.result.store in
    let new = g.S.Store.disk c.prune.new.store in
    let prunes : Prunes keep mid new = record {
      some = subst (λ (o : Option ℕ). IfSome o (λ k. 1 ≤ k)) c.in-Some.is c.requires.keep;
      left = c.prune.ensures.left;
      only = c.prune.ensures.only;
      crash = c.prune.ensures.crash;
      each = record { each = c.prune.ensures.each; none = c.prune.ensures.none };
    } in
    let settles : Settles run start mid = λ are f told_mid.
    subst (λ (r : Result (Vec ℕ) Stop). OnOk r (AreKept f (MayHold mid))) c.in-Ok.is
    (c.tell_script-told.ensures.settled run f told can are told_mid) in
    subst (λ (k : Option ℕ). StopsBy k run start new) (sym c.in-Some.is)
    (stops_pruned keep run (form_text c.args.form run) (λ said. c.in-Ok.text.items ≡ said) start mid new can prunes settles
    (subst (λ (r : Result (Vec ℕ) Stop). IfOk r (λ made. RunsLeaving keep run (form_text c.args.form run) (λ said. made.items ≡ said) start mid))
    c.in-Ok.is (c.tell_script-told.ensures.done run same told can)))

pub returns-in-Err-prune-clause-kept : goal.returns-in-Err-prune-clause-kept
returns-in-Err-prune-clause-kept g c = λ run told can.
    let keep = c.in-Some.keep in
    let start = g.S.Store.disk c.args.store in
    let mid = g.S.Store.disk c.tell_script-told.result.store in
    let new = g.S.Store.disk c.prune.new.store in
    let prunes : Prunes keep mid new = record {
      some = subst (λ (o : Option ℕ). IfSome o (λ k. 1 ≤ k)) c.in-Some.is c.requires.keep;
      left = c.prune.ensures.left;
      only = c.prune.ensures.only;
      crash = c.prune.ensures.crash;
      each = record { each = c.prune.ensures.each; none = c.prune.ensures.none };
    } in
    let own : Given = record run { lines = c.args.lines } in
    let settles : Settles own start mid = λ are f told_mid.
    subst (λ (r : Result (Vec ℕ) Stop). OnOk r (AreKept f (MayHold mid))) c.in-Ok.is
    (c.tell_script-told.ensures.settled own f told can are told_mid) in
    subst (λ (k : Option ℕ). PreservesBy k run start new) (sym c.in-Some.is)
    (preserves_pruned keep run c.args.lines start new
    (stops_pruned keep own (form_text c.args.form own) (λ said. c.in-Ok.text.items ≡ said) start mid new can prunes settles
    (subst (λ (r : Result (Vec ℕ) Stop). IfOk r (λ made. RunsLeaving keep own (form_text c.args.form own) (λ said. made.items ≡ said) start mid))
    c.in-Ok.is (c.tell_script-told.ensures.done own refl told can))))

pub returns-in-Err-prune-clause-unbegun : goal.returns-in-Err-prune-clause-unbegun
returns-in-Err-prune-clause-unbegun g c = λ files told not.
    absurd (not (subst (λ (r : Result (Vec ℕ) Stop). OnOk r (CanBeginOn files)) c.in-Ok.is
    (c.tell_script-told.ensures.begun files told)))

pub returns-in-Err-prune-clause-whole : goal.returns-in-Err-prune-clause-whole
returns-in-Err-prune-clause-whole g c = λ run told last can may_keep.
    let mid = g.S.Store.disk c.tell_script-told.result.store in
    let now = the_files (told_files mid) (AreSpelled run.files)
    (subst (λ (r : Result (Vec ℕ) Stop). OnOk r (IsSomeAnd (told_files mid) (AreSpelled run.files))) c.in-Ok.is
    (c.tell_script-told.ensures.spelled run told last can)) in
    let whole = are_whole c.in-Some.keep run now.0 (subst (λ (k : Option ℕ). CanKeep k run.files) c.in-Some.is may_keep) now.2 in
    pruning_outside c.in-Err-prune.fault c.from.result c.from.ensures (c.in-Err-prune.ensures.whole now.0 now.1 whole)

pub returns-in-Err-prune-clause-damaged : goal.returns-in-Err-prune-clause-damaged
returns-in-Err-prune-clause-damaged g c = λ damaged is.
    let said : c.from.result ≡ stop.Fault (fault.Damaged damaged) = cc in
    let why = ap Err (pruning_damaged c.in-Err-prune.fault c.from.result damaged c.from.ensures said) in
    let still = ap told_files (c.in-Err-prune.ensures.untouched damaged why) in
    inr (
      c.in-Some.keep,
      c.in-Some.is,
      record {
        broken = subst (λ (o : Option Files). (s : ℕ) × IsBrokenCommit o s damaged) (sym still)
            (c.in-Err-prune.ensures.damaged damaged why);
        staying = λ files here. c.in-Err-prune.ensures.staying files damaged (sym still ∙ here) why;
      },
    )
