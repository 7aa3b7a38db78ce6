use Rattle.std.proofs.Common.{◌≡◌, ◌<◌, ◌≤◌, length, get_or, reverse, rules, arith, ◌∙◌, ap}
use Rattle.ix_memory.proofs.SettledFiles.{fills_on, filled_all}
use Rattle.ix_outside.specs.Disk.{files as files_of}
use Rattle.ix_memory.proofs.history.History.crash.Goals as goal

pub loop-step-preserved : goal.loop-step-preserved
loop-step-preserved c =
    let lt : c.loop-step.step-index < length c.deref-step-items.result.now = omega arith in
    let here : get_or c.deref-step-items.result.now c.loop-step.step-index c.step-item.result ≡ c.step-item.result = search rules in
    let whole : reverse c.deref-step-items.result.now ≡ c.args.self.now = ap reverse c.deref-step-items.ensures.value ∙ c.self.view_is in
    record {
      files = fills_on c.deref-step-items.result.now c.args.self.now c.loop-step.step-index c.step-item.result c.args.steps c.args.bytes
          (files_of c.loop-step.left) (files_of c.leave.new.left) lt here whole c.loop-step.invariant.files c.in_ok-leave.ensures.files;
      synced = c.in_ok-leave.ensures.synced c.loop-step.invariant.synced;
    }

pub returns-clause-files : goal.returns-clause-files
returns-clause-files c =
    let all : length c.deref-step-items.result.now ≤ c.loop-step.step-index = omega arith in
    let whole : reverse c.deref-step-items.result.now ≡ c.args.self.now = ap reverse c.deref-step-items.ensures.value ∙ c.self.view_is in
    c.in_ok-settle.ensures.files
    ∙ filled_all c.deref-step-items.result.now c.args.self.now c.loop-step.step-index c.args.steps c.args.bytes (files_of c.loop-step.left) all whole c.loop-step.invariant.files
