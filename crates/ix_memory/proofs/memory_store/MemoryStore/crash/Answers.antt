use Rattle.std.proofs.Common.{◌≡◌, subst, sym, rules, ap, ◌∙◌, ◌/◌, Some}
use Rattle.ix_outside.specs.Files.{Files}
use Rattle.ix_outside.specs.Disk.{files as files_of}
use Rattle.ix_outside.specs.Crash.{IsImage}
use Rattle.ix_memory.specs.History.{files_left, steps_of, bytes_of}
use Rattle.ix_memory.proofs.HistoryLaws.{outcome_is_image, whole_is_read}
use Rattle.ix_memory.specs.declared.outcome.StepsLeft.{StepsLeft}
use Rattle.ix_memory.specs.declared.outcome.StepsLeft.TheVariants.{Every}
use Rattle.ix_memory.specs.declared.outcome.BytesLeft.{BytesLeft}
use Rattle.ix_memory.specs.declared.outcome.BytesLeft.TheVariants.{Whole}
use Rattle.ix_memory.proofs.memory_store.MemoryStore.crash.Goals as goal

pub returns-clause-image : goal.returns-clause-image
returns-clause-image c =
    let is : files_of c.of_history.result.history ≡ files_left c.of_choice-steps.result c.of_choice-bytes.result c.args.self.now.history = search rules in
    subst (λ (f : Files). IsImage c.args.self.now.history f) (sym is)
    (outcome_is_image c.of_choice-steps.result c.of_choice-bytes.result c.args.self.now.history)

pub returns-clause-all_left : goal.returns-clause-all_left
returns-clause-all_left c none =
    let is : files_of c.of_history.result.history ≡ files_left c.of_choice-steps.result c.of_choice-bytes.result c.args.self.now.history = search rules in
    let steps : c.of_choice-steps.result ≡ Every = c.of_choice-steps.ensures ∙ ap steps_of none in
    let bytes : c.of_choice-bytes.result ≡ Whole = c.of_choice-bytes.ensures ∙ ap (λ n. bytes_of (n / 4)) none in
    ap (λ (f : Files). Some f)
    (is ∙ (ap (λ (s : StepsLeft). files_left s c.of_choice-bytes.result c.args.self.now.history) steps
    ∙ (ap (λ (b : BytesLeft). files_left Every b c.args.self.now.history) bytes ∙ whole_is_read c.args.self.now.history)))
