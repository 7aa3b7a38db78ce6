use Rattle.std.proofs.Common.{◌≡◌, ◌<◌, List, length, get_or, rules, arith, subst, sym, ap, ◌∙◌, ◌∷◌, reverse, take, All}
use Rattle.std.proofs.lemmas.List.Elements.{All-get_or}
use Rattle.ix_outside.specs.Files.{Lists}
use Rattle.ix_outside.specs.Disk.{files as files_of}
use Rattle.ix_memory.specs.Names.{NamesFile}
use Rattle.ix_outside.specs.declared.step.Step.{Step}
use Rattle.ix_memory.proofs.Looks.{newest}
use Rattle.ix_memory.proofs.history.History.names.Goals as goal

pub loop-step-preserved : goal.loop-step-preserved
loop-step-preserved c =
    let lt : c.loop-step.step-index < length c.deref-step-items.result.now = omega arith in
    let last = newest c.deref-step-items.result.now c.loop-step.step-index c.step-item.result lt in
    let here : get_or c.deref-step-items.result.now c.loop-step.step-index c.step-item.result ≡ c.step-item.result = search rules in
    let all : All NamesFile c.deref-step-items.result.now = rw c.deref-step-items.ensures.value c.self.invariant in
    let named : NamesFile c.step-item.result = subst NamesFile here (All-get_or NamesFile c.deref-step-items.result.now c.loop-step.step-index c.step-item.result lt all) in
    record {
      names = subst (λ (calls : List Step). Lists (files_of calls) c.go_on.new.names.items)
          (sym (last ∙ ap (λ x. x ∷ reverse (take c.loop-step.step-index c.deref-step-items.result.now)) here))
          (c.in_ok-go_on.ensures.change (reverse (take c.loop-step.step-index c.deref-step-items.result.now)) c.loop-step.invariant.names);
      real = c.in_ok-go_on.ensures.real named c.loop-step.invariant.real;
    }
