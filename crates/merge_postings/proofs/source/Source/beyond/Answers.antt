use Rattle.std.proofs.Common.{subst}
use Rattle.std.proofs.lemmas.List.{take_rest}
use Rattle.merge_postings.specs.Renumbering.{Moving}
use Rattle.merge_postings.specs.Steps.{IsResumed}
use Rattle.merge_postings.proofs.Resuming.{resumed}
use Rattle.merge_postings.proofs.source.Source.beyond.Goals as goal

pub returns : goal.returns
returns c =
    subst (λ (s : Moving). IsResumed c.args.upto.now s c.new.result) c.self.view_is
    (resumed c.args.upto.now (record { terms = c.self.inside.terms.now; numbers = c.self.inside.numbers.now }) c.start_of-start.result _ c.new.result
    c.start_of-start.ensures.reached c.start_of-start.ensures.beyond (take_rest c.self.inside.terms.now c.start_of-start.result) c.new.ensures)
