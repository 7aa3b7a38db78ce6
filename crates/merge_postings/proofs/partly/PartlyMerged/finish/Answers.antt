use Rattle.std.proofs.Common.{◌≡◌, ◌∙◌, [], List, sym, subst}
use Rattle.ix_base.specs.Inversion.{IsPostings}
use Rattle.ix_base.specs.declared.postings.TermPostings.{TermPostings}
use Rattle.merge_postings.specs.Renumbering.{Moving}
use Rattle.merge_postings.specs.Steps.{AreResumed, Walked}
use Rattle.merge_postings.proofs.Resuming.{all_walked, walked_from}
use Rattle.merge_postings.proofs.partly.PartlyMerged.finish.Goals as goal

walked : (sources : List Moving) (was made : List TermPostings) → was ≡ made → Walked sources [] was → Walked sources [] made
walked sources was made is w = subst (Walked sources []) is w

pub returns-in-Ok-clause-ordered : goal.returns-in-Ok-clause-ordered
returns-in-Ok-clause-ordered c =
    let resumed = subst (λ (sources : List Moving). AreResumed c.args.self.now.upto sources c.in_ok-queue.queue.waiting) c.as_slice.ensures.value c.in_ok-queue.ensures in
    let taken : c.args.self.now.terms ≡ c.into_vec-terms.result.items = sym (c.into_vec-terms.ensures ∙ c.replace.ensures.value) in
    let w = c.in-Ok.ensures.ok c.args.sources.items (subst (Walked c.args.sources.items c.in_ok-queue.queue.waiting) taken (walked_from c.args.sources.items c.args.self.now c.in_ok-queue.queue.waiting c.requires.upto resumed)) in
    subst IsPostings (sym c.from_vec.ensures) w.ordered

pub returns-in-Ok-clause-exact : goal.returns-in-Ok-clause-exact
returns-in-Ok-clause-exact c =
    let resumed = subst (λ (sources : List Moving). AreResumed c.args.self.now.upto sources c.in_ok-queue.queue.waiting) c.as_slice.ensures.value c.in_ok-queue.ensures in
    let taken : c.args.self.now.terms ≡ c.into_vec-terms.result.items = sym (c.into_vec-terms.ensures ∙ c.replace.ensures.value) in
    let w = c.in-Ok.ensures.ok c.args.sources.items (subst (Walked c.args.sources.items c.in_ok-queue.queue.waiting) taken (walked_from c.args.sources.items c.args.self.now c.in_ok-queue.queue.waiting c.requires.upto resumed)) in
    all_walked c.args.sources.items (record { terms = c.from_vec.result }) (walked c.args.sources.items _ c.from_vec.result (sym c.from_vec.ensures) w)
