use Rattle.std.proofs.Common.{◌++◌, ◌∷◌, [], List, sym, ap, ◌∙◌}
use Rattle.std.proofs.lemmas.List.{append_assoc}
use Rattle.ix_base.specs.declared.postings.TermPostings.{TermPostings}
use Rattle.ram_postings.proofs.KeptLists.{low_step, placed_step}
use Rattle.ram_postings.proofs.placing.place_terms.Goals as goal

pub place_term-requires : goal.place_term-requires
place_term-requires c =
    let front : List TermPostings = c.loop-entry.yielded in
    low_step c.args.postings.terms front c.next.new.self.rest.items c.in-Some.entry c.args.lists.now.entries c.loop-entry.lists.entries c.args.mark
    (c.loop-entry.invariant.all ∙ ap (λ (l : List TermPostings). front ++ l) c.in-Some.ensures.steps.0)
    c.requires.rise c.requires.below c.loop-entry.invariant.others c.loop-entry.invariant.placed

pub loop-entry-preserved : goal.loop-entry-preserved
loop-entry-preserved c =
    let front : List TermPostings = c.loop-entry.yielded in
    let all = c.loop-entry.invariant.all ∙ ap (λ (l : List TermPostings). front ++ l) c.in-Some.ensures.steps.0 in
    record {
      all = all ∙ sym (append_assoc front (c.in-Some.entry ∷ []) c.next.new.self.rest.items);
      others = λ t r x ne. c.place_term.ensures.others t r x ne ∙ c.loop-entry.invariant.others t r x ne;
      placed = placed_step c.args.postings.terms front c.next.new.self.rest.items c.in-Some.entry c.loop-entry.lists.entries c.place_term.new.lists.entries c.args.mark
          all c.requires.rise c.loop-entry.invariant.placed c.place_term.ensures.other_terms c.in_ok-place_term.ensures.ok;
    }
