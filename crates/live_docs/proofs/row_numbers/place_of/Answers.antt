use Rattle.std.proofs.Common.{rules}
use Rattle.std.specs.Cmp.Lexicographic.{slice_cmp}
use Rattle.std.specs.Ordering.{nat_cmp}
use Rattle.std.proofs.lemmas.Fn.{always_returns_same}
use Rattle.ix_base.specs.Steps.{Named}
use Rattle.live_docs.proofs.Places.{sets_at, reads_at, named_at}
use Rattle.live_docs.proofs.row_numbers.place_of.Goals as goal

pub returns-clause-named : goal.returns-clause-named
returns-clause-named c =
    let by_name = c.binary_search_by.ensures.position (λ (n : Named). slice_cmp nat_cmp n.0 c.args.name.now) (always_returns_same _ _ _ (λ a r f k. search rules)) in
    named_at c.args.numbers.now c.args.name.now c.binary_search_by.result by_name

pub returns-clause-sets : goal.returns-clause-sets
returns-clause-sets c =
    let by_name = c.binary_search_by.ensures.position (λ (n : Named). slice_cmp nat_cmp n.0 c.args.name.now) (always_returns_same _ _ _ (λ a r f k. search rules)) in
    sets_at c.args.numbers.now c.args.name.now c.binary_search_by.result c.requires c.binary_search_by.ensures.bound by_name

pub returns-clause-reads : goal.returns-clause-reads
returns-clause-reads c =
    let by_name = c.binary_search_by.ensures.position (λ (n : Named). slice_cmp nat_cmp n.0 c.args.name.now) (always_returns_same _ _ _ (λ a r f k. search rules)) in
    reads_at c.args.numbers.now c.args.name.now c.binary_search_by.result c.requires c.binary_search_by.ensures.bound by_name
