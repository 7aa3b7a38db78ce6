use Rattle.std.proofs.Common.{◌≡◌, ◌++◌, length, map}
use Rattle.std.specs.Vec.Iter.{into_iter_items, into_iter_len}
use Rattle.searcher.specs.declared.shown.Found.{Found}
use Rattle.searcher.proofs.found.hits_by_birth.Given as goal

abbrev pub invariant-loop-one : goal.invariant-loop-one
invariant-loop-one l = record {
  are : l.hits.items ≡ map (λ (f : Found). f.hit) l.yielded;
  all : l.yielded ++ into_iter_items l.one-iterator ≡ into_iter_items l.initial.one-iterator;
  count : into_iter_len l.one-iterator ≡ length (into_iter_items l.one-iterator);
}
