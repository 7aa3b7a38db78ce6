use Rattle.std.proofs.Common.{◌≡◌, ◌++◌, ℕ}
use Rattle.ix_base.specs.declared.document.Term.{Term}
use Rattle.ix_base.specs.Inversion.{posted}
use Rattle.ram_postings.specs.Kept.{kept}
use Rattle.ram_postings.proofs.placing.place_terms.Given as goal

abbrev pub invariant-loop-entry : goal.invariant-loop-entry
invariant-loop-entry l = record {
  all : l.fn.postings.terms ≡ l.yielded ++ l.entry-iterator.rest.items;
  others : (t : Term) (r x : ℕ) → (r ≡ l.mark → ⊥) → kept l.lists.entries t r x ≡ kept l.fn.lists.entries t r x;
  placed : (t : Term) (x : ℕ) → kept l.lists.entries t l.mark x ≡ posted l.yielded t.field t.bytes 0 x;
}
