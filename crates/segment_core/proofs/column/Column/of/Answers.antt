use Rattle.std.proofs.Common.{◌≡◌, ◌∙◌, ◌++◌, ℤ, List, [], ◌∷◌, Option, Some, None, IsPermutation, take, rules, refl, sym, ap, subst, arith}
use Rattle.std.proofs.lemmas.Fn.{always_returns_same}
use Rattle.std.proofs.lemmas.List.{take_all, append-nil}
use Rattle.ix_base.specs.Matches.{value_of}
use Rattle.ix_base.specs.declared.document.Row.{Row}
use Rattle.segment_core.specs.Columns.{numbers_of, entries_from}
use Rattle.segment_core.specs.declared.column.Entry.{Entry}
use Rattle.segment_core.proofs.Halving.{Rise, entry_of, next_entry}
use Rattle.segment_core.proofs.column.Column.of.Goals.{in-Some+in_ok-push, in_default}
use Rattle.segment_core.proofs.column.Column.of.Goals as goal

none_from : (o : Option ℤ) → ((v : ℤ) → o ≡ Some v → ⊥) → o ≡ None
none_from None h = refl
none_from (Some v) h = absurd (h v refl)

pub loop-row-preserved : goal.loop-row-preserved
loop-row-preserved c =
    let rows = c.args.rows.now in
    let row = c.loop-row.row in
    let name = c.args.name.now in
    let value : c.value_in.result ≡ value_of name c.index-rows-row.result.doc.num = c.value_in.ensures ∙ ap (value_of name) c.as_slice.ensures.pairs ∙ ap (λ (r : Row). value_of name r.doc.num) c.stored.view_is in
    let next = next_entry name rows row c.index-rows-row.result (omega (arith, c.min-row-end.ensures, c.loop-row-test.true)) (sym c.index-rows-row.is) in
    elim c.match-value_in.branch [
      | in-Some+in_ok-push w ↦
          let pushed : w.push.new.self.items ≡ c.loop-row.entries.items ++ record { number = w.in-Some.number; row = row } ∷ [] = search rules in
          ap (λ v. v.items) w.entries-is ∙ pushed
          ∙ (λ n. c.loop-row.invariant n ++ entry_of row ((sym w.in-Some.is ∙ value) n))
          ∙ sym next
      | in_default w ↦ ap (λ v. v.items) w.entries-is ∙ c.loop-row.invariant
          ∙ sym (append-nil _)
          ∙ ap (λ (o : Option ℤ). entries_from 0 (numbers_of name (take row rows)) ++ entry_of row o) (sym (none_from c.value_in.result w.in_default.not-Some) ∙ value)
          ∙ sym next
    ]

pub returns-clause-numbers : goal.returns-clause-numbers
returns-clause-numbers c = record {
  whole = λ few.
      let all : take c.loop-row.row c.args.rows.now ≡ c.args.rows.now = take_all c.loop-row.row c.args.rows.now (omega (arith, c.min-row-end.ensures, c.loop-row-test.false)) in
      let same : c.loop-row.entries.items ≡ entries_from 0 (numbers_of c.in_ok-clone_in.field-0 c.args.rows.now) = c.loop-row.invariant ∙ (λ n. entries_from 0 (numbers_of (sym c.in_ok-clone_in.ensures n) (all n))) in
      subst (λ (l : List Entry). IsPermutation l c.from_vec.result) same (subst (IsPermutation c.loop-row.entries.items) (sym c.from_vec.ensures) c.sort_unstable_by_key.ensures.permutation);
  rise = subst Rise (sym c.from_vec.ensures) (c.sort_unstable_by_key.ensures.sorted (λ (e : Entry). e.number) (always_returns_same _ (λ a r. r ≡ a.0.now.number) _ (λ a r f k. search rules)));
}
