use Rattle.std.proofs.Common.{◌∙◌, ℕ, List, sym, ap, subst}
use Rattle.std.specs.BTreeMap.{BTreeMap}
use Rattle.std.specs.Option.{option_copied_mut}
use Rattle.ix_base.specs.Steps.{Named}
use Rattle.live_docs.specs.Flags.{NoneEmpty}
use Rattle.live_docs.proofs.SetRows.{set_kept, set_some, not_none, none_empty_after}
use Rattle.live_docs.proofs.set_numbers.set_in_row.Goals as goal

pub returns-in-Some-clause-some : goal.returns-in-Some-clause-some
returns-in-Some-clause-some c =
    let there = sym (ap option_copied_mut c.in-Some.is) ∙ c.get_mut.ensures.value in
    set_some c.set.result _ c.args.rows.now.entries (c.get_mut.follows.lender c.set.new.self).entries c.in-Some.own.now c.set.new.self c.args.name.now _
    there (c.get_mut.follows.holds c.set.new.self).0 c.set.ensures.ok c.set.ensures.err

pub returns-in-Some-clause-err : goal.returns-in-Some-clause-err
returns-in-Some-clause-err c =
    let there = sym (ap option_copied_mut c.in-Some.is) ∙ c.get_mut.ensures.value in
    set_kept c.set.result _ c.args.rows.now.entries (c.get_mut.follows.lender c.set.new.self).entries c.in-Some.own.now c.set.new.self
    there (c.get_mut.follows.holds c.set.new.self).0 c.set.ensures.err

pub returns-clause-some : goal.returns-clause-some
returns-clause-some c = λ all.
    none_empty_after c.insert_row.result _ c.insert_row.new.rows.entries c.args.row c.set-2.new.self
    (λ none. not_none c.args.name.now _ c.none-own.result (sym c.in_ok-set.ensures.ok ∙ none))
    (subst (λ (m : BTreeMap ℕ (List Named)). NoneEmpty m.entries) (sym c.get_mut.follows.holds-at-none) all)
    c.insert_row.ensures.entries c.insert_row.ensures.err
