use Rattle.std.proofs.Common.{◌≡◌, ◌∙◌, ◌+◌, ℕ, Some, None, get_or, sym, ap, subst}
use Rattle.std.specs.BTreeMap.{BTreeMap, get}
use Rattle.std.specs.Option.{option_copied}
use Rattle.std.specs.Ordering.{nat_cmp}
use Rattle.std.proofs.lemmas.List.{get_or_default}
use Rattle.commit_point.specs.declared.heads.HeadSegment.{HeadSegment}
use Rattle.index_check.proofs.Owners.{AreFrom, AreThere, all_there, kept_more, not_some, there_more, there_none}
use Rattle.index_check.proofs.known.kept_counts.Goals as goal
use Rattle.index_check.proofs.known.kept_counts.Goals.{in-Some+in_ok-insert, in_default}

pub loop-entry-preserved : goal.loop-entry-preserved
loop-entry-preserved c =
    let inv = c.loop-entry.invariant in
    let counts = c.args.counts.now in
    let es = c.args.entries.now in
    let i = c.loop-entry.entry-index in
    let e : HeadSegment = get_or es i (record { id = 0; rows = 0; written = 0 }) in
    let is : e ≡ get_or es i e = get_or_default es i (record { id = 0; rows = 0; written = 0 }) e c.loop-entry-test.true in
    elim c.match-get.branch [
      | in-Some+in_ok-insert w ↦
          let there : get nat_cmp counts e.id ≡ Some w.in-Some.rows.now = sym c.get.ensures.value ∙ ap option_copied w.in-Some.is in
          record {
            known = subst (AreFrom counts) (sym w.kept-is) (kept_more e.id w.in-Some.rows.now counts c.loop-entry.kept w.insert.new.self there w.in_ok-insert.ensures.updates.0 inv.known);
            entries = subst (λ (m : BTreeMap ℕ ℕ). AreThere counts m es (i + 1)) (sym w.kept-is)
                (there_more es i w.in-Some.rows.now e counts c.loop-entry.kept w.insert.new.self c.loop-entry-test.true is there w.in_ok-insert.ensures.updates.0 inv.entries);
          }
      | in_default w ↦
          let none : get nat_cmp counts e.id ≡ None = sym c.get.ensures.value ∙ ap option_copied (not_some c.get.result w.in_default.not-Some) in
          record {
            known = subst (AreFrom counts) (sym w.kept-is) inv.known;
            entries = subst (λ (m : BTreeMap ℕ ℕ). AreThere counts m es (i + 1)) (sym w.kept-is)
                (there_none es i e counts c.loop-entry.kept c.loop-entry-test.true is none inv.known inv.entries);
          }
    ]

pub returns-clause-entries : goal.returns-clause-entries
returns-clause-entries c = all_there c.args.entries.now c.loop-entry.entry-index c.args.counts.now c.loop-entry.kept c.loop-entry-test.false c.loop-entry.invariant.entries
