use Rattle.std.proofs.Common.{ℕ, List, [], ◌∷◌, ◌++◌, sym, subst}
use Rattle.ix_base.specs.declared.document.Row.{Row}
use Rattle.flush_control_tests.specs.Told.{AreTold}
use Rattle.flush_control_tests.proofs.Telling.{row_told}
use Rattle.flush_control_tests.proofs.round.tell_row.Goals as goal

pub returns : goal.returns
returns c =
    let t = c.args.told.now in
    subst (λ (rows : List Row). AreTold t.base c.args.number rows t.updates) (sym (c.in_ok-push.ensures.items))
    (subst (λ (b : ℕ). AreTold t.base c.args.number (t.rows.items ++ (record { birth = b; doc = c.in_ok-doc.doc }) ∷ []) t.updates) (sym c.first-birth.ensures)
    (row_told c.taking_stands.ensures t.base t.last c.args.number t.rows.items c.in_ok-doc.doc t.updates c.requires.told c.requires.number))
