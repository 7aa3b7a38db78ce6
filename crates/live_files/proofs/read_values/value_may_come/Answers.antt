use Rattle.std.proofs.Common.{◌≡◌, Bool, true, false, ◌&&◌, ◌||◌, eqb, ltb, List, ℕ, Some, None, sym, ap, ◌∙◌}
use Rattle.std.proofs.lemmas.Bool.{lt-ltb, le-ltb, eq-eqb, ne_eqb}
use Rattle.ix_base.specs.Limits.{text_lt}
use Rattle.ix_base.proofs.ReadLoops.{left_by-last}
use Rattle.live_files.specs.LiveSpelling.{SetValue}
use Rattle.live_files.proofs.read_values.value_may_come.Goals as goal

-- what the first of two tests that is true, or the second one, tells of both
lower : (p q r : Bool) → p ≡ true → p ≡ (p || (q && r))
lower p q r e = e ∙ ap (λ (b : Bool). b || (q && r)) (sym e)

same : (p q r s : Bool) → p ≡ false → q ≡ true → s ≡ r → s ≡ (p || (q && r))
same p q r s e h is = is ∙ ap (λ (b : Bool). b && r) (sym h) ∙ ap (λ (b : Bool). b || (q && r)) (sym e)

other : (p q r : Bool) → p ≡ false → q ≡ false → q ≡ (p || (q && r))
other p q r e h = h ∙ ap (λ (b : Bool). b && r) (sym h) ∙ ap (λ (b : Bool). b || (q && r)) (sym e)

pub returns-then-last-row : goal.returns-then-last-row
returns-then-last-row c =
    let e = left_by-last (λ (x : SetValue). Some x) None c.args.values.now c.in-Some.last.now c.in-Some.ensures.item.3.0 c.in-Some.ensures.item.1 in
    rw e (lower (ltb c.in-Some.last.now.0 c.args.row) (eqb c.in-Some.last.now.0 c.args.row) (text_lt c.in-Some.last.now.1 c.args.name.now) (lt-ltb c.in-Some.last.now.0 c.args.row c.if-last-row.true))

pub returns-then-last-row-2 : goal.returns-then-last-row-2
returns-then-last-row-2 c =
    let e = left_by-last (λ (x : SetValue). Some x) None c.args.values.now c.in-Some.last.now c.in-Some.ensures.item.3.0 c.in-Some.ensures.item.1 in
    let below = c.lt.ensures ∙ ap (λ (t : List ℕ). text_lt t c.as_str-then-last-row-2.result.now) c.as_str.ensures.bytes ∙ ap (λ (t : List ℕ). text_lt c.in-Some.last.now.1 t) c.as_str-then-last-row-2.ensures.bytes in
    rw e (same (ltb c.in-Some.last.now.0 c.args.row) (eqb c.in-Some.last.now.0 c.args.row) (text_lt c.in-Some.last.now.1 c.args.name.now) c.lt.result (le-ltb c.in-Some.last.now.0 c.args.row c.if-last-row.false) (eq-eqb c.in-Some.last.now.0 c.args.row c.if-last-row-2.true) below)

pub returns-else-last-row-2 : goal.returns-else-last-row-2
returns-else-last-row-2 c =
    let e = left_by-last (λ (x : SetValue). Some x) None c.args.values.now c.in-Some.last.now c.in-Some.ensures.item.3.0 c.in-Some.ensures.item.1 in
    rw e (other (ltb c.in-Some.last.now.0 c.args.row) (eqb c.in-Some.last.now.0 c.args.row) (text_lt c.in-Some.last.now.1 c.args.name.now) (le-ltb c.in-Some.last.now.0 c.args.row c.if-last-row.false) (ne_eqb c.in-Some.last.now.0 c.args.row c.if-last-row-2.false))
