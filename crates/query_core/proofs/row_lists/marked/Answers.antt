use Rattle.std.proofs.Common.{◌≡◌, ◌+◌, ◌<◌, ℕ, List, [], ◌∷◌, ◌++◌, All, Vec, sym, ap, ◌∙◌, subst, arith}
use Rattle.std.proofs.lemmas.List.Elements.{All-weaker, All-push}
use Rattle.ix_base.specs.Inversion.{has_number}
use Rattle.query_core.specs.Answers.{IsRising}
use Rattle.query_core.proofs.Unions.{rise_push, same_kept, same_left}
use Rattle.query_core.proofs.row_lists.marked.Goals as goal
use Rattle.query_core.proofs.row_lists.marked.Goals.{then-marks-at+in_ok-push, else-marks-at}

pub loop-at-preserved : goal.loop-at-preserved
loop-at-preserved c =
    let n = c.loop-at.at in
    let old = c.loop-at.kept.items in
    let inv = c.loop-at.invariant in
    let marks = c.args.marks.now in
    elim c.if-marks-at.branch [
      | then-marks-at+in_ok-push w ↦
          let is : c.if-marks-at.kept.items ≡ old ++ n ∷ [] = ap (λ (v : Vec ℕ _). v.items) w.kept-is ∙ w.in_ok-push.ensures.items in
          record {
            rise = subst IsRising (sym is) (rise_push old n inv.rise inv.below);
            below = subst (All (λ x. x < n + 1)) (sym is) (All-push (λ x. x < n + 1) old n (All-weaker (λ x. x < n) (λ x. x < n + 1) (λ x l. omega arith) old inv.below) (omega arith));
            same = λ x lt. ap (λ (l : List ℕ). has_number l x) is ∙ same_kept old marks n inv.below inv.same w.if-marks-at.true x lt;
          }
      | else-marks-at w ↦
          let is : c.if-marks-at.kept.items ≡ old = ap (λ (v : Vec ℕ _). v.items) w.kept-is in
          record {
            rise = subst IsRising (sym is) inv.rise;
            below = subst (All (λ x. x < n + 1)) (sym is) (All-weaker (λ x. x < n) (λ x. x < n + 1) (λ x l. omega arith) old inv.below);
            same = λ x lt. ap (λ (l : List ℕ). has_number l x) is ∙ same_left old marks n inv.below inv.same w.if-marks-at.false x lt;
          }
    ]
