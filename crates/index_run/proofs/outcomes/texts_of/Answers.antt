use Rattle.std.proofs.Common.{◌≡◌, ◌∙◌, ℕ, List, [], ◌∷◌, ◌++◌, length, sym, ap, subst, arith}
use Rattle.std.specs.Global.{Vec}
use Rattle.std.specs.Vec.Iter.{into_iter_items, into_iter_len}
use Rattle.index_run.specs.Replied.{AreTextsOf, Texts}
use Rattle.line_shares.proofs.LineLaws.{zip_more}
use Rattle.index_run.proofs.outcomes.texts_of.Goals as goal

pub loop-own-preserved : goal.loop-own-preserved
loop-own-preserved c =
    let at = c.loop-own in
    let own = c.into_iter.result in
    let counts : into_iter_len own ≡ length (into_iter_items own) =
    let len = c.into_iter.ensures.len in
    let ok = c.in-Some.own.ok in
    let rest = ap length c.into_iter.ensures.rest in
    omega arith in
    subst (AreTextsOf (at.yielded ++ c.in-Some.own ∷ [])) (sym c.in_ok-push.ensures.items)
    (zip_more (λ (t : Vec (List ℕ)) (own : Texts). (into_iter_items own ≡ t.items)
    × (into_iter_len own ≡ length (into_iter_items own))) at.yielded at.found.items
    c.in-Some.own own at.invariant (c.into_iter.ensures.rest, counts))
