use Rattle.std.proofs.Common.{◌∙◌, ◌≤◌, sym, subst, arith, length, List, Option, drop}
use Rattle.std.proofs.lemmas.List.{drop_all}
use Rattle.commit_point.specs.declared.written.Written.{Written}
use Rattle.index_writer.proofs.LettingGo.{all_stay, fewer, one_goes, one_stays}
use Rattle.index_writer.proofs.merging.let_go.Goals as goal
use Rattle.index_writer.proofs.merging.let_go.Goals.{then-is_there, else-is_there+in-Some-1, else-is_there+in-None-1}

pub loop-id-preserved : goal.loop-id-preserved
loop-id-preserved c =
    let gs = c.args.segments.now in
    let ids = c.args.ids.now in
    let olds = c.args.written.now.items in
    let i = c.loop-id.id-index in
    let at = c.loop-id.at in
    let now = c.loop-id.written.items in
    let then_at = c.if-is_there.at in
    let new = c.if-is_there.written.items in
    let left = c.loop-id.invariant.left in
    let lt = c.loop-id-test.true in
    record {
      left =
          elim c.if-is_there.branch [
            | then-is_there w ↦ one_stays gs ids olds i at then_at now new left lt c.requires (sym c.is_there.ensures ∙ w.if-is_there.true) w.at-is (cc w.written-is)
            | else-is_there+in-Some-1 w ↦ one_goes gs ids olds i at then_at now new left lt c.requires (sym c.is_there.ensures ∙ w.if-is_there.false) w.at-is (cc (w.written-is, w.remove.ensures.items))
            | else-is_there+in-None-1 w ↦ one_goes gs ids olds i at then_at now new left lt c.requires (sym c.is_there.ensures ∙ w.if-is_there.false) w.at-is (cc (w.written-is, w.remove.ensures.items))
          ];
      room =
          elim c.if-is_there.branch [
            | then-is_there w ↦ cc (w.written-is, c.loop-id.invariant.room)
            | else-is_there+in-Some-1 w ↦ cc (w.written-is, w.remove.ensures.capacity, c.loop-id.invariant.room)
            | else-is_there+in-None-1 w ↦ cc (w.written-is, w.remove.ensures.capacity, c.loop-id.invariant.room)
          ];
    }

pub returns-clause-items : goal.returns-clause-items
returns-clause-items c =
    all_stay c.args.segments.now c.args.ids.now (drop c.loop-id.id-index c.args.ids.now) c.args.written.now.items (drop c.loop-id.id-index c.args.written.now.items) c.loop-id.at c.loop-id.written.items
    c.loop-id.invariant.left (drop_all c.loop-id.id-index c.args.written.now.items (omega arith))

pub returns-clause-few : goal.returns-clause-few
returns-clause-few c =
    let is = all_stay c.args.segments.now c.args.ids.now (drop c.loop-id.id-index c.args.ids.now) c.args.written.now.items (drop c.loop-id.id-index c.args.written.now.items) c.loop-id.at c.loop-id.written.items
    c.loop-id.invariant.left (drop_all c.loop-id.id-index c.args.written.now.items (omega arith)) in
    subst (λ (ws : List (Option Written)). length ws ≤ length c.args.written.now.items) (sym is) (fewer c.args.segments.now c.args.ids.now c.args.written.now.items)
