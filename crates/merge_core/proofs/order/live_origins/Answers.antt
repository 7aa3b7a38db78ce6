use Rattle.std.proofs.Common.{◌∙◌, ◌+◌, ℕ, List, true, false, length, replicate, sym, ap, subst}
use Rattle.std.specs.List.{filter_map, slice_get}
use Rattle.segment_core.specs.LiveRows.{Lived}
use Rattle.merge_core.specs.Carrying.{ReadOne}
use Rattle.merge_core.specs.Choosing.{AreFirstBirths}
use Rattle.merge_core.proofs.NextBirths.{births_begun}
use Rattle.merge_core.proofs.Starting.{started}
use Rattle.merge_core.proofs.Taking.{all_found, fewer_left}
use Rattle.merge_core.proofs.order.live_origins.Goals as goal

pub rows-init : goal.rows-init
rows-init c =
    let ss : List Lived = filter_map (slice_get c.args.segments.now) c.args.places.now in
    record {
      seen = (0, started c.in_ok-order.order ss (c.in_ok-order.ensures.next ∙ ap (λ (n : ℕ). replicate n 0) c.in_ok-births.ensures.count) c.in_ok-order.ensures.origins c.requires.can);
      births = births_begun ss c.in_ok-order.order.births.items c.in_ok-order.order.next.items (length c.in_ok-births.births.items)
          (subst (AreFirstBirths ss) (sym c.in_ok-order.ensures.births) c.in_ok-births.ensures) c.in_ok-order.ensures.next;
    }

pub returns-then-not-branch : goal.returns-then-not-branch
returns-then-not-branch c =
    let ss : List Lived = filter_map (slice_get c.args.segments.now) c.args.places.now in
    let n : ℕ = c.rows.invariant.seen.0 in
    let over : ReadOne c.take_next.new.self ss n false = subst (ReadOne c.take_next.new.self ss n) c.if-not-branch.true (c.in_ok-take_next.ensures.one n c.rows.invariant.seen.1) in
    all_found c.take_next.new.self ss n over.0 over.1

pub rows-smaller : goal.rows-smaller
rows-smaller c =
    let ss : List Lived = filter_map (slice_get c.args.segments.now) c.args.places.now in
    let n : ℕ = c.rows.invariant.seen.0 in
    let more : ReadOne c.take_next.new.self ss n true = subst (ReadOne c.take_next.new.self ss n) c.if-not-branch.false (c.in_ok-take_next.ensures.one n c.rows.invariant.seen.1) in
    fewer_left c.rows.order c.take_next.new.self ss n c.rows.invariant.seen.1 more

pub rows-preserved : goal.rows-preserved
rows-preserved c =
    let ss : List Lived = filter_map (slice_get c.args.segments.now) c.args.places.now in
    let n : ℕ = c.rows.invariant.seen.0 in
    let more : ReadOne c.take_next.new.self ss n true = subst (ReadOne c.take_next.new.self ss n) c.if-not-branch.false (c.in_ok-take_next.ensures.one n c.rows.invariant.seen.1) in
    record { seen = (n + 1, more); births = c.in_ok-take_next.ensures.births }
