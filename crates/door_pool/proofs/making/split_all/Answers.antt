use Rattle.std.proofs.Common.{◌+◌, ◌∙◌, ℕ, List, [], ◌∷◌, length, sym, ap, subst, arith, length-append}
use Rattle.door_pool.specs.declared.doors.Pass.{Pass}
use Rattle.door_pool.specs.Passes.{ArePassesAt, IsNewPass}
use Rattle.door_pool.specs.Views.{deed_at}
use Rattle.door_pool.proofs.Moving.{splits}
use Rattle.door_pool.proofs.Beginning.{passes_more, split_off}
use Rattle.door_pool.proofs.making.split_all.Goals as goal

pub split_seat-requires : goal.split_seat-requires
split_seat-requires g c =
    let at = c.loop-door.invariant in
    let words = c.requires.words in (
      at.table ∙ c.requires.table,
      omega (arith, words),
      splits g.H.Held.deed g.H.Held.told _ _ _ at.is_keeper at.no_pass
          (let made = at.made in
          let many = ap length at.doors in
          let count = c.requires.count.0 in
          let more = c.loop-door-test.true in
          omega (arith, made, many, count, more)),
    )

pub loop-door-preserved : goal.loop-door-preserved
loop-door-preserved g c =
    let at = c.loop-door in
    let i = at.invariant in
    let split = c.split_seat.ensures in
    let t = c.args.table.now.shared.table_id in
    let doors = c.args.seat.me.0.doors in
    let more = c.loop-door-test.true in
    let p : Pass g.row.H.Denot g.row.H-Deed.Denot g.row.H-Told.Denot = record { seat = c.split_seat.result; door = at.door } in
    record {
      table = split.0 ∙ i.table;
      is_keeper = ap (λ m. m.0.is_keeper) split.2 ∙ i.is_keeper;
      no_pass = ap (λ m. m.0.is_pass) split.2 ∙ i.no_pass;
      made = ap (λ m. m.0.made) split.2 ∙ ap (λ (n : ℕ). n + 1) i.made;
      doors = ap (λ m. m.0.doors) split.2 ∙ i.doors;
      within = omega (arith, more);
      count = ap length c.push_reserved.ensures.items ∙ length-append at.passes.items (p ∷ []) ∙ ap (λ (n : ℕ). n + 1) i.count;
      room = (let r = i.room in let capacity = c.push_reserved.ensures.capacity in omega (arith, r, capacity));
      passes =
          subst (λ (ps : List (Pass g.row.H.Denot g.row.H-Deed.Denot g.row.H-Told.Denot)). ArePassesAt t doors ps)
          (sym c.push_reserved.ensures.items)
          (passes_more t doors at.passes.items p i.passes
          (subst (λ (n : ℕ). IsNewPass t n (deed_at doors n) p) (sym i.count)
          (split_off t doors at.seat.me.0 p (split.3 ∙ i.table ∙ c.requires.table) split.4 i.made i.doors
          (let words = c.requires.words in omega (arith, words, more))
          (let few = c.requires.count.1 in omega (arith, few, more)))));
    }
