use Rattle.std.proofs.Common.{◌∙◌, ◌++◌, ◌∷◌, [], List, length, sym, ap, arith}
use Rattle.std.specs.Vec.Iter.{into_iter_items}
use Rattle.std.proofs.lemmas.List.{append_assoc}
use Rattle.ix_base.specs.declared.document.Row.{Row}
use Rattle.ram_postings.specs.declared.entry.Entry.{Entry}
use Rattle.ram_postings.proofs.MarksPlaced.{rows_next, one_row}
use Rattle.ram_postings.proofs.numbers.moved_rows.Goals as goal

pub loop-entry-preserved : goal.loop-entry-preserved
loop-entry-preserved c =
    let e = c.in-Some.entry in
    let front : List Entry = c.loop-entry.yielded in
    record {
      all =
          append_assoc front (e ∷ []) (into_iter_items c.next.new.self)
          ∙ sym (ap (λ (l : List Entry). front ++ l) c.in-Some.ensures.steps.0) ∙ c.loop-entry.invariant.all;
      rows = rows_next front e c.loop-entry.rows.items c.move_row.new.rows.items c.loop-entry.invariant.rows c.move_row.ensures.rows;
      room =
          let room = c.loop-entry.invariant.room in
          let one = ap (λ (es : List Entry). length es) c.in-Some.ensures.steps.0 in
          let many = ap (λ (rows : List Row). length rows) c.move_row.ensures.rows in
          let capacity = c.move_row.ensures.capacity in
          omega (arith, room, one, many, capacity, one_row e.doc e.birth c.loop-entry.rows.items);
    }
