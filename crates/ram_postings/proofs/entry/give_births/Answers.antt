use Rattle.std.proofs.Common.{◌≡◌, ◌∙◌, ℕ, ◌+◌, ◌<◌, List, Some, length, map, get_or, sym, ap, refl, arith}
use Rattle.std.proofs.lemmas.List.{get_or_default}
use Rattle.std.proofs.Math.Seq.{map-set_same}
use Rattle.ix_base.specs.Births.{first_birth}
use Rattle.ram_postings.specs.Kept.{staged_of, placed_of}
use Rattle.ram_postings.specs.declared.entry.Entry.{Entry}
use Rattle.ram_postings.proofs.BornRows.{births_none, staged_born}
use Rattle.ram_postings.proofs.entry.give_births.Goals as goal

pub loop-place-init : goal.loop-place-init
loop-place-init c = record { births = sym (births_none (map staged_of c.args.entries.now) c.args.first (first_birth c.args.number)); placed = refl }

pub loop-place-preserved : goal.loop-place-preserved
loop-place-preserved c =
    let es : List Entry = c.args.entries.now in
    let now : List Entry = c.loop-place.entries in
    let at : ℕ = c.args.first + c.loop-place.place in
    let d : Entry = c.index-entries-first.result in
    let was : Entry = get_or now at d in
    let e : Entry = record { doc = was.doc; birth = Some c.new.result; mark = was.mark } in
    let long : length now ≡ length es = c.loop-place.auto.entries in
    let few = c.requires.places in
    let test = c.loop-place-test.true in
    let inside : at < length now = omega (arith, few, test, long) in
    let here : was ≡ get_or now at e = get_or_default now at d e inside in
    record {
      births = staged_born es now c.args.first c.loop-place.place (first_birth c.args.number) at c.new.result e c.loop-place.invariant.births long refl
          (omega (arith, few, test)) c.new.ensures (ap (λ (x : Entry). x.doc) here) refl;
      placed = map-set_same placed_of now at e d refl ∙ c.loop-place.invariant.placed;
    }
