use Rattle.std.proofs.Common.{◌≡◌, List, ap, ◌∙◌, sym, subst, length, map, arith}
use Rattle.std.proofs.lemmas.List.{length-map, with_items_is}
use Rattle.std.specs.Vec.{with_items}
use Rattle.ix_base.specs.Births.{first_birth}
use Rattle.ram_postings.specs.Buffer.{Staged, with_births}
use Rattle.ram_postings.specs.Kept.{IsBuffer, staged_of, placed_of}
use Rattle.ram_postings.specs.declared.entry.Entry.{Entry}
use Rattle.ram_postings.proofs.WholeBuffer.{buffer_born}
use Rattle.ram_postings.proofs.buffer.RamPostings.born_block.Goals as goal

-- the elements that were written back
written : (c : goal.After-self-1) → (with_items c.self.inside.staged c.give_births.new.entries).items ≡ c.give_births.new.entries
written c =
    let was = c.self.inside.staged in
    let same : map placed_of c.give_births.new.entries ≡ map placed_of was.items = c.give_births.ensures.placed ∙ ap (map placed_of) c.as_mut_slice.ensures.value in
    let long = ap length same in
    let len = was.ok.0 in
    with_items_is was c.give_births.new.entries (omega (arith, long, len, length-map c.give_births.new.entries placed_of, length-map was.items placed_of))

births : (c : goal.After-self-1) → map staged_of c.give_births.new.entries ≡ with_births (map staged_of c.self.inside.staged.items) c.args.first.0 c.args.count (first_birth c.args.number)
births c = c.give_births.ensures.births ∙ ap (λ (es : List Entry). with_births (map staged_of es) c.args.first.0 c.args.count (first_birth c.args.number)) c.as_mut_slice.ensures.value

pub invariant_of-self : goal.invariant_of-self
invariant_of-self c =
    let was = c.self.inside in
    let positive = c.requires.positive in
    subst (λ (es : List Entry). IsBuffer es was.next_mark was.lists.entries) (sym (written c))
    (buffer_born was.staged.items c.give_births.new.entries was.next_mark was.lists.entries c.args.first.0 c.args.count (first_birth c.args.number) 64 c.args.self.now
    c.self.view_is (births c) (c.give_births.ensures.placed ∙ ap (map placed_of) c.as_mut_slice.ensures.value) c.self.invariant
    c.requires.place c.requires.count.1 c.requires.waiting (omega (arith, positive)) c.requires.above)

pub returns : goal.returns
returns c =
    ap (map staged_of) (written c) ∙ births c
    ∙ ap (λ (l : List Staged). with_births l c.args.first.0 c.args.count (first_birth c.args.number)) c.self.view_is
