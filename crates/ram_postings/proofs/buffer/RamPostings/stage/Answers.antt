use Rattle.std.proofs.Common.{◌<◌, ◌+◌, List, None, length, refl, sym, ap, subst, arith}
use Rattle.std.proofs.lemmas.List.{length-map}
use Rattle.ram_postings.specs.Kept.{staged_of, IsBuffer}
use Rattle.ram_postings.specs.declared.entry.Entry.{Entry}
use Rattle.ram_postings.proofs.WholeBuffer.{buffer_failed, buffer_staged}
use Rattle.ram_postings.proofs.buffer.RamPostings.stage.Goals as goal

pub invariant_of-self-in_err-push : goal.invariant_of-self-in_err-push
invariant_of-self-in_err-push c =
    subst (λ (es : List Entry). IsBuffer es (c.self.inside.next_mark + 1) c.place_terms.new.lists.entries) (sym c.in_err-push.ensures.items)
    (buffer_failed c.self.inside.staged.items c.self.inside.next_mark c.self.inside.lists.entries c.place_terms.new.lists.entries c.self.invariant c.place_terms.ensures.others)

pub invariant_of-self-2 : goal.invariant_of-self-2
invariant_of-self-2 c =
    let e : Entry = record { doc = c.args.analysed.doc; birth = None; mark = c.self.inside.next_mark } in
    let room : length c.self.inside.staged.items < 2147483647 = omega (arith, c.requires.room, ap length c.self.view_is, length-map c.self.inside.staged.items staged_of) in
    subst (λ (es : List Entry). IsBuffer es (c.self.inside.next_mark + 1) c.place_terms.new.lists.entries) (sym c.in_ok-push.ensures.items)
    (buffer_staged c.self.inside.staged.items c.self.inside.next_mark c.self.inside.lists.entries c.place_terms.new.lists.entries e c.args.analysed.postings
    c.self.invariant room refl refl c.place_terms.ensures.others c.in_ok-place_terms.ensures.ok c.requires.inversion)
