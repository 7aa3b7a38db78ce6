use Rattle.std.proofs.Common.{◌≡◌, ap, ◌∙◌, Bor}
use Rattle.rayon.proofs.ToStd.{slice-AllZip}
use Rattle.ix_base.specs.declared.memory.NoMemory.{NoMemory}
use Rattle.live_docs.specs.Marks.{Marks}
use Rattle.segment_core.specs.LiveRows.{Lived}
use Rattle.packet_apply.specs.Packets.{Applied}
use Rattle.packet_apply.proofs.Oks.{all_oks, match_ok}
use Rattle.packet_apply.proofs.parallel.apply_all.Goals as goal

pub returns : goal.returns
returns g c =
    let h = c.in_ok-all.ensures in
    let chain = h.1 in
    let slice : c.map.result.base.base.slice.now ≡ c.args.segments.now = ap (λ it. it.base.slice.now) c.map.ensures.base ∙ ap (λ it. it.slice.now) c.with_min_len.ensures.base ∙ c.par_iter.ensures in
    let R : Lived → Marks → Type 0 = Applied c.args.packet.now in
    match_ok c.in_ok-all.all _ _ _ h.2 (λ v p.
    slice-AllZip chain.0 c.args.segments.now (chain.1 ∙ slice) R v.items
    (all_oks NoMemory (λ (z : Bor Lived) y. R z.now y) chain.0 h.0 p.0 v.items (rw c.map.ensures.f at chain.2) p.1 p.2))
