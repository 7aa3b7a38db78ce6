-- A packet applied, as the calls tell it.
use Rattle.std.proofs.Common.{◌≡◌, ◌∙◌, ℕ, length, sym, ap, subst}
use Rattle.live_docs.specs.Marks.{Marks}
use Rattle.frozen_packet.specs.declared.packet.Packet.{Packet}
use Rattle.segment_core.specs.Segments.{IsInverted}
use Rattle.segment_core.specs.LiveRows.{Lived, IsWhole, Fated, MarksLater}
use Rattle.segment_core.specs.declared.segment.Segment.{Segment}
use Rattle.packet_apply.specs.Packets.{Applied}

pub applied : (packet : Packet) (s : Lived) (live : Marks) (segment : Segment) (copy marked made : Marks) (low : ℕ)
    → live ≡ s.live → segment ≡ s.segment → copy ≡ live → low ≡ copy.applied
    → IsWhole segment marked → MarksLater copy.marks marked.marks
    → (IsInverted segment → Fated low packet.updates segment.rows copy.marks marked.marks)
    → made ≡ record marked { applied = packet.upto } → Applied packet s made
applied packet s live segment copy marked made low own inner copied at whole later fates said = record {
  applied = ap (λ (m : Marks). m.applied) said;
  rows = ap (λ (m : Marks). length m.marks) said ∙ (whole.rows ∙ ap (λ (g : Segment). length g.rows) inner);
  later = subst (λ (m : Marks). MarksLater s.live.marks m.marks) (sym said) (subst (λ (m : Marks). MarksLater m.marks marked.marks) same later);
  fates = λ is.
      subst (λ (m : Marks). Fated s.live.applied packet.updates s.segment.rows s.live.marks m.marks) (sym said)
      (subst (λ (n : ℕ). Fated n packet.updates s.segment.rows s.live.marks marked.marks) (at ∙ ap (λ (m : Marks). m.applied) same)
      (subst (λ (m : Marks). Fated low packet.updates s.segment.rows m.marks marked.marks) same
      (subst (λ (g : Segment). IsInverted g → Fated low packet.updates g.rows copy.marks marked.marks) inner fates is)));
}
  where
    same : copy ≡ s.live
    same = copied ∙ own
