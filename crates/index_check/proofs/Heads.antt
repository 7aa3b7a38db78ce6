-- A commit whose head and segments were found sound is lawful.
use Rattle.std.proofs.Common.{◌≡◌, ℕ, ◌^◌, ◌≤◌, subst}
use Rattle.ix_outside.specs.Files.{Files}
use Rattle.commit_point.specs.declared.heads.Head.{Head}
use Rattle.commit_point.specs.declared.open.Opened.{Opened}
use Rattle.commit_point.specs.Holds.{HasHead, HasSegments, head_of}
use Rattle.index_check.specs.Earlier.{IsLeastAbove, IsLeastId}
use Rattle.index_check.specs.Known.{AreSound, IsSoundHead, owner_of}
use Rattle.index_check.specs.declared.earlier.Earlier.{Earlier}
use Rattle.index_check.specs.declared.known.Known.{Known}
use Rattle.index_check.proofs.Apart.{segments_apart}
use Rattle.index_check.proofs.Found.{lawful_commit, next_least}

has_segments : (files : Files) (s : ℕ) (head : Head) (known : Known) → HasHead files s head → (so : AreSound files s head.segments known head.docs) → HasSegments files s head.next_id head.segments so.segments
has_segments files s head known has so = record {
  tail = (head.format, head.pairs);
  head = subst (HasHead files s) same has;
  each = so.each;
  apart = segments_apart files s 1 head.next_id (owner_of known) head.segments so.segments has.fits.ids so.each so.owned;
}
  where
    same : head ≡ head_of s head.next_id (head.format, head.pairs) head.segments so.segments
    same = λ i. record { number = has.number i; docs = so.docs_are i; next_id = head.next_id; segments = head.segments; format = head.format; pairs = head.pairs }

pub sound_head : (files : Files) (s : ℕ) (head : Head) (least : ℕ) (new : Earlier) → HasHead files s head → AreSound files s head.segments new.known head.docs → IsLeastId files s least
    → head.next_id ≤ 2 ^ 61 → least ≤ head.next_id → IsLeastAbove least head.segments new.least_id → IsSoundHead files s head new
sound_head files s head least new has so known room above next = record {
  has = has;
  lawful = lawful_commit files s opened least spelled known (record { room = room; above = above; each = so.inverted });
  before = record { ids = next_least files s least new.least_id opened spelled known next; segments = so.known_now };
}
  where
    opened : Opened
    opened = record { number = s; next_id = head.next_id; entries = head.segments; segments = so.segments }

    spelled : HasSegments files s head.next_id head.segments so.segments
    spelled = has_segments files s head new.known has so
