-- What sets have of the segments that entries name.
use Rattle.std.specs.Prelude.{◌≡◌, ℕ, List}
use Rattle.std.specs.BTreeSet.{contains}
use Rattle.std.specs.Ordering.{nat_cmp, on, then_cmp}
use Rattle.std.specs.declared.cmp.Ordering.{Ordering}
use Rattle.commit_point.specs.declared.heads.HeadSegment.{HeadSegment}
use Rattle.commit_pruning.specs.Choosing.{has_id, has_written}
use Rattle.commit_pruning.specs.declared.named.Named.{Named}
use Rattle.commit_pruning.specs.declared.named.Version.{Version}

-- versions are ordered by the ids of their segments, and then by the commits that wrote them
abbrev pub by_version : Version → Version → Ordering
by_version = then_cmp (on (λ (v : Version). v.id) nat_cmp) (on (λ (v : Version). v.written) nat_cmp)

-- The sets have the segments that these entries name.
pub record IsNamed (entries : List HeadSegment) (named : Named) : Type 0 where
  pub ids : (id : ℕ) → contains nat_cmp named.ids id ≡ has_id entries id
  pub versions : (id v : ℕ)
      → contains by_version named.versions (record { id = id; written = v })
      ≡ has_written entries id v
