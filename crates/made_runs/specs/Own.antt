-- Whose the documents of a made script are.
use Rattle.std.specs.Prelude.{◌≡◌, ℕ, ◌<◌, ◌≤◌}
use Rattle.ix_base.specs.Documents.{Document}
use Rattle.script_maker.specs.Made.{made_script}
use Rattle.script_maker.specs.Operations.{document_of}
use Rattle.made_runs.specs.Apart.{WorkApart}

-- A document of the caller: one that the caller's lines add, whatever its numbers are by now.
pub record IsOwn (caller : ℕ) (doc : Document) : Type 0 where
  pub number : ℕ
  pub in_range : caller < 256
  pub is : doc ≡ record (document_of caller number) { num = doc.num }

-- The callers of a made script work apart.
abbrev pub MadeApart : Type 0
MadeApart = (seed lines callers : ℕ) → 1 ≤ callers → callers ≤ 256
    → WorkApart IsOwn (made_script seed lines callers)
