-- The bytes of a text.
use Rattle.std.specs.Prelude.{ℕ, List, string_bytes}
use Rattle.ix_base.specs.declared.text.Content.{Content}
use Rattle.ix_base.specs.declared.text.Content.TheVariants.{Short, Long}

-- in the value itself, or in memory of their own
abbrev pub content_bytes : Content → List ℕ
content_bytes (Short text) = text.bytes
content_bytes (Long string) = string_bytes string
