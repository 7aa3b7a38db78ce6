-- The places that a term has in several sources.
use Rattle.std.specs.Prelude.{ℕ, List, Bool, Option}
use Rattle.std.specs.List.{list_any}
use Rattle.ix_base.specs.declared.postings.Posting.{Posting}
use Rattle.merge_postings.specs.Renumbering.{moved_at}

-- what contracts see of the places that a term has in one source: these, and the numbers that the source's rows get
pub record Listed : Type 0 where
  pub rows : List Posting
  pub numbers : List (Option ℕ)

-- a part has the place at the row that gets the number r
abbrev pub any_part : List Listed → ℕ → ℕ → Bool
any_part parts r x = list_any (λ (p : Listed). moved_at p.numbers p.rows r x) parts
