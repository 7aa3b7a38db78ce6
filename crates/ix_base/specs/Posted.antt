-- Where postings of one term have it.
use Rattle.std.specs.Prelude.{ℕ, ◌<◌, List, Bool, ◌&&◌, ◌==◌, length, AllPairs}
use Rattle.std.specs.List.{list_any}
use Rattle.ix_base.specs.declared.postings.Posting.{Posting}

abbrev pub has_number : List ℕ → ℕ → Bool
has_number xs x = list_any (λ y. y == x) xs

-- the postings have the row at the position
abbrev pub posted_at : List Posting → ℕ → ℕ → Bool
posted_at rows row at = list_any (λ posting. (posting.row == row) && has_number posting.positions at) rows

-- a row of a term has a position at least, and its positions rise
pub record IsPosting (posting : Posting) : Type 0 where
  pub some : 0 < length posting.positions
  pub rise : AllPairs (λ a b. a < b) posting.positions
