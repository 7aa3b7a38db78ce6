-- Which live bits and which set numbers have a spelling in a segment's files: so that one file spells one value.
use Rattle.std.specs.Prelude.{◌≡◌, ℕ, ◌<◌, ◌^◌, List, length, Bool, true, ◌&&◌, ◌||◌, nat_lt, ◌==◌, FitsSigned}
use Rattle.std.specs.Int.{w64}
use Rattle.std.specs.List.{AllByRecursion, AllPairs, list_any}
use Rattle.ix_base.specs.Limits.{text_lt}
use Rattle.ix_base.specs.Spelling.{IsName}
use Rattle.live_files.specs.LiveSpelling.{SetValue}

-- ---- live rows

-- at least one of the bits is 1
abbrev pub has_bit : List Bool → Bool
has_bit bits = list_any (λ (bit : Bool). bit) bits

-- the live bits of a segment of n rows: at least one row lives
pub record LiveFits (n : ℕ) (bits : List Bool) : Type 0 where
  pub count : length bits ≡ n
  pub some : has_bit bits ≡ true

-- ---- set numbers

-- a row and a name come before others, by row and then by name
abbrev pub is_before : ℕ → List ℕ → ℕ → List ℕ → Bool
is_before row name next_row next_name = nat_lt row next_row || ((row == next_row) && text_lt name next_name)

abbrev pub IsBefore : SetValue → SetValue → Type 0
IsBefore a b = is_before a.0 a.1 b.0 b.1 ≡ true

-- the row is one of n, and the name and the number fit their fields
pub record ValueFits (n : ℕ) (x : SetValue) : Type 0 where
  pub row : x.0 < n
  pub name : IsName x.1
  pub number : FitsSigned w64 x.2

-- the numbers that were set in a segment of n rows: they rise by row and then by name
pub record ValuesFit (n : ℕ) (values : List SetValue) : Type 0 where
  pub count : length values < 2 ^ 64
  pub rise : AllPairs IsBefore values
  pub each : AllByRecursion (ValueFits n) values
