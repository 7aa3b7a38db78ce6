-- A text's first bytes and its length as a number, and terms by those of their texts.
use Rattle.std.specs.Prelude.{◌≡◌, ℕ, zero, suc, ◌+◌, ◌-◌, ◌*◌, ◌^◌, ◌<◌, ◌≤◌, ◌⊎◌, List, length, slice_index}
use Rattle.std.specs.Cmp.Lexicographic.{slice_cmp}
use Rattle.std.specs.Ordering.{nat_cmp}
use Rattle.std.specs.declared.cmp.Ordering.TheVariants.{Less}
use Rattle.ix_base.specs.declared.document.Term.{Term}
use Rattle.ix_base.specs.Spelling.{AreBytes}
use Rattle.merge_postings.specs.declared.key.Key.{Key}

-- the first n bytes as a number, the first one the highest; 0 stands for each that isn't there
unfoldable pub key : ℕ → List ℕ → ℕ
key zero bytes = 0
key (suc n) bytes = key n bytes * 256 + slice_index bytes n

-- the number is that of the first fifteen bytes, with the length behind them; 16 stands for a longer one
pub record IsKey (number : ℕ) (bytes : List ℕ) : Type 0 where
  pub short : length bytes < 16 → number ≡ key 15 bytes * 256 + length bytes
  pub long : 16 ≤ length bytes → number ≡ key 15 bytes * 256 + 16
  pub bytes_are : AreBytes bytes

-- the same of the number's two words
abbrev pub HasKey : Key → List ℕ → Type 0
HasKey k bytes = IsKey (k.high * 2 ^ 64 + k.low) bytes

-- the key of no text, above all others
abbrev pub IsHighest : Key → Type 0
IsHighest k = (k.high ≡ 2 ^ 64 - 1) × (k.low ≡ 2 ^ 64 - 1)

-- the key of a term beside a field: that of its text where it has the field, and the highest where its own is behind
-- the field
abbrev pub KeysTerm : List ℕ → Key → Term → Type 0
KeysTerm field k t = ((t.field ≡ field) × HasKey k t.bytes) ⊎ (IsHighest k × (slice_cmp nat_cmp field t.field ≡ Less))
