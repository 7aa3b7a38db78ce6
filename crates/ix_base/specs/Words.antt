-- The words that spell an entry: a head word, and the entry's bytes, eight in a word.
use Rattle.std.specs.Prelude.{◌≡◌, ℕ, zero, suc, ◌+◌, ◌*◌, ◌/◌, ◌%◌, ◌^◌, List, [], ◌∷◌, length, drop}
use Rattle.std.specs.Int.{w64, from_be_bytes}
use Rattle.ix_base.specs.Entry.{Entry, kind_of, entry_bytes, IsEntry}

-- the first eight bytes as a word, the first byte highest; bytes past the end are 0
unfoldable pub first_word : List ℕ → ℕ
first_word bytes = from_be_bytes w64 bytes

-- so many words of the bytes
abbrev pub words_in : ℕ → List ℕ → List ℕ
words_in zero bytes = []
words_in (suc n) bytes = first_word bytes ∷ words_in n (drop 8 bytes)

-- how many words hold so many bytes
abbrev pub words_for : ℕ → ℕ
words_for len = (len + 7) / 8

-- bytes in words, the last word filled with zero bytes
abbrev pub packed : List ℕ → List ℕ
packed bytes = words_in (words_for (length bytes)) bytes

-- a head has the kind in its upper half and the number of bytes in its lower half
abbrev pub head : ℕ → ℕ → ℕ
head kind len = kind * 2 ^ 32 + len

abbrev pub head_kind : ℕ → ℕ
head_kind h = h / 2 ^ 32

abbrev pub head_len : ℕ → ℕ
head_len h = h % 2 ^ 32

-- how many words an entry with this head has
abbrev pub word_count : ℕ → ℕ
word_count h = words_for (head_len h) + 1

abbrev pub entry_words : Entry → List ℕ
entry_words e = head (kind_of e) (length (entry_bytes e)) ∷ packed (entry_bytes e)

-- the words spell the entry
pub record Spells (words : List ℕ) (e : Entry) : Type 0 where
  pub fits : IsEntry e
  pub spelled : words ≡ entry_words e

-- the words spell some entry
unfoldable pub IsEntryWords : List ℕ → Type 0
IsEntryWords words = (e : Entry) × Spells words e
