-- The kind and the bytes that words hold.
use Rattle.std.specs.Prelude.{◌≡◌, ℕ, ◌<◌, ◌≤◌, List, ◌∷◌, length, take, Result, Ok, Err}
use Rattle.std.specs.List.{flat_map}
use Rattle.ix_base.specs.Entry.{Entry, most_query_bytes}
use Rattle.ix_base.specs.Spelling.{be64, AreBytes}
use Rattle.ix_base.specs.Words.{head, packed, Spells}
use Rattle.node_words.specs.Entry.{value_of}
use Rattle.node_words.specs.declared.entry.Entry as code
use Rattle.node_words.specs.declared.fault.ReadError.{ReadError}
use Rattle.node_words.specs.declared.fault.ReadError.TheVariants.{Memory, Foreign}
use Rattle.node_words.specs.declared.fault.WrongForm.{WrongForm}
use Rattle.node_words.specs.declared.unpack.Held.{Held}

-- the words are a head word of this kind and these bytes, and no more bytes than an entry may have
pub record HoldsBytes (words : List ℕ) (kind : ℕ) (bytes : List ℕ) : Type 0 where
  pub bytes_fit : AreBytes bytes
  pub short : length bytes ≤ most_query_bytes
  pub spelled : words ≡ head kind (length bytes) ∷ packed bytes

-- The words are a head word of a kind whose entries have fields, and some bytes. An update, a
-- delete and a set have fields; an add, a commit and a turn have none.
pub record HoldsFields (words : List ℕ) : Type 0 where
  pub kind : ℕ
  pub bytes : List ℕ
  pub held : HoldsBytes words kind bytes
  pub from_update : 2 ≤ kind
  pub to_set_number : kind ≤ 5
  pub some : 0 < length bytes

-- the bytes that are still packed
abbrev pub bytes_in : Held → List ℕ
bytes_in held = take held.len (flat_map be64 held.words.now)

-- what looking for the kind and the bytes in words returns
abbrev pub FindsBytes : List ℕ → Result Held WrongForm → Type 0
FindsBytes words (Ok held) = HoldsBytes words held.kind (bytes_in held) × (length (bytes_in held) ≡ held.len)
FindsBytes words (Err e) = (kind : ℕ) (bytes : List ℕ) → HoldsBytes words kind bytes → ⊥

-- what reading an entry from words returns
abbrev pub ReadsEntry : List ℕ → Result code.Entry ReadError → Type 0
ReadsEntry words (Ok entry) = Spells words (value_of entry)
ReadsEntry words (Err Memory) = HoldsFields words
ReadsEntry words (Err Foreign) = (e : Entry) → Spells words e → ⊥
