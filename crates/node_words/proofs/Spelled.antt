-- Words that spell an entry, and the entry that they spell.
use Rattle.std.proofs.Common.{◌≡◌, ℕ, ◌<◌, ◌≤◌, List, [], ◌∷◌, ◌++◌, length, Result, Ok, Err, refl, sym, ap, subst, ◌∙◌}
use Rattle.std.proofs.lemmas.List.{nil_from_length}
use Rattle.ix_base.specs.Entry.{Entry, kind_of, entry_bytes}
use Rattle.ix_base.specs.Words.{head, packed, Spells, IsEntryWords}
use Rattle.node_words.proofs.Entries.{one_entry}
use Rattle.node_words.proofs.Packing.{held_once}
use Rattle.node_words.proofs.Small.{spelled_held}
use Rattle.node_words.specs.Entry.{value_of}
use Rattle.node_words.specs.Packed.{HoldsBytes, HoldsFields, ReadsEntry}
use Rattle.node_words.specs.Reads.{ReadsAll, IsNoSpelling, IsOfKind}
use Rattle.node_words.specs.declared.entry.Entry as code
use Rattle.node_words.specs.declared.fault.ReadError.{ReadError}
use Rattle.node_words.specs.declared.fault.ReadError.TheVariants.{Memory, Foreign}

-- words that hold no bytes spell no entry
pub none_read : (words : List ℕ) → ((kind : ℕ) (bytes : List ℕ) → HoldsBytes words kind bytes → ⊥) → ReadsEntry words (Err Foreign)
none_read words h v s = h (kind_of v) (entry_bytes v) (spelled_held words v s)

entry_spelled : (words : List ℕ) (kind : ℕ) (bytes : List ℕ) (v : Entry) → HoldsBytes words kind bytes → IsOfKind kind v → bytes ≡ entry_bytes v → Spells words v
entry_spelled words kind bytes v held is e =
    record {
      fits = is.0;
      spelled = held.spelled ∙ ap (λ (bs : List ℕ). head kind (length bs) ∷ packed bs) e ∙ ap (λ (k : ℕ). head k (length (entry_bytes v)) ∷ packed (entry_bytes v)) (sym is.1);
    }

pub entry_absent : (words : List ℕ) (kind : ℕ) (bytes : List ℕ) → HoldsBytes words kind bytes → IsNoSpelling (IsOfKind kind) entry_bytes bytes → ReadsEntry words (Err Foreign)
entry_absent words kind bytes held none v s =
    let once = held_once words kind (kind_of v) bytes (entry_bytes v) held (spelled_held words v s) in
    none v (s.fits, sym once.0) once.1

pub fields_held : (words : List ℕ) (kind : ℕ) (bytes : List ℕ) → HoldsBytes words kind bytes → 2 ≤ kind → kind ≤ 5 → 0 < length bytes → HoldsFields words
fields_held words kind bytes held low high some = record { kind = kind; bytes = bytes; held = held; from_update = low; to_set_number = high; some = some }

-- what reading the bytes that words hold returns
pub entry_read : (words : List ℕ) (kind : ℕ) (bytes : List ℕ) (r : Result code.Entry ReadError) → HoldsBytes words kind bytes → 2 ≤ kind → kind ≤ 5 → 0 < length bytes → ReadsAll value_of (IsOfKind kind) entry_bytes bytes r → ReadsEntry words r
entry_read words kind bytes (Ok entry) held low high some p = entry_spelled words kind bytes (value_of entry) held p.0 p.1
entry_read words kind bytes (Err Memory) held low high some p = fields_held words kind bytes held low high some
entry_read words kind bytes (Err Foreign) held low high some p = entry_absent words kind bytes held p

-- words that hold no bytes but a kind
pub plain_held : (words : List ℕ) (kind : ℕ) (bytes : List ℕ) → HoldsBytes words kind bytes → length bytes ≡ 0 → HoldsBytes words kind []
plain_held words kind bytes held none = subst (λ (t : List ℕ). HoldsBytes words kind t) (nil_from_length bytes none) held

pub plain_spelled : (words : List ℕ) (kind : ℕ) (bytes : List ℕ) (v : Entry) → HoldsBytes words kind bytes → length bytes ≡ 0 → IsOfKind kind v → [] ≡ entry_bytes v → Spells words v
plain_spelled words kind bytes v held none is e = entry_spelled words kind [] v (plain_held words kind bytes held none) is e

-- words spell one entry at most
pub spelled_once : (words : List ℕ) (v w : Entry) → Spells words v → Spells words w → v ≡ w
spelled_once words v w p q =
    let once = held_once words (kind_of v) (kind_of w) (entry_bytes v) (entry_bytes w) (spelled_held words v p) (spelled_held words w q) in
    (one_entry (kind_of v) v w [] [] (p.fits, refl) (q.fits, sym once.0) (ap (λ (bs : List ℕ). bs ++ []) once.1)).0

pub is_spelled : (words : List ℕ) (v : Entry) → Spells words v → IsEntryWords words
unfolding IsEntryWords
is_spelled words v s = (v, s)

pub none_spelled : (words : List ℕ) → ((v : Entry) → Spells words v → ⊥) → IsEntryWords words → ⊥
unfolding IsEntryWords
none_spelled words none is = none is.0 is.1
