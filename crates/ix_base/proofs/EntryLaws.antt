-- What holds of each list of words that spells an entry.
use Rattle.std.proofs.Common.{◌≡◌, ℕ, zero, suc, ◌+◌, ◌^◌, ◌<◌, ◌≤◌, ℤ, List, ◌++◌, length, drop, slice_index, subst, sym, refl, ap, ◌∙◌, arith, length-append}
use Rattle.std.proofs.lemmas.Bool.Decides.{nat_tests}
use Rattle.ix_base.specs.Spelling.{be32, signed64, text_bytes, IsName}
use Rattle.ix_base.specs.Entry.{Entry, add, update, delete_term, delete_query, set_number, commit, turn, IsOwnTerm, kind_of, entry_bytes, term_bytes, IsEntry}
use Rattle.ix_base.specs.Words.{words_in, words_for, head, head_kind, head_len, word_count, entry_words, IsEntryWords}
use Rattle.ix_base.specs.declared.document.Term.{Term}

pub length-be32 : (n : ℕ) → length (be32 n) ≡ 4
unfolding be32
length-be32 n = refl

pub length-signed64 : (z : ℤ) → length (signed64 z) ≡ 8
unfolding signed64
length-signed64 z = refl

pub length-words_in : (n : ℕ) (bytes : List ℕ) → length (words_in n bytes) ≡ n
length-words_in zero bytes = refl
length-words_in (suc n) bytes = ap suc (length-words_in n (drop 8 bytes))

pub short_name : (name : List ℕ) → IsName name → (0 < length name) × (length name < 256)
short_name name is = (grind (arith, nat_tests, is.fits), grind (arith, nat_tests, is.fits))

pub length-text_bytes : (text : List ℕ) → length (text_bytes text) ≡ 4 + length text
length-text_bytes text = omega (arith, length-append (be32 (length text)) text, length-be32 (length text))

pub length-term_bytes : (term : Term) → length (term_bytes term) ≡ 8 + (length term.field + length term.bytes)
length-term_bytes term =
    omega (arith, length-append (text_bytes term.field) (text_bytes term.bytes), length-text_bytes term.field, length-text_bytes term.bytes)

short_term : (term : Term) → IsOwnTerm term → length (term_bytes term) ≤ 33029
short_term term is = omega (arith, length-term_bytes term, short_name term.field is.field, is.short)

-- no entry has more bytes
pub most_bytes : (e : Entry) → IsEntry e → length (entry_bytes e) ≤ 131072
most_bytes add is = omega arith
most_bytes (update term) is = omega (arith, short_term term is)
most_bytes (delete_term term) is = omega (arith, short_term term is)
most_bytes (delete_query query) is = is.1
most_bytes (set_number term num value) is =
    omega (arith, length-append (term_bytes term) (text_bytes num ++ signed64 value), length-append (text_bytes num) (signed64 value), length-text_bytes num, length-signed64 value, short_term term is.0, short_name num is.1)
most_bytes commit is = omega arith
most_bytes turn is = omega arith

kinds : (e : Entry) → (1 ≤ kind_of e) × (kind_of e ≤ 7)
kinds add = (omega arith, omega arith)
kinds (update term) = (omega arith, omega arith)
kinds (delete_term term) = (omega arith, omega arith)
kinds (delete_query query) = (omega arith, omega arith)
kinds (set_number term num value) = (omega arith, omega arith)
kinds commit = (omega arith, omega arith)
kinds turn = (omega arith, omega arith)

-- a head gives its kind and its number of bytes again
pub head_again : (kind len : ℕ) → len < 2 ^ 32 → (head_kind (head kind len) ≡ kind) × (head_len (head kind len) ≡ len)
head_again kind len lt = (omega arith, omega arith)

-- ---- the four laws

length-entry_words : (e : Entry) → length (entry_words e) ≡ words_for (length (entry_bytes e)) + 1
length-entry_words e = omega (arith, length-words_in (words_for (length (entry_bytes e))) (entry_bytes e))

pub IsEntryWords-not_empty : (words : List ℕ) → IsEntryWords words → 0 < length words
unfolding IsEntryWords
IsEntryWords-not_empty words is = subst (λ (ws : List ℕ). 0 < length ws) (sym is.1.spelled) (omega (arith, length-entry_words is.0))

pub IsEntryWords-count : (words : List ℕ) → IsEntryWords words → length words ≡ word_count (slice_index words 0)
unfolding IsEntryWords
IsEntryWords-count words is =
    let len = length (entry_bytes is.0) in
    let again = head_again (kind_of is.0) len (omega (arith, most_bytes is.0 is.1.fits)) in
    subst (λ (ws : List ℕ). length ws ≡ word_count (slice_index ws 0)) (sym is.1.spelled)
    (length-entry_words is.0 ∙ ap (λ (n : ℕ). words_for n + 1) (sym again.1))

pub IsEntryWords-at_most : (words : List ℕ) → IsEntryWords words → length words ≤ 16385
unfolding IsEntryWords
IsEntryWords-at_most words is =
    subst (λ (ws : List ℕ). length ws ≤ 16385) (sym is.1.spelled) (omega (arith, length-entry_words is.0, most_bytes is.0 is.1.fits))

pub IsEntryWords-kind : (words : List ℕ) → IsEntryWords words → (1 ≤ head_kind (slice_index words 0)) × (head_kind (slice_index words 0) ≤ 7)
unfolding IsEntryWords
IsEntryWords-kind words is =
    let again = head_again (kind_of is.0) (length (entry_bytes is.0)) (omega (arith, most_bytes is.0 is.1.fits)) in
    subst (λ (ws : List ℕ). (1 ≤ head_kind (slice_index ws 0)) × (head_kind (slice_index ws 0) ≤ 7)) (sym is.1.spelled)
    (subst (λ (k : ℕ). (1 ≤ k) × (k ≤ 7)) (sym again.0) (kinds is.0))
