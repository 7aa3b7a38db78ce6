-- The words of operations that the tests link.
use Rattle.std.proofs.Common.{◌≡◌, ℕ, ◌<◌, ◌≤◌, List, [], ◌∷◌, refl, length, slice_index, codes, arith, rules}
use Rattle.std.proofs.lemmas.Str.{IsUtf8-from_ascii}
use Rattle.ix_base.specs.Entry as e
use Rattle.ix_base.specs.Entry.{IsOwnTerm}
use Rattle.ix_base.specs.Spelling.{IsText, be32}
use Rattle.ix_base.specs.Words.{IsEntryWords, entry_words, first_word, head_kind}
use Rattle.ix_base.specs.declared.document.Term.{Term}
use Rattle.delete_queue.specs.Answers.{IsOperation}

pub is_add : IsOperation (4294967296 ∷ [])
unfolding IsEntryWords
is_add = record { grammar = (e.add, record { fits = tt; spelled = refl }); kind = omega arith }

key_term : List ℕ → Term
key_term bytes = record { field = codes "key"; bytes = bytes }

is_own : (bytes : List ℕ) → IsText bytes → length bytes ≤ 32766 → IsOwnTerm (key_term bytes)
unfolding key_term
is_own bytes text short = record { field = record { utf8 = IsUtf8-from_ascii (codes "key") (search rules); fits = refl }; text = text; short = short }

-- the words of a delete of the field `key` by a text
deletes : (bytes words : List ℕ) → IsText bytes → length bytes ≤ 32766 → words ≡ entry_words (e.delete_term (key_term bytes)) → head_kind (slice_index words 0) < 6 → IsOperation words
unfolding IsEntryWords
deletes bytes words text short spelled kind = record { grammar = (e.delete_term (key_term bytes), record { fits = is_own bytes text short; spelled = spelled }); kind = kind }

pub is_delete_of_five : IsOperation (12884901904 ∷ 14686714112 ∷ 5915820647525 ∷ [])
unfolding first_word be32 key_term
is_delete_of_five = deletes (codes "abcde") _ (record { utf8 = IsUtf8-from_ascii (codes "abcde") (search rules); short = omega arith }) (omega arith) refl (omega arith)

pub is_delete_of_six : IsOperation (12884901905 ∷ 14686714112 ∷ 7015332275301 ∷ 7349874591868649472 ∷ [])
unfolding first_word be32 key_term
is_delete_of_six = deletes (codes "abcdef") _ (record { utf8 = IsUtf8-from_ascii (codes "abcdef") (search rules); short = omega arith }) (omega arith) refl (omega arith)
