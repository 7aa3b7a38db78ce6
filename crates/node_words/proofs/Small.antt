-- The bytes of an entry are bytes.
use Rattle.std.proofs.Common.{◌≡◌, ℕ, zero, suc, ◌+◌, ◌/◌, ◌<◌, true, ℤ, List, [], ◌∷◌, ◌++◌, length, subst, arith, inl, inr}
use lib.Utf8.{scalar, scalars, next, encode, encodes, scalar_cases}
use Rattle.std.specs.Int.{w64, cast_unsigned}
use Rattle.std.specs.Str.{IsUtf8}
use Rattle.std.proofs.lemmas.Bool.{and_parts, cases_lt, lt-ltb, le-ltb}
use Rattle.ix_base.specs.Entry.{Entry, add, update, delete_term, delete_query, set_number, commit, turn, kind_of, entry_bytes, term_bytes, IsOwnTerm, IsEntry}
use Rattle.ix_base.proofs.EntryLaws.{most_bytes}
use Rattle.ix_base.specs.QueryBytes.{count_of, query_bytes, queries_bytes, list_bytes, IsQuery, AreQueries}
use Rattle.ix_base.proofs.CodecLaws.{AreBytes-drop}
use Rattle.ix_base.specs.Spelling.{be32, be64, signed64, text_bytes, AreBytes, IsText, IsName}
use Rattle.ix_base.specs.Tree.{Tree, all, term, phrase, range, bool, Trees, no_trees, tree}
use Rattle.ix_base.specs.Words.{Spells}
use Rattle.ix_base.specs.declared.document.Term.{Term}
use Rattle.node_words.proofs.Packing.{append_fits, be64_fits}
use Rattle.node_words.specs.Packed.{HoldsBytes}

cons_fits : (x : ℕ) (xs : List ℕ) → x < 256 → AreBytes xs → AreBytes (x ∷ xs)
cons_fits x xs p q zero = p
cons_fits x xs p q (suc i) = q i

nil_fits : AreBytes []
nil_fits i = omega arith

-- four bytes are the last of eight
be32_fits : (n : ℕ) → AreBytes (be32 n)
unfolding be32 be64
be32_fits n = AreBytes-drop 4 (be64 n) (be64_fits n)

signed64_fits : (z : ℤ) → AreBytes (signed64 z)
unfolding signed64 be64
signed64_fits z = be64_fits (cast_unsigned w64 z)

below_top : (c : ℕ) → scalar c ≡ true → c < 1114112
below_top c is = elim (scalar_cases c is) [ inl lt ↦ omega arith | inr both ↦ both.1 ]

next_fits : (n : ℕ) → next n < 256
next_fits n = omega arith

two_fit : (a b : ℕ) → a < 256 → b < 256 → AreBytes (a ∷ b ∷ [])
two_fit a b p q = cons_fits a (b ∷ []) p (cons_fits b [] q nil_fits)

encode_fits : (c : ℕ) → c < 1114112 → AreBytes (encode c)
unfolding encode
encode_fits c lt =
    elim (cases_lt c 128) [
      | inl one ↦ rw (lt-ltb c 128 one) (cons_fits c [] (omega arith) nil_fits)
      | inr more ↦ rw (le-ltb c 128 more) (elim (cases_lt c 2048) [
        | inl two ↦ rw (lt-ltb c 2048 two) (two_fit (192 + c / 64) (next c) (omega arith) (next_fits c))
        | inr more ↦ rw (le-ltb c 2048 more) (elim (cases_lt c 65536) [
          | inl three ↦ rw (lt-ltb c 65536 three) (cons_fits (224 + c / 4096) (next (c / 64) ∷ next c ∷ []) (omega arith) (two_fit (next (c / 64)) (next c) (next_fits (c / 64)) (next_fits c)))
          | inr more ↦ rw (le-ltb c 65536 more) (cons_fits (240 + c / 262144) (next (c / 4096) ∷ next (c / 64) ∷ next c ∷ []) (omega arith) (cons_fits (next (c / 4096)) (next (c / 64) ∷ next c ∷ []) (next_fits (c / 4096)) (two_fit (next (c / 64)) (next c) (next_fits (c / 64)) (next_fits c))))
        ])
      ])
    ]

encodes_fit : (cs : List ℕ) → scalars cs ≡ true → AreBytes (encodes cs)
encodes_fit [] is = nil_fits
encodes_fit (c ∷ cs) is =
    let both = and_parts (scalar c) (scalars cs) is in
    append_fits (encode c) (encodes cs) (encode_fits c (below_top c both.0)) (encodes_fit cs both.1)

utf8_fits : (text : List ℕ) → IsUtf8 text → AreBytes text
utf8_fits text is = subst AreBytes is.1.1 (encodes_fit is.0 is.1.0)

text_fits : (text : List ℕ) → IsUtf8 text → AreBytes (text_bytes text)
text_fits text is = append_fits (be32 (length text)) text (be32_fits (length text)) (utf8_fits text is)

pair_fits : (name text : List ℕ) → IsName name → IsText text → AreBytes (text_bytes name ++ text_bytes text)
pair_fits name text p q = append_fits (text_bytes name) (text_bytes text) (text_fits name p.utf8) (text_fits text q.utf8)

mutual
  query_fits : (q : Tree) → IsQuery q → AreBytes (query_bytes q)
  query_fits all is = cons_fits 0 [] (omega arith) nil_fits
  query_fits (term f t) is = cons_fits 1 _ (omega arith) (pair_fits f t is.0 is.1)
  query_fits (phrase f t) is = cons_fits 2 _ (omega arith) (pair_fits f t is.0 is.1)
  query_fits (range n l h) is = cons_fits 4 _ (omega arith) (append_fits (text_bytes n) (signed64 l ++ signed64 h) (text_fits n is.0.utf8) (append_fits (signed64 l) (signed64 h) (signed64_fits l) (signed64_fits h)))
  query_fits (bool a b c) is =
      cons_fits 3 _ (omega arith) (append_fits (list_bytes a) (list_bytes b ++ list_bytes c) (append_fits (be32 (count_of a)) (queries_bytes a) (be32_fits (count_of a)) (queries_fit a is.0.1))
      (append_fits (list_bytes b) (list_bytes c) (append_fits (be32 (count_of b)) (queries_bytes b) (be32_fits (count_of b)) (queries_fit b is.1.1)) (append_fits (be32 (count_of c)) (queries_bytes c) (be32_fits (count_of c)) (queries_fit c is.2.1))))

  queries_fit : (qs : Trees) → AreQueries qs → AreBytes (queries_bytes qs)
  queries_fit no_trees is = nil_fits
  queries_fit (tree q qs) is = append_fits (query_bytes q) (queries_bytes qs) (query_fits q is.0) (queries_fit qs is.1)

term_fits : (t : Term) → IsOwnTerm t → AreBytes (term_bytes t)
term_fits t is = pair_fits t.field t.bytes is.field is.text

entry_fits : (e : Entry) → IsEntry e → AreBytes (entry_bytes e)
entry_fits add is = nil_fits
entry_fits (update t) is = term_fits t is
entry_fits (delete_term t) is = term_fits t is
entry_fits (delete_query q) is = query_fits q is.0
entry_fits (set_number t n v) is = append_fits (term_bytes t) (text_bytes n ++ signed64 v) (term_fits t is.0) (append_fits (text_bytes n) (signed64 v) (text_fits n is.1.utf8) (signed64_fits v))
entry_fits commit is = nil_fits
entry_fits turn is = nil_fits

-- words that spell an entry hold its kind and its bytes
pub spelled_held : (words : List ℕ) (e : Entry) → Spells words e → HoldsBytes words (kind_of e) (entry_bytes e)
spelled_held words e s = record { bytes_fit = entry_fits e s.fits; short = most_bytes e s.fits; spelled = s.spelled }
