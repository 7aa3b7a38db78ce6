-- The callers of a made script work apart.
use Rattle.std.proofs.Common.{◌≡◌, ◌⊎◌, ◌∙◌, ℕ, ◌+◌, ◌<◌, ◌/◌, ◌%◌, Bool, true, false, cond, eqb, nat_lt, ◌&&◌, ◌||◌, List, [], ◌∷◌, ◌++◌, codes, pos, not, append-nil, refl, sym, ap, subst, inl, inr}
use Rattle.std.proofs.lemmas.Bool.{and_parts, or_cases}
use Rattle.std.proofs.lemmas.Slice.Eq.{bytes_eq-Decides}
use Rattle.std.specs.Fmt.{decimal}
use Rattle.std.specs.List.{list_any}
use Rattle.std.specs.Str.{bytes_eq}
use Rattle.ix_base.specs.Documents.{Document}
use Rattle.ix_base.specs.Matches.{is_term, matches, holds_term}
use Rattle.ix_base.specs.Query.{tree_of}
use Rattle.ix_base.specs.Steps.{Named}
use Rattle.ix_base.specs.Terms.{placed_from, folded_words}
use Rattle.ix_base.specs.declared.document.Operation.{Operation}
use Rattle.ix_base.specs.declared.document.Operation.TheVariants.{Add, Update, DeleteTerm, DeleteQuery, SetNumber, Commit}
use Rattle.script_maker.specs.Operations.{document_of, key_of, tag_of, body_of, key_term, tag_term, query_of, operation_by, drawn_operation}
use Rattle.made_runs.specs.Apart.{KeepsTo}
use Rattle.made_runs.specs.Own.{IsOwn}
use Rattle.made_runs.proofs.Digits.{numbers_apart}

-- ---- the terms of a document of one text and one exact field

-- words of another field are not the term
none_placed : (field bytes other : List ℕ) (at : ℕ) (words : List (List ℕ)) → bytes_eq other field ≡ false
    → list_any (is_term field bytes) (placed_from at other words) ≡ false
none_placed field bytes other at [] e = refl
none_placed field bytes other at (word ∷ words) e =
    ap (λ (b : Bool). (b && bytes_eq word bytes) || list_any (is_term field bytes) (placed_from (at + 1) other words)) e
    ∙ none_placed field bytes other (at + 1) words e

-- a document of this key, with one text field `body` and one exact field `tag`
abbrev of_parts : List ℕ → List ℕ → List ℕ → List Named → Document
of_parts key tag body num = record {
  key = key;
  text = (codes "body", body) ∷ [];
  exact = (codes "tag", tag) ∷ [];
  num = num;
}

no_word : (field bytes : List ℕ) (words : List (List ℕ)) → bytes_eq (codes "body") field ≡ false
    → list_any (is_term field bytes) (placed_from 0 (codes "body") words ++ []) ≡ false
no_word field bytes words e =
    ap (list_any (is_term field bytes)) (append-nil (placed_from 0 (codes "body") words))
    ∙ none_placed field bytes (codes "body") 0 words e

holds_key : (bytes key tag body : List ℕ) (num : List Named)
    → holds_term (codes "key") bytes (of_parts key tag body num) ≡ true → key ≡ bytes
holds_key bytes key tag body num holds =
    by (or_cases (bytes_eq key bytes) (list_any (is_term (codes "key") bytes) (placed_from 0 (codes "body") (folded_words body) ++ [])) holds)
  where
    by : (bytes_eq key bytes ≡ true) ⊎ (list_any (is_term (codes "key") bytes) (placed_from 0 (codes "body") (folded_words body) ++ []) ≡ true)
        → key ≡ bytes
    by (inl same) = (bytes_eq-Decides key bytes).0 same
    by (inr word) =
        absurd (let both : false ≡ true = sym (no_word (codes "key") bytes (folded_words body) refl) ∙ word in cc)

holds_tag : (bytes key tag body : List ℕ) (num : List Named)
    → holds_term (codes "tag") bytes (of_parts key tag body num) ≡ true → tag ≡ bytes
holds_tag bytes key tag body num holds =
    by (or_cases (bytes_eq tag bytes) (list_any (is_term (codes "tag") bytes) (placed_from 0 (codes "body") (folded_words body) ++ [])) holds)
  where
    by : (bytes_eq tag bytes ≡ true) ⊎ (list_any (is_term (codes "tag") bytes) (placed_from 0 (codes "body") (folded_words body) ++ []) ≡ true)
        → tag ≡ bytes
    by (inl same) = (bytes_eq-Decides tag bytes).0 same
    by (inr word) =
        absurd (let both : false ≡ true = sym (no_word (codes "tag") bytes (folded_words body) refl) ∙ word in cc)

-- ---- the terms of a caller

keys_apart : (caller other : ℕ) (n m : ℕ) → caller < 256 → other < 256 → key_of other m ≡ key_of caller n → other ≡ caller
keys_apart caller other n m small least e = numbers_apart 107 other caller (decimal (m % 16)) (decimal (n % 16)) least small e

tags_apart : (caller other : ℕ) (n m : ℕ) → caller < 256 → other < 256 → tag_of other m ≡ tag_of caller n → other ≡ caller
tags_apart caller other n m small least e = numbers_apart 116 other caller (decimal (m % 4)) (decimal (n % 4)) least small e

own_key : (caller n other : ℕ) (doc : Document) → caller < 256 → IsOwn other doc
    → holds_term (codes "key") (key_of caller n) doc ≡ true → other ≡ caller
own_key caller n other doc small own holds =
    keys_apart caller other n own.number small own.in_range
    (holds_key (key_of caller n) (key_of other own.number) (tag_of other own.number) (body_of own.number) doc.num
    (subst (λ (d : Document). holds_term (codes "key") (key_of caller n) d ≡ true) own.is holds))

own_tag : (caller n other : ℕ) (doc : Document) → caller < 256 → IsOwn other doc
    → holds_term (codes "tag") (tag_of caller n) doc ≡ true → other ≡ caller
own_tag caller n other doc small own holds =
    tags_apart caller other n own.number small own.in_range
    (holds_tag (tag_of caller n) (key_of other own.number) (tag_of other own.number) (body_of own.number) doc.num
    (subst (λ (d : Document). holds_term (codes "tag") (tag_of caller n) d ≡ true) own.is holds))

own_query : (caller n other : ℕ) (doc : Document) → caller < 256 → IsOwn other doc
    → matches (tree_of (query_of caller n)) doc ≡ true → other ≡ caller
own_query caller n other doc small own matched =
    let must = (and_parts (holds_term (codes "tag") (tag_of caller n) doc && true)
    (not (holds_term (codes "key") (key_of caller n) doc || false)) matched).0 in
    own_tag caller n other doc small own (and_parts (holds_term (codes "tag") (tag_of caller n) doc) true must).0

-- ---- the operations of a made script

-- what is true of each kind of operation that a caller does is true of the one that it draws
pub each_kind : (P : Operation → Type 0) (kind caller number : ℕ) → P (Add (document_of caller number))
    → P (Update (key_term caller number) (document_of caller number))
    → P (DeleteTerm (tag_term caller number)) → P (SetNumber (tag_term caller number) (codes "n") (pos number))
    → P (DeleteQuery (query_of caller number)) → P (operation_by kind caller number)
each_kind P kind caller number adds updates deletes sets queries =
    by (nat_lt kind 4) (eqb kind 4) (eqb kind 5) (eqb kind 6)
  where
    by : (a b c d : Bool) → P (cond a (Add (document_of caller number))
        (cond b (Update (key_term caller number) (document_of caller number))
        (cond c (DeleteTerm (tag_term caller number))
        (cond d (SetNumber (tag_term caller number) (codes "n") (pos number)) (DeleteQuery (query_of caller number))))))
    by true b c d = adds
    by false true c d = updates
    by false false true d = deletes
    by false false false true = sets
    by false false false false = queries

new_is_own : (caller number : ℕ) → caller < 256 → IsOwn caller (document_of caller number)
new_is_own caller number small = record { number = number; in_range = small; is = refl }

pub drawn_keeps : (caller draw : ℕ) → caller < 256 → KeepsTo IsOwn caller (drawn_operation caller draw)
unfolding drawn_operation
drawn_keeps caller draw small =
    each_kind (KeepsTo IsOwn caller) (draw % 8) caller (draw / 8)
    (record { adds = new_is_own caller (draw / 8) small; touched = λ other doc own e. absurd cc })
    (record { adds = new_is_own caller (draw / 8) small; touched = λ other doc own e. own_key caller (draw / 8) other doc small own e })
    (record { adds = tt; touched = λ other doc own e. own_tag caller (draw / 8) other doc small own e })
    (record { adds = tt; touched = λ other doc own e. own_tag caller (draw / 8) other doc small own e })
    (record { adds = tt; touched = λ other doc own e. own_query caller (draw / 8) other doc small own e })

pub commit_keeps : (caller : ℕ) → KeepsTo IsOwn caller (Commit [])
commit_keeps caller = record { adds = tt; touched = λ other doc own e. absurd cc }

pub own_stays : (caller : ℕ) (doc : Document) (numbers : List Named) → IsOwn caller doc → IsOwn caller (record doc { num = numbers })
own_stays caller doc numbers own = record {
  number = own.number;
  in_range = own.in_range;
  is = ap (λ (d : Document). record d { num = numbers }) own.is;
}
