-- The terms of one field, sorted by their bytes.
use Rattle.std.proofs.Common.{◌≡◌, ℕ, zero, suc, ◌+◌, ◌<◌, List, [], ◌∷◌, Bool, true, false, map, length, get_or, refl, sym, ap, ◌∙◌, subst, arith}
use Rattle.std.specs.Prelude.{IsPermutation}
use Rattle.std.specs.List.{All, AllByRecursion, IsDistinct}
use Rattle.std.specs.List.Sorted.{IsSorted, IsSortedByKey}
use Rattle.std.specs.Map.{keys_of, values_of}
use Rattle.std.specs.Str.{bytes_eq}
use Rattle.std.specs.Cmp.Lexicographic.{slice_cmp}
use Rattle.std.specs.Ordering.{nat_cmp, is_lt}
use Rattle.std.proofs.lemmas.List.Elements.{recursion_from_All}
use Rattle.std.proofs.lemmas.List.Sorted.{IsPermutation-map, All-permutation}
use Rattle.std.proofs.lemmas.Map.Keys.{IsDistinct-IsPermutation}
use Rattle.std.proofs.lemmas.Slice.Eq.{bytes_eq-Decides}
use Rattle.ix_base.specs.declared.postings.Posting.{Posting}
use Rattle.ix_base.specs.declared.postings.TermPostings.{TermPostings}
use Rattle.analysis.specs.Kept.{WordLists, IsWordList, AreTermsOf}
use Rattle.analysis.proofs.MadeTerms.{made, terms_made}
use Rattle.analysis.proofs.WordPlaces.{shown}

abbrev own : List ℕ → List ℕ
own word = word

-- a term's word with its places
abbrev word_in : TermPostings → List ℕ × List Posting
word_in t = (t.term.bytes, t.rows)

module _ {K : Type 0} (name : K → List ℕ) (field : List ℕ) where
  words_in : (es : List (K × List Posting)) → map word_in (made name field es) ≡ shown name es
  words_in [] = refl
  words_in (e ∷ es) = ap (λ (l : List (List ℕ × List Posting)). (name e.0, e.1) ∷ l) (words_in es)

  all_named : (es : List (K × List Posting)) → All (λ (t : TermPostings). t.term.field ≡ field) (made name field es)
  all_named es k d lt = named es k d lt
    where
      named : (es : List (K × List Posting)) (k : ℕ) (d : TermPostings) → k < length (made name field es) → (get_or (made name field es) k d).term.field ≡ field
      named [] k d lt = absurd (omega arith)
      named (e ∷ es) zero d lt = refl
      named (e ∷ es) (suc k) d lt = named es k d (omega arith)

  values_shown : (es : List (K × List Posting)) → values_of (shown name es) ≡ values_of es
  values_shown [] = refl
  values_shown (e ∷ es) = ap (λ (l : List (List Posting)). e.1 ∷ l) (values_shown es)

  first_apart : (k : K) (es : List (K × List Posting)) → AllByRecursion (λ b. bytes_eq (name k) (name b) ≡ false) (keys_of es) → AllByRecursion (λ w. bytes_eq (name k) w ≡ false) (keys_of (shown name es))
  first_apart k [] h = tt
  first_apart k (e ∷ es) h = (h.0, first_apart k es h.1)

  words_apart : (es : List (K × List Posting)) → IsDistinct (λ a b. bytes_eq (name a) (name b)) (keys_of es) → IsDistinct bytes_eq (keys_of (shown name es))
  unfolding IsDistinct
  words_apart [] h = tt
  words_apart (e ∷ es) h = (first_apart e.0 es h.0, words_apart es h.1)

shown_own : (es : List (List ℕ × List Posting)) → shown own es ≡ es
shown_own [] = refl
shown_own (e ∷ es) = ap (λ (l : List (List ℕ × List Posting)). e ∷ l) (shown_own es)

-- terms of the field are made of their words
made_own : (field : List ℕ) (ts : List TermPostings) → AllByRecursion (λ (t : TermPostings). t.term.field ≡ field) ts → made own field (map word_in ts) ≡ ts
made_own field [] h = refl
made_own field (t ∷ ts) h = λ i. record { term = record { field = sym h.0 i; bytes = t.term.bytes }; rows = t.rows } ∷ made_own field ts h.1 i

flips : (a b : List ℕ) → bytes_eq a b ≡ bytes_eq b a
flips a b = go (bytes_eq a b) (bytes_eq b a) refl refl
  where
    go : (p q : Bool) → bytes_eq a b ≡ p → bytes_eq b a ≡ q → p ≡ q
    go true true e f = refl
    go false false e f = refl
    go true false e f = sym ((bytes_eq-Decides b a).1 (sym ((bytes_eq-Decides a b).0 e))) ∙ f
    go false true e f = sym e ∙ (bytes_eq-Decides a b).1 (sym ((bytes_eq-Decides b a).0 f))

word_at : (ts : List TermPostings) (k : ℕ) (d : TermPostings) → get_or (keys_of (map word_in ts)) k d.term.bytes ≡ (get_or ts k d).term.bytes
word_at [] k d = refl
word_at (t ∷ ts) zero d = refl
word_at (t ∷ ts) (suc k) d = word_at ts k d

length_words : (ts : List TermPostings) → length (keys_of (map word_in ts)) ≡ length ts
length_words [] = refl
length_words (t ∷ ts) = ap suc (length_words ts)

words_sorted : (ts : List TermPostings) → IsSortedByKey (λ t. t.term.bytes) (slice_cmp nat_cmp) ts → IsSorted (slice_cmp nat_cmp) (keys_of (map word_in ts))
words_sorted ts up k d low lt =
    let t : TermPostings = record { term = record { field = []; bytes = d }; rows = [] } in
    (λ i. is_lt (slice_cmp nat_cmp (word_at ts (k + 1) t i) (word_at ts k t i))) ∙ up k t low (omega (arith, length_words ts))

-- the words in order, as terms
pub terms_sorted : {K : Type 0} (name : K → List ℕ) (field : List ℕ) (old : List (K × List Posting)) (sorted : List TermPostings)
    → All IsWordList (values_of old) → IsDistinct (λ a b. bytes_eq (name a) (name b)) (keys_of old) → IsPermutation (made name field old) sorted
    → IsSortedByKey (λ t. t.term.bytes) (slice_cmp nat_cmp) sorted → AreTermsOf field (shown name old) sorted
terms_sorted name field old sorted lists apart same up =
    let words : IsPermutation (shown name old) (map word_in sorted) = subst (λ (l : List (List ℕ × List Posting)). IsPermutation l (map word_in sorted)) (words_in name field old) (IsPermutation-map word_in (made name field old) sorted same) in
    let differ : IsDistinct bytes_eq (keys_of (map word_in sorted)) =
    IsDistinct-IsPermutation bytes_eq flips (keys_of (shown name old)) (keys_of (map word_in sorted)) (IsPermutation-map (λ (e : List ℕ × List Posting). e.0) (shown name old) (map word_in sorted) words) (words_apart name field old apart) in
    let named = recursion_from_All (λ (t : TermPostings). t.term.field ≡ field) sorted (All-permutation (λ (t : TermPostings). t.term.field ≡ field) (made name field old) sorted same (all_named name field old)) in
    let all : AreTermsOf field (shown own (shown name old)) (made own field (map word_in sorted)) =
    terms_made own field (shown name old) (map word_in sorted) (subst (All IsWordList) (sym (values_shown name field old)) lists) words (words_sorted sorted up) differ in
    subst (λ (l : WordLists). AreTermsOf field l sorted) (shown_own (shown name old)) (subst (λ (ts : List TermPostings). AreTermsOf field (shown own (shown name old)) ts) (made_own field sorted named) all)
