-- The documents of a block.
use Rattle.std.proofs.Common.{◌≡◌, ℕ, ◌<◌, ◌≤◌, suc, List, [], ◌∷◌, ◌++◌, length, true, false, Option, Some, None, is_some, option_map, option_and_then, refl, ap, arith, append_assoc}
use Rattle.std.proofs.lemmas.Bool.{le-leb, lt-leb}
use Rattle.serde_json.specs.Data.{Data, Items, item}
use Rattle.serde_json.specs.View.{view, items_view}
use Rattle.serde_json.specs.declared.value.Value.{Value}
use Rattle.ix_base.specs.Documents.{Document}
use Rattle.op_script.specs.Documents.{document_of, documents_of, block_by}

first : (doc : Option Document) (left : Option (List Document)) → is_some (option_and_then (λ doc. option_map (λ rest. doc ∷ rest) left) doc) ≡ true → is_some doc ≡ true
first None left is = is
first (Some doc) left is = refl

-- the first value of a list of documents is one
pub first_document : (d : Data) (ds : Items) → is_some (documents_of (item d ds)) ≡ true → is_some (document_of d) ≡ true
first_document d ds is = first (document_of d) (documents_of ds) is

-- a list whose first value is no document is none of documents
pub no_documents : (d : Data) (ds : Items) → is_some (document_of d) ≡ false → is_some (documents_of (item d ds)) ≡ false
no_documents d ds is = none (document_of d) (documents_of ds) is
  where
    none : (doc : Option Document) (left : Option (List Document)) → is_some doc ≡ false → is_some (option_and_then (λ doc. option_map (λ rest. doc ∷ rest) left) doc) ≡ false
    none None left is = refl
    none (Some doc) left is = cc

-- a document before documents
pub one_document : (d : Data) (ds : Items) → is_some (document_of d) ≡ true → is_some (documents_of (item d ds)) ≡ is_some (documents_of ds)
one_document d ds is = both (document_of d) (documents_of ds) is
  where
    both : (doc : Option Document) (left : Option (List Document)) → is_some doc ≡ true → is_some (option_and_then (λ doc. option_map (λ rest. doc ∷ rest) left) doc) ≡ is_some left
    both None left is = cc
    both (Some doc) None is = refl
    both (Some doc) (Some rest) is = refl

moved : (done : List Document) (doc : Document) (left : Option (List Document))
    → option_map (λ rest. (done ++ doc ∷ []) ++ rest) left ≡ option_map (λ rest. done ++ rest) (option_map (λ rest. doc ∷ rest) left)
moved done doc None = refl
moved done doc (Some rest) = ap Some (append_assoc done (doc ∷ []) rest)

-- one more document
pub documents_more : (done : List Document) (doc : Document) (d : Data) (ds : Items) → document_of d ≡ Some doc
    → option_map (λ rest. (done ++ doc ∷ []) ++ rest) (documents_of ds) ≡ option_map (λ rest. done ++ rest) (documents_of (item d ds))
documents_more done doc d ds is = rw is (moved done doc (documents_of ds))

pub is_some-onto : (done : List Document) (left : Option (List Document)) → is_some (option_map (λ rest. done ++ rest) left) ≡ is_some left
is_some-onto done None = refl
is_some-onto done (Some rest) = refl

longer : (doc : Option Document) (left : Option (List Document)) (docs : List Document) (count : ℕ) → ((rest : List Document) → left ≡ Some rest → length rest ≡ count)
    → option_and_then (λ doc. option_map (λ rest. doc ∷ rest) left) doc ≡ Some docs → length docs ≡ suc count
longer None left docs count few is = cc
longer (Some doc) None docs count few is = cc
longer (Some doc) (Some rest) docs count few is =
    let same : docs ≡ doc ∷ rest = cc in
    rw same (ap suc (few rest refl))

-- as many documents as values
pub length-documents : (vs : List Value) (docs : List Document) → documents_of (items_view vs) ≡ Some docs → length docs ≡ length vs
length-documents [] docs is = let same : docs ≡ [] = cc in rw same refl
length-documents (v ∷ vs) docs is = longer (document_of (view v)) (documents_of (items_view vs)) docs (length vs) (length-documents vs) is

-- values of which each is a document are a block where there are 1 to 64
pub block_some : (vs : List Value) → 1 ≤ length vs → length vs ≤ 64 → is_some (option_and_then block_by (documents_of (items_view vs))) ≡ is_some (documents_of (items_view vs))
block_some vs some few = go (documents_of (items_view vs)) (length-documents vs)
  where
    go : (found : Option (List Document)) → ((docs : List Document) → found ≡ Some docs → length docs ≡ length vs) → is_some (option_and_then block_by found) ≡ is_some found
    go None count = refl
    go (Some docs) count =
        let one : 1 ≤ length docs = omega (arith, count docs refl) in
        let most : length docs ≤ 64 = omega (arith, count docs refl) in
        rw (le-leb 1 (length docs) one, le-leb (length docs) 64 most) refl

-- none and more than 64 are no block
pub block_none : (vs : List Value) → (1 ≤ length vs → length vs ≤ 64 → ⊥) → option_and_then block_by (documents_of (items_view vs)) ≡ None
block_none vs other = go (documents_of (items_view vs)) (length-documents vs)
  where
    go : (found : Option (List Document)) → ((docs : List Document) → found ≡ Some docs → length docs ≡ length vs) → option_and_then block_by found ≡ None
    go None count = refl
    go (Some []) count = refl
    go (Some (doc ∷ docs)) count =
        let many : 64 < length (doc ∷ docs) = omega (arith, count (doc ∷ docs) refl, other) in
        let some : 1 ≤ length (doc ∷ docs) = omega arith in
        rw (le-leb 1 (length (doc ∷ docs)) some, lt-leb (length (doc ∷ docs)) 64 many) refl
