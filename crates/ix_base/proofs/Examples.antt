-- Operations and queries that are written out.
use Rattle.std.proofs.Common.{◌≡◌, ℕ, pos, negsuc, List, [], ◌∷◌, true, false, codes, refl}
use Rattle.unicode_segmentation.proofs.Computing.{unicode_segmentation}
use Rattle.caseless.proofs.Computing.{caseless}
use Rattle.ix_base.specs.Terms.{Place, terms}
use Rattle.ix_base.specs.Tree.{all, term, phrase, range, bool, no_trees, tree}
use Rattle.ix_base.specs.Matches.{matches}
use Rattle.ix_base.specs.Births.{birth_of, row_born}
use Rattle.ix_base.specs.Steps.{Named, after}
use Rattle.ix_base.specs.Documents.{Document}
use Rattle.ix_base.specs.declared.document.Term.{Term}
use Rattle.ix_base.specs.declared.document.Row.{Row}
use Rattle.ix_base.specs.declared.document.Operation.TheVariants.{Add, AddBlock, Update, UpdateBlock, DeleteTerm, DeleteQuery, SetNumber, Commit}
use Rattle.ix_base.specs.declared.query.Query.TheVariants as query

-- a document with a key and nothing else
abbrev of_key : List ℕ → Document
of_key key = record { key = key; text = []; exact = []; num = [] }

-- a document with one word in its field `tag`
abbrev tagged : List ℕ → List ℕ → List Named → Document
tagged key tag num = record { key = key; text = []; exact = (codes "tag", tag) ∷ []; num = num }

-- a document with one text
abbrev with_body : List ℕ → Document
with_body body = record { key = codes "a1"; text = (codes "body", body) ∷ []; exact = []; num = [] }

abbrev row_of : ℕ → Document → Row
row_of number doc = row_born number doc

abbrev key_term : List ℕ → Term
key_term key = record { field = codes "key"; bytes = key }

abbrev tag_term : List ℕ → Term
tag_term tag = record { field = codes "tag"; bytes = tag }

abbrev place_of : List ℕ → List ℕ → ℕ → Place
place_of field bytes position = record { field = field; bytes = bytes; position = position }

-- ---- what a document is found by

terms_in_order : terms (record { key = codes "A1"; text = (codes "body", codes "To be, or 3.5!") ∷ []; exact = (codes "tag", codes "X y") ∷ []; num = [] })
    ≡ place_of (codes "key") (codes "A1") 0 ∷ place_of (codes "tag") (codes "X y") 0 ∷ place_of (codes "body") (codes "to") 0 ∷ place_of (codes "body") (codes "be") 1
    ∷ place_of (codes "body") (codes "or") 2 ∷ place_of (codes "body") (codes "3.5") 3 ∷ []
unfolding unicode_segmentation caseless
terms_in_order = refl

-- ---- what operations do

add_and_delete : after [] 0 (Add (of_key (codes "a1")) ∷ Add (of_key (codes "a2")) ∷ DeleteTerm (key_term (codes "a1")) ∷ Commit [] ∷ []) ≡ row_of 2 (of_key (codes "a2")) ∷ []
unfolding unicode_segmentation caseless
add_and_delete = refl

delete_takes_each_row : after [] 0 (Add (of_key (codes "a1")) ∷ Add (of_key (codes "a1")) ∷ DeleteTerm (key_term (codes "a1")) ∷ []) ≡ []
unfolding unicode_segmentation caseless
delete_takes_each_row = refl

delete_before_add : after [] 0 (DeleteTerm (key_term (codes "a1")) ∷ Add (of_key (codes "a1")) ∷ []) ≡ row_of 2 (of_key (codes "a1")) ∷ []
unfolding unicode_segmentation caseless
delete_before_add = refl

-- the row's birth is the number of the update, which goes on from the number before
update_replaces : after [] 7 (Add (of_key (codes "a1")) ∷ Update (key_term (codes "a1")) (tagged (codes "a1") (codes "x") []) ∷ []) ≡ row_of 9 (tagged (codes "a1") (codes "x") []) ∷ []
unfolding unicode_segmentation caseless
update_replaces = refl

last_number_counts : after [] 0 (Add (tagged (codes "a1") (codes "x") []) ∷ SetNumber (tag_term (codes "x")) (codes "price") (pos 5) ∷ SetNumber (key_term (codes "a1")) (codes "price") (pos 7) ∷ [])
    ≡ row_of 1 (tagged (codes "a1") (codes "x") ((codes "price", pos 7) ∷ [])) ∷ []
unfolding unicode_segmentation caseless
last_number_counts = refl

-- numbers stay in order of their names, and only rows that hold the term get one
numbers_by_name : after [] 0 (Add (tagged (codes "a1") (codes "x") ((codes "b", pos 1) ∷ [])) ∷ Add (of_key (codes "a2")) ∷ SetNumber (tag_term (codes "x")) (codes "a") (negsuc 3) ∷ SetNumber (tag_term (codes "x")) (codes "c") (pos 2) ∷ [])
    ≡ row_of 1 (tagged (codes "a1") (codes "x") ((codes "a", negsuc 3) ∷ (codes "b", pos 1) ∷ (codes "c", pos 2) ∷ [])) ∷ row_of 2 (of_key (codes "a2")) ∷ []
unfolding unicode_segmentation caseless
numbers_by_name = refl

delete_by_query : after [] 0 (Add (with_body (codes "quick brown fox")) ∷ Add (with_body (codes "Quick FOX")) ∷ DeleteQuery (query.Phrase (codes "body") (codes "brown fox")) ∷ []) ≡ row_of 2 (with_body (codes "Quick FOX")) ∷ []
unfolding unicode_segmentation caseless
delete_by_query = refl

-- ---- what queries match

phrase_stands : matches (phrase (codes "body") (codes "quick fox")) (with_body (codes "Quick FOX")) ≡ true
unfolding unicode_segmentation caseless
phrase_stands = refl

phrase_with_a_gap : matches (phrase (codes "body") (codes "quick fox")) (with_body (codes "quick brown fox")) ≡ false
unfolding unicode_segmentation caseless
phrase_with_a_gap = refl

phrase_without_words : matches (phrase (codes "body") (codes " ")) (with_body (codes "quick brown fox")) ≡ false
unfolding unicode_segmentation caseless
phrase_without_words = refl

lone_not : matches (bool no_trees no_trees (tree (term (codes "key") (codes "zz")) no_trees)) (of_key (codes "a1")) ≡ false
unfolding unicode_segmentation caseless
lone_not = refl

all_but_some : matches (bool (tree all no_trees) no_trees (tree (term (codes "key") (codes "zz")) no_trees)) (of_key (codes "a1")) ≡ true
unfolding unicode_segmentation caseless
all_but_some = refl

should_counts_without_must : matches (bool no_trees (tree (term (codes "key") (codes "zz")) (tree (term (codes "key") (codes "a1")) no_trees)) no_trees) (of_key (codes "a1")) ≡ true
unfolding unicode_segmentation caseless
should_counts_without_must = refl

should_is_free_beside_must : matches (bool (tree all no_trees) (tree (term (codes "key") (codes "zz")) no_trees) no_trees) (of_key (codes "a1")) ≡ true
unfolding unicode_segmentation caseless
should_is_free_beside_must = refl

-- `Straße` in UTF-8
abbrev street : List ℕ
street = 83 ∷ 116 ∷ 114 ∷ 97 ∷ 195 ∷ 159 ∷ 101 ∷ []

term_is_folded : matches (term (codes "body") (codes "strasse")) (with_body street) ≡ true
unfolding unicode_segmentation caseless
term_is_folded = refl

term_as_written : matches (term (codes "body") street) (with_body street) ≡ false
unfolding unicode_segmentation caseless
term_as_written = refl

phrase_is_folded : matches (phrase (codes "body") street) (with_body (codes "STRASSE")) ≡ true
unfolding unicode_segmentation caseless
phrase_is_folded = refl

exact_is_not_folded : matches (term (codes "tag") (codes "x")) (tagged (codes "a1") (codes "X") []) ≡ false
unfolding unicode_segmentation caseless
exact_is_not_folded = refl

-- both bounds are in a range
range_has_its_bounds : matches (range (codes "price") (negsuc 1) (pos 5)) (tagged (codes "a1") (codes "x") ((codes "price", pos 5) ∷ [])) ≡ true
unfolding unicode_segmentation caseless
range_has_its_bounds = refl

range_is_of_one_name : matches (range (codes "price") (negsuc 1) (pos 5)) (tagged (codes "a1") (codes "x") ((codes "rank", pos 5) ∷ [])) ≡ false
unfolding unicode_segmentation caseless
range_is_of_one_name = refl

range_the_wrong_way_round : matches (range (codes "price") (pos 6) (pos 5)) (tagged (codes "a1") (codes "x") ((codes "price", pos 5) ∷ [])) ≡ false
unfolding unicode_segmentation caseless
range_the_wrong_way_round = refl

-- a delete by a range reads the number that stands when it comes
set_before_a_range : after [] 0 (Add (tagged (codes "a1") (codes "x") ((codes "price", pos 5) ∷ [])) ∷ SetNumber (key_term (codes "a1")) (codes "price") (pos 9) ∷ DeleteQuery (query.Range (codes "price") (pos 5) (pos 5)) ∷ [])
    ≡ row_of 1 (tagged (codes "a1") (codes "x") ((codes "price", pos 9) ∷ [])) ∷ []
unfolding unicode_segmentation caseless
set_before_a_range = refl

-- ---- blocks

block_in_order : after [] 0 (AddBlock (of_key (codes "p1") ∷ of_key (codes "p2") ∷ []) ∷ []) ≡ record { birth = birth_of 1 0; doc = of_key (codes "p1") } ∷ record { birth = birth_of 1 1; doc = of_key (codes "p2") } ∷ []
unfolding unicode_segmentation caseless
block_in_order = refl

block_replaces : after [] 0 (AddBlock (of_key (codes "p1") ∷ of_key (codes "p2") ∷ []) ∷ UpdateBlock (key_term (codes "p1")) (of_key (codes "p1") ∷ []) ∷ [])
    ≡ record { birth = birth_of 1 1; doc = of_key (codes "p2") } ∷ record { birth = birth_of 2 0; doc = of_key (codes "p1") } ∷ []
unfolding unicode_segmentation caseless
block_replaces = refl
