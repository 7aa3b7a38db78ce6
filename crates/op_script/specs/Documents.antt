-- Which document a value is, and which documents of a block.
use Rattle.std.specs.Prelude.{ℕ, ℤ, List, [], ◌∷◌, length, nat_lt, nat_le, Bool, ◌&&◌, if◌then◌else◌, codes, Option, Some, None, option_map, option_and_then}
use Rattle.std.specs.Option.{option_map_or}
use Rattle.serde_json.specs.Data.{Data, null, boolean, number, string, array, object, Items, no_items, item, Members, no_members, member}
use Rattle.serde_json.specs.Find.{get, as_str, as_array}
use Rattle.ix_base.specs.Limits.{is_name, names_are_apart}
use Rattle.ix_base.specs.Documents.{Document}
use Rattle.op_script.specs.Values.{member_names, names_of, has_only, whole_of}

abbrev pub named_text : List ℕ → Data → Option (List ℕ)
named_text name d = if is_name name then as_str d else None

-- the texts of the members by name, where each is a text under a name
abbrev pub texts_of : Members → Option (List (List ℕ × List ℕ))
texts_of no_members = Some []
texts_of (member name d ms) = option_and_then (λ text. option_map (λ rest. (name, text) ∷ rest) (texts_of ms)) (named_text name d)

abbrev pub named_number : List ℕ → Data → Option ℤ
named_number name d = if is_name name then whole_of d else None

-- the numbers of the members by name, where each is a number under a name
abbrev pub numbers_of : Members → Option (List (List ℕ × ℤ))
numbers_of no_members = Some []
numbers_of (member name d ms) = option_and_then (λ number. option_map (λ rest. (name, number) ∷ rest) (numbers_of ms)) (named_number name d)

-- a document has at most this many texts, as many exact texts and as many numbers
abbrev pub is_few : Members → Bool
is_few ms = nat_lt (length (names_of ms)) 65536

-- what f makes of an object of few members
abbrev pub few_by : {X : Type 0} → (Members → Option X) → Data → Option X
few_by f null = None
few_by f (boolean b) = None
few_by f (number n) = None
few_by f (string s) = None
few_by f (array ds) = None
few_by f (object ms) = if is_few ms then f ms else None

-- the texts of a member of the document, which may be absent
abbrev pub texts_at : List ℕ → Data → Option (List (List ℕ × List ℕ))
texts_at name d = option_map_or (few_by texts_of) (get name d) (Some [])

abbrev pub numbers_at : List ℕ → Data → Option (List (List ℕ × ℤ))
numbers_at name d = option_map_or (few_by numbers_of) (get name d) (Some [])

abbrev pub names_at : List ℕ → Data → List (List ℕ)
names_at name d = option_map_or member_names (get name d) []

abbrev pub are_apart : Data → Bool
are_apart d = names_are_apart (names_at (codes "text") d) (names_at (codes "exact") d)

-- the members that a document may have
abbrev pub document_names : List (List ℕ)
document_names = codes "key" ∷ codes "text" ∷ codes "exact" ∷ codes "num" ∷ []

abbrev pub document_from : Option (List ℕ) → Option (List (List ℕ × List ℕ))
    → Option (List (List ℕ × List ℕ)) → Option (List (List ℕ × ℤ)) → Option Document
document_from key text exact num =
    option_and_then (λ k. option_and_then (λ t. option_and_then (λ e. option_map (λ n. record { key = k; text = t; exact = e; num = n }) num) exact) text) key

-- the document that a value is
abbrev pub document_of : Data → Option Document
document_of d = if has_only document_names d && are_apart d
    then document_from (option_and_then as_str (get (codes "key") d)) (texts_at (codes "text") d) (texts_at (codes "exact") d) (numbers_at (codes "num") d)
    else None

-- the documents of a list, where each value is one
abbrev pub documents_of : Items → Option (List Document)
documents_of no_items = Some []
documents_of (item d ds) = option_and_then (λ doc. option_map (λ rest. doc ∷ rest) (documents_of ds)) (document_of d)

-- a block has 1 to 64 documents
abbrev pub block_by : List Document → Option (List Document)
block_by docs = if nat_le 1 (length docs) && nat_le (length docs) 64 then Some docs else None

-- the documents of the block that a value is
abbrev pub block_of : Data → Option (List Document)
block_of d = option_and_then block_by (option_and_then documents_of (as_array d))
