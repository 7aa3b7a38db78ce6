-- JSON values and the members of objects.
use Rattle.std.specs.Prelude.{ℕ, ℤ, List, [], ◌∷◌, Bool, ◌&&◌, if◌then◌else◌, Option, None, option_map, option_and_then}
use Rattle.std.specs.List.{list_all}
use Rattle.std.specs.Str.{is_utf8}
use Rattle.serde_json.specs.Data.{Data, null, boolean, number, string, array, object, Items, no_items, item, Members, no_members, member}
use Rattle.serde_json.specs.Find.{as_str, as_array, as_number, as_i64}
use Rattle.serde_json.specs.Read.{read}
use Rattle.ix_base.specs.Limits.{is_among}

-- the JSON value that the bytes are: a text, nested at most 127 deep
abbrev pub value_of : List ℕ → Option Data
value_of bytes = if is_utf8 bytes then read bytes else None

abbrev pub names_of : Members → List (List ℕ)
names_of no_members = []
names_of (member name d ms) = name ∷ names_of ms

-- the names of an object's members; another value has none
abbrev pub member_names : Data → List (List ℕ)
member_names null = []
member_names (boolean b) = []
member_names (number n) = []
member_names (string s) = []
member_names (array ds) = []
member_names (object ms) = names_of ms

-- each member has one of these names
abbrev pub has_only : List (List ℕ) → Data → Bool
has_only names d = list_all (is_among names) (member_names d)

-- the members are those of these names, no more and no fewer
abbrev pub has_exactly : List (List ℕ) → Data → Bool
has_exactly names d = list_all (is_among (member_names d)) names && has_only names d

abbrev pub pair_in : Items → Option (List ℕ × List ℕ)
pair_in no_items = None
pair_in (item d no_items) = None
pair_in (item d (item e no_items)) = option_and_then (λ a. option_map (λ b. (a, b)) (as_str e)) (as_str d)
pair_in (item d (item e (item f ds))) = None

-- the texts of an array of two texts
abbrev pub text_pair : Data → Option (List ℕ × List ℕ)
text_pair null = None
text_pair (boolean b) = None
text_pair (number n) = None
text_pair (string s) = None
text_pair (array ds) = pair_in ds
text_pair (object ms) = None

-- a number that fits an i64
abbrev pub whole_of : Data → Option ℤ
whole_of d = option_and_then as_i64 (as_number d)

abbrev pub bounds_in : Items → Option (List ℕ × (ℤ × ℤ))
bounds_in no_items = None
bounds_in (item d no_items) = None
bounds_in (item d (item e no_items)) = None
bounds_in (item d (item e (item f no_items))) = option_and_then (λ name. option_and_then (λ low. option_map (λ high. (name, (low, high))) (whole_of f)) (whole_of e)) (as_str d)
bounds_in (item d (item e (item f (item g ds)))) = None

-- the text and the two numbers of an array of a text and two numbers
abbrev pub range_parts : Data → Option (List ℕ × (ℤ × ℤ))
range_parts d = option_and_then bounds_in (as_array d)
