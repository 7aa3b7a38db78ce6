-- Which query a value is.
use Rattle.std.specs.Prelude.{ℕ, ℤ, List, [], ◌∷◌, if◌then◌else◌, codes, Option, Some, None, option_map, option_and_then}
use Rattle.std.specs.Str.{bytes_eq}
use Rattle.serde_json.specs.Data.{Data, null, boolean, number, string, array, object, Items, no_items, item, Members, no_members, member}
use Rattle.ix_base.specs.Limits.{is_name}
use Rattle.ix_base.specs.Query.{tree_of}
use Rattle.ix_base.specs.Tree.{Trees, no_trees, tree}
use Rattle.ix_base.specs.declared.query.Query.{Query}
use Rattle.ix_base.specs.declared.query.Query.TheVariants as query
use Rattle.op_script.specs.Values.{text_pair, range_parts, has_only}

-- the first text is the name of the field
abbrev pub term_by : List ℕ × List ℕ → Option Query
term_by pair = if is_name pair.0 then Some (query.Term (record { field = pair.0; bytes = pair.1 })) else None

abbrev pub phrase_by : List ℕ × List ℕ → Option Query
phrase_by pair = if is_name pair.0 then Some (query.Phrase pair.0 pair.1) else None

-- the text is the name of the number, and the two numbers are its bounds
abbrev pub range_by : List ℕ × (ℤ × ℤ) → Option Query
range_by parts = if is_name parts.0 then Some (query.Range parts.0 parts.1.0 parts.1.1) else None

-- a query that holds no other
abbrev pub leaf_query : List ℕ → Data → Option Query
leaf_query name d = if bytes_eq name (codes "term") then option_and_then term_by (text_pair d)
    else (if bytes_eq name (codes "phrase") then option_and_then phrase_by (text_pair d)
    else (if bytes_eq name (codes "range") then option_and_then range_by (range_parts d) else None))

-- the members that a bool query may have
abbrev pub bool_names : List (List ℕ)
bool_names = codes "must" ∷ codes "should" ∷ codes "not" ∷ []

abbrev pub bool_from : Option Trees → Option Trees → Option Trees → Option Query
bool_from must should must_not = option_and_then (λ a. option_and_then (λ b. option_map (λ c. query.Bool a b c) must_not) should) must

abbrev mutual
  -- the text "all", or an object with one member
  pub query_of : Data → Option Query
  query_of null = None
  query_of (boolean b) = None
  query_of (number n) = None
  query_of (string s) = if bytes_eq s (codes "all") then Some query.All else None
  query_of (array ds) = None
  query_of (object ms) = member_query ms

  pub member_query : Members → Option Query
  member_query no_members = None
  member_query (member name d no_members) = if bytes_eq name (codes "bool") then bool_query d else leaf_query name d
  member_query (member name d (member l e ms)) = None

  pub bool_query : Data → Option Query
  bool_query null = None
  bool_query (boolean b) = None
  bool_query (number n) = None
  bool_query (string s) = None
  bool_query (array ds) = None
  bool_query (object ms) = if has_only bool_names (object ms)
      then bool_from (queries_at (codes "must") ms) (queries_at (codes "should") ms) (queries_at (codes "not") ms)
      else None

  -- the list of queries at a member, which may be absent
  pub queries_at : List ℕ → Members → Option Trees
  queries_at name no_members = Some no_trees
  queries_at name (member l d ms) = if bytes_eq l name then list_query d else queries_at name ms

  pub list_query : Data → Option Trees
  list_query null = None
  list_query (boolean b) = None
  list_query (number n) = None
  list_query (string s) = None
  list_query (array ds) = queries_of ds
  list_query (object ms) = None

  pub queries_of : Items → Option Trees
  queries_of no_items = Some no_trees
  queries_of (item d ds) = option_and_then (λ q. option_map (tree (tree_of q)) (queries_of ds)) (query_of d)
