-- The one spelling of a query in bytes.
use Rattle.std.specs.Prelude.{ℕ, ◌+◌, ◌<◌, ◌^◌, List, [], ◌∷◌, ◌++◌, FitsSigned}
use Rattle.std.specs.Int.{w64}
use Rattle.ix_base.specs.Spelling.{be32, signed64, text_bytes, IsText, IsName}
use Rattle.ix_base.specs.Tree.{Tree, all, term, phrase, range, bool, Trees, no_trees, tree}

-- how many queries stand in a list
abbrev pub count_of : Trees → ℕ
count_of no_trees = 0
count_of (tree q qs) = count_of qs + 1

-- A list is its count in four bytes, however long it is, and the bytes of its queries one after another.
abbrev mutual
  pub query_bytes : Tree → List ℕ
  query_bytes all = 0 ∷ []
  query_bytes (term field bytes) = 1 ∷ (text_bytes field ++ text_bytes bytes)
  query_bytes (phrase field text) = 2 ∷ (text_bytes field ++ text_bytes text)
  query_bytes (range name low high) = 4 ∷ (text_bytes name ++ (signed64 low ++ signed64 high))
  query_bytes (bool must should must_not) =
      3 ∷ ((be32 (count_of must) ++ queries_bytes must)
      ++ ((be32 (count_of should) ++ queries_bytes should)
      ++ (be32 (count_of must_not) ++ queries_bytes must_not)))

  pub queries_bytes : Trees → List ℕ
  queries_bytes no_trees = []
  queries_bytes (tree q qs) = query_bytes q ++ queries_bytes qs

abbrev pub list_bytes : Trees → List ℕ
list_bytes qs = be32 (count_of qs) ++ queries_bytes qs

-- The queries that have a spelling: fields are names, texts are texts, eight bytes hold each bound
-- and four bytes each count.
abbrev mutual
  pub IsQuery : Tree → Type 0
  IsQuery all = Unit {0}
  IsQuery (term field bytes) = IsName field × IsText bytes
  IsQuery (phrase field text) = IsName field × IsText text
  IsQuery (range name low high) = IsName name × (FitsSigned w64 low × FitsSigned w64 high)
  IsQuery (bool must should must_not) =
      ((count_of must < 2 ^ 32) × AreQueries must)
      × ((count_of should < 2 ^ 32) × AreQueries should)
      × ((count_of must_not < 2 ^ 32) × AreQueries must_not)

  pub AreQueries : Trees → Type 0
  AreQueries no_trees = Unit {0}
  AreQueries (tree q qs) = IsQuery q × AreQueries qs

abbrev pub IsQueryList : Trees → Type 0
IsQueryList qs = (count_of qs < 2 ^ 32) × AreQueries qs
