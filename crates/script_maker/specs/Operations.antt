-- Which operations a made script has.
use Rattle.std.specs.Prelude.{ℕ, ◌/◌, ◌%◌, ◌==◌, List, [], ◌∷◌, ◌++◌, codes, nat_lt, if◌then◌else◌, pos}
use Rattle.std.specs.Fmt.{decimal}
use Rattle.ix_base.specs.Documents.{Document}
use Rattle.ix_base.specs.Tree.{no_trees, tree, term}
use Rattle.ix_base.specs.declared.document.Term.{Term}
use Rattle.ix_base.specs.declared.document.Operation.{Operation}
use Rattle.ix_base.specs.declared.document.Operation.TheVariants as operation
use Rattle.ix_base.specs.declared.query.Query.{Query}
use Rattle.ix_base.specs.declared.query.Query.TheVariants as query

-- two numbers in decimal digits, each behind a text
abbrev pub numbered : List ℕ → ℕ → List ℕ → ℕ → List ℕ
numbered first a second b = first ++ (decimal a ++ (second ++ decimal b))

-- A caller has 16 keys and 4 tags of its own; a number chooses one of each, and two words.
abbrev pub key_of : ℕ → ℕ → List ℕ
key_of caller number = numbered (codes "k") caller (codes "-") (number % 16)

abbrev pub tag_of : ℕ → ℕ → List ℕ
tag_of caller number = numbered (codes "t") caller (codes "-") (number % 4)

abbrev pub body_of : ℕ → List ℕ
body_of number = numbered (codes "w") (number % 16) (codes " w") (number % 4)

-- a document of the caller, with this number as its `n`
abbrev pub document_of : ℕ → ℕ → Document
document_of caller number = record {
  key = key_of caller number;
  text = (codes "body", body_of number) ∷ [];
  exact = (codes "tag", tag_of caller number) ∷ [];
  num = (codes "n", pos number) ∷ [];
}

abbrev pub key_term : ℕ → ℕ → Term
key_term caller number = record { field = codes "key"; bytes = key_of caller number }

abbrev pub tag_term : ℕ → ℕ → Term
tag_term caller number = record { field = codes "tag"; bytes = tag_of caller number }

-- the documents that have the tag and not the key
abbrev pub query_of : ℕ → ℕ → Query
query_of caller number = query.Bool
    (tree (term (codes "tag") (tag_of caller number)) no_trees)
    no_trees
    (tree (term (codes "key") (key_of caller number)) no_trees)

-- what a caller does by the lowest three bits of a draw, and by the number above them
abbrev pub operation_by : ℕ → ℕ → ℕ → Operation
operation_by kind caller number =
    if nat_lt kind 4 then operation.Add (document_of caller number)
    else (if kind == 4 then operation.Update (key_term caller number) (document_of caller number)
    else (if kind == 5 then operation.DeleteTerm (tag_term caller number)
    else (if kind == 6 then operation.SetNumber (tag_term caller number) (codes "n") (pos number)
    else operation.DeleteQuery (query_of caller number))))

unfoldable pub drawn_operation : ℕ → ℕ → Operation
drawn_operation caller draw = operation_by (draw % 8) caller (draw / 8)
