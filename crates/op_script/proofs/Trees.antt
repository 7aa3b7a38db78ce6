-- One more query of a list.
use Rattle.std.proofs.Common.{◌≡◌, List, [], ◌∷◌, ◌++◌, Option, Some, None, option_map, refl, ap}
use Rattle.serde_json.specs.Data.{Data, Items, item}
use Rattle.ix_base.specs.Query.{tree_of, trees_of}
use Rattle.ix_base.specs.Tree.{Trees, no_trees, tree}
use Rattle.ix_base.specs.declared.query.Query.{Query}
use Rattle.op_script.specs.Queries.{query_of, queries_of}

-- the list, and then the others
abbrev pub onto_trees : List Query → Trees → Trees
onto_trees [] rest = rest
onto_trees (q ∷ qs) rest = tree (tree_of q) (onto_trees qs rest)

pub onto_trees-none : (qs : List Query) → onto_trees qs no_trees ≡ trees_of qs
onto_trees-none [] = refl
onto_trees-none (q ∷ qs) = ap (tree (tree_of q)) (onto_trees-none qs)

onto_trees-push : (qs : List Query) (q : Query) (rest : Trees) → onto_trees (qs ++ q ∷ []) rest ≡ onto_trees qs (tree (tree_of q) rest)
onto_trees-push [] q rest = refl
onto_trees-push (p ∷ qs) q rest = ap (tree (tree_of p)) (onto_trees-push qs q rest)

moved : (qs : List Query) (q : Query) (left : Option Trees) → option_map (onto_trees (qs ++ q ∷ [])) left ≡ option_map (onto_trees qs) (option_map (tree (tree_of q)) left)
moved qs q None = refl
moved qs q (Some rest) = ap Some (onto_trees-push qs q rest)

pub queries_more : (qs : List Query) (q : Query) (d : Data) (ds : Items) → query_of d ≡ Some q
    → option_map (onto_trees (qs ++ q ∷ [])) (queries_of ds) ≡ option_map (onto_trees qs) (queries_of (item d ds))
queries_more qs q d ds is = rw is (moved qs q (queries_of ds))
