-- The value of an entry: what contracts see it as.
use Rattle.ix_base.specs.Entry as value
use Rattle.ix_base.specs.Query.{tree_of}
use Rattle.node_words.specs.declared.entry.Entry.{Entry}
use Rattle.node_words.specs.declared.entry.Entry.TheVariants.{Add, Update, DeleteTerm, DeleteQuery, SetNumber, Commit, Turn}

abbrev pub value_of : Entry → value.Entry
value_of Add = value.add
value_of (Update term) = value.update term
value_of (DeleteTerm term) = value.delete_term term
value_of (DeleteQuery query) = value.delete_query (tree_of query)
value_of (SetNumber term num number) = value.set_number term num number
value_of Commit = value.commit
value_of Turn = value.turn
