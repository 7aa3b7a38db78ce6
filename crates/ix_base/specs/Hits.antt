-- What a search finds.
use Rattle.std.specs.Prelude.{List, map}
use Rattle.std.specs.List.{filter}
use Rattle.ix_base.specs.Matches.{matches}
use Rattle.ix_base.specs.Query.{tree_of}
use Rattle.ix_base.specs.declared.document.Hit.{Hit}
use Rattle.ix_base.specs.declared.document.Row.{Row}
use Rattle.ix_base.specs.declared.query.Query.{Query}

-- the rows that match, in the order in which they come
abbrev pub matching : Query → List Row → List Row
matching query rows = filter (λ row. matches (tree_of query) row.doc) rows

abbrev pub hit_of : Row → Hit
hit_of row = record { key = row.doc.key; num = row.doc.num }

-- the hits of a query among rows, in the order in which these come
abbrev pub hits : Query → List Row → List Hit
hits query rows = map hit_of (matching query rows)
