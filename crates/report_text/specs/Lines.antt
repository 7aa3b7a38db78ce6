-- The lines of a report: each is the text that serde_json writes of its value, and a line feed.
use Rattle.std.specs.Prelude.{ℕ, ℤ, List, [], ◌∷◌, ◌++◌, map, fold, codes}
use Rattle.serde_json.specs.Data.{Data, object, array, string, number, unsigned, Members, no_members, member, put}
use Rattle.serde_json.specs.Find.{of_integer}
use Rattle.serde_json.specs.View.{items_of}
use Rattle.serde_json.specs.Written.{compact_text}
use Rattle.ix_base.specs.declared.document.Hit.{Hit}
use Rattle.ix_base.specs.declared.refusal.Refusal.{Refusal}
use Rattle.ix_base.specs.declared.refusal.Refusal.TheVariants.{Term, Query}
use Rattle.report_text.specs.declared.summary.Summary.{Summary}

abbrev pub natural : ℕ → Data
natural n = number (unsigned n)

-- a value's compact text, and a line feed
abbrev pub text_line : Data → List ℕ
text_line value = compact_text value ++ 10 ∷ []

-- {"line":L,"seq":N}
abbrev pub write_value : ℕ → ℕ → Data
write_value line s = object (member (codes "line") (natural line) (member (codes "seq") (natural s) no_members))

-- {"docs":D,"line":L,"seq":N}
abbrev pub commit_value : ℕ → ℕ → ℕ → Data
commit_value docs line s = object (member (codes "docs") (natural docs) (member (codes "line") (natural line) (member (codes "seq") (natural s) no_members)))

-- {"line":L,"refused":"term","size":Z}, or "query"
abbrev pub shown_refusal : ℕ → List ℕ → ℕ → Data
shown_refusal line what size = object (member (codes "line") (natural line) (member (codes "refused") (string what) (member (codes "size") (natural size) no_members)))

abbrev pub refused_value : ℕ → Refusal → Data
refused_value line (Term size) = shown_refusal line (codes "term") size
refused_value line (Query size) = shown_refusal line (codes "query") size

-- numbers by name
abbrev pub with_number : Members → List ℕ × ℤ → Members
with_number ms named = put named.0 (number (of_integer named.1)) ms

-- {"key":K,"num":{..}}
abbrev pub hit_value : Hit → Data
hit_value hit = object (member (codes "key") (string hit.key) (member (codes "num") (object (fold with_number no_members hit.num)) no_members))

-- {"commit":S,"hits":[..],"line":L}
abbrev pub search_value : ℕ → List Hit → ℕ → Data
search_value commit hits line = object (member (codes "commit") (natural commit) (member (codes "hits") (array (items_of (map hit_value hits))) (member (codes "line") (natural line) no_members)))

-- texts by name
abbrev pub with_text : Members → List ℕ × List ℕ → Members
with_text ms named = put named.0 (string named.1) ms

-- {"commit":S,"data":{..},"docs":D}, the data where there is some
abbrev pub listed_value : ℕ → List (List ℕ × List ℕ) → ℕ → Data
listed_value commit [] docs =
    object (member (codes "commit") (natural commit) (member (codes "docs") (natural docs) no_members))
listed_value commit (pair ∷ pairs) docs =
    object (member (codes "commit") (natural commit)
    (member (codes "data") (object (fold with_text no_members (pair ∷ pairs)))
    (member (codes "docs") (natural docs) no_members)))

-- {"commits":C,"docs":D,"lines":L,"sum":X}
abbrev pub summary_value : Summary → Data
summary_value of = object (member (codes "commits") (natural of.commits) (member (codes "docs") (natural of.docs) (member (codes "lines") (natural of.lines) (member (codes "sum") (natural of.sum) no_members))))
