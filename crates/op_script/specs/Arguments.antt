-- What the members of a line give its operation.
use Rattle.std.specs.Prelude.{ℕ, ℤ, List, if◌then◌else◌, Option, Some, None, option_and_then, Result, Err}
use Rattle.serde_json.specs.Data.{Data}
use Rattle.serde_json.specs.Find.{get, as_number, as_i64, as_str}
use Rattle.ix_base.specs.Limits.{is_name}
use Rattle.ix_base.specs.Documents.{Document}
use Rattle.ix_base.specs.declared.query.Query.{Query}
use Rattle.op_script.specs.Documents.{document_of, block_of}
use Rattle.op_script.specs.Queries.{query_of}
use Rattle.op_script.specs.declared.script.Why.{Why}

-- a text of 1 to 255 bytes
abbrev pub name_of : List ℕ → Option (List ℕ)
name_of text = if is_name text then Some text else None

abbrev pub text_at : List ℕ → Data → Option (List ℕ)
text_at at d = option_and_then as_str (get at d)

abbrev pub name_at : List ℕ → Data → Option (List ℕ)
name_at at d = option_and_then name_of (text_at at d)

-- a whole number that fits an i64, written without a fraction and without an exponent
abbrev pub number_at : List ℕ → Data → Option ℤ
number_at at d = option_and_then as_i64 (option_and_then as_number (get at d))

abbrev pub query_at : List ℕ → Data → Option Query
query_at at d = option_and_then query_of (get at d)

abbrev pub document_at : List ℕ → Data → Option Document
document_at at d = option_and_then document_of (get at d)

abbrev pub block_at : List ℕ → Data → Option (List Document)
block_at at d = option_and_then block_of (get at d)

-- what f makes of the value, or this reason where there is none
abbrev pub given : {X Y : Type 0} → Why → Option X → (X → Result Y Why) → Result Y Why
given reason None f = Err reason
given reason (Some x) f = f x
