-- Questions that are written out.
use Rattle.std.proofs.Common.{◌≡◌, pos, negsuc, [], ◌∷◌, codes, Ok, Err, refl}
use Rattle.std.specs.Str.{chars, is_utf8}
use Rattle.std.specs.Char.{encode_utf8}
use Rattle.serde_json.proofs.OnLiterals.{serde_json_on_literals}
use Rattle.ix_base.specs.declared.query.Query.TheVariants as query
use Rattle.op_script.specs.Questions.{questions}
use Rattle.op_script.specs.declared.script.Why.TheVariants as why

one_question : questions (codes "\"all\"") ≡ Ok (record { line = 1; query = query.All } ∷ [])
unfolding questions serde_json_on_literals is_utf8 chars encode_utf8
one_question = refl

question_blank_lines_count : questions (codes "\r\n \t\n{\"term\":[\"key\",\"a1\"]}\r\n\n") ≡ Ok (record { line = 3; query = query.Term (record { field = codes "key"; bytes = codes "a1" }) } ∷ [])
unfolding questions serde_json_on_literals is_utf8 chars encode_utf8
question_blank_lines_count = refl

no_questions : questions (codes " \n") ≡ Ok []
unfolding questions serde_json_on_literals is_utf8 chars encode_utf8
no_questions = refl

question_no_json : questions (codes "{") ≡ Err (record { line = 1; why = why.Json })
unfolding questions serde_json_on_literals is_utf8 chars encode_utf8
question_no_json = refl

object_of_an_op : questions (codes "{\"c\":0,\"op\":\"search\",\"query\":\"all\"}") ≡ Err (record { line = 1; why = why.Query })
unfolding questions serde_json_on_literals is_utf8 chars encode_utf8
object_of_an_op = refl

first_bad_question_counts : questions (codes "\"all\"\n\n[]\n{") ≡ Err (record { line = 3; why = why.Query })
unfolding questions serde_json_on_literals is_utf8 chars encode_utf8
first_bad_question_counts = refl

range_question : questions (codes "{\"range\":[\"price\",-2,9]}") ≡ Ok (record { line = 1; query = query.Range (codes "price") (negsuc 1) (pos 9) } ∷ [])
unfolding questions serde_json_on_literals is_utf8 chars encode_utf8
range_question = refl

range_without_an_end : questions (codes "{\"range\":[\"price\",5]}") ≡ Err (record { line = 1; why = why.Query })
unfolding questions serde_json_on_literals is_utf8 chars encode_utf8
range_without_an_end = refl

bounds_are_whole : questions (codes "{\"range\":[\"price\",5,9.0]}") ≡ Err (record { line = 1; why = why.Query })
unfolding questions serde_json_on_literals is_utf8 chars encode_utf8
bounds_are_whole = refl

range_has_a_name : questions (codes "{\"range\":[\"\",5,9]}") ≡ Err (record { line = 1; why = why.Query })
unfolding questions serde_json_on_literals is_utf8 chars encode_utf8
range_has_a_name = refl
