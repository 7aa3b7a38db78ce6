-- What is tested before it is copied.
use Rattle.std.proofs.Common.{◌≡◌, ℕ, List, Bool, true, false, ◌&&◌, if◌then◌else◌, codes, Option, Some, None, is_some, Ok, IsOk, refl}
use Rattle.serde_json.specs.Data.{Data}
use Rattle.ix_base.specs.Documents.{Document}
use Rattle.ix_base.specs.declared.document.Operation.TheVariants as operation
use Rattle.op_script.specs.Arguments.{name_at, text_at, document_at, block_at, given}
use Rattle.op_script.specs.Documents.{document_of, document_names, are_apart}
use Rattle.op_script.specs.Values.{has_only}
use Rattle.op_script.specs.Language.{act_of}
use Rattle.op_script.specs.declared.script.Act.TheVariants as act
use Rattle.op_script.specs.declared.script.Why.TheVariants as why
use Rattle.op_script.specs.declared.verbs.Verb.TheVariants as verb

tested : (b : Bool) (o : Option Document) → is_some (if b then o else None) ≡ true → b ≡ true
tested true o h = refl
tested false o h = h

-- the names of a document are those of one, and apart
pub document_tested : (d : Data) → is_some (document_of d) ≡ true → (has_only document_names d && are_apart d) ≡ true
document_tested d h = tested (has_only document_names d && are_apart d) _ h

add_given : (doc : Option Document) → is_some doc ≡ true → IsOk (given why.Doc doc (λ doc. Ok (act.Do (operation.Add doc))))
add_given None d = absurd (cc d)
add_given (Some z) d = refl

pub add_ok : (d : Data) → is_some (document_at (codes "doc") d) ≡ true → IsOk (act_of verb.Add d)
add_ok d x = add_given (document_at (codes "doc") d) x

add_block_given : (docs : Option (List Document)) → is_some docs ≡ true → IsOk (given why.Doc docs (λ docs. Ok (act.Do (operation.AddBlock docs))))
add_block_given None d = absurd (cc d)
add_block_given (Some z) d = refl

pub add_block_ok : (d : Data) → is_some (block_at (codes "docs") d) ≡ true → IsOk (act_of verb.AddBlock d)
add_block_ok d x = add_block_given (block_at (codes "docs") d) x

update_given : (field bytes : Option (List ℕ)) (doc : Option Document) → is_some field ≡ true → is_some bytes ≡ true → is_some doc ≡ true
    → IsOk (given why.Name field (λ field. given why.Text bytes (λ bytes. given why.Doc doc (λ doc. Ok (act.Do (operation.Update (record { field = field; bytes = bytes }) doc))))))
update_given None bytes doc f b d = absurd (cc f)
update_given (Some x) None doc f b d = absurd (cc b)
update_given (Some x) (Some y) None f b d = absurd (cc d)
update_given (Some x) (Some y) (Some z) f b d = refl

pub update_ok : (d : Data) → is_some (name_at (codes "field") d) ≡ true → is_some (text_at (codes "term") d) ≡ true → is_some (document_at (codes "doc") d) ≡ true → IsOk (act_of verb.Update d)
update_ok d f b x = update_given (name_at (codes "field") d) (text_at (codes "term") d) (document_at (codes "doc") d) f b x

update_block_given : (field bytes : Option (List ℕ)) (docs : Option (List Document)) → is_some field ≡ true → is_some bytes ≡ true → is_some docs ≡ true
    → IsOk (given why.Name field (λ field. given why.Text bytes (λ bytes. given why.Doc docs (λ docs. Ok (act.Do (operation.UpdateBlock (record { field = field; bytes = bytes }) docs))))))
update_block_given None bytes docs f b d = absurd (cc f)
update_block_given (Some x) None docs f b d = absurd (cc b)
update_block_given (Some x) (Some y) None f b d = absurd (cc d)
update_block_given (Some x) (Some y) (Some z) f b d = refl

pub update_block_ok : (d : Data) → is_some (name_at (codes "field") d) ≡ true → is_some (text_at (codes "term") d) ≡ true → is_some (block_at (codes "docs") d) ≡ true → IsOk (act_of verb.UpdateBlock d)
update_block_ok d f b x = update_block_given (name_at (codes "field") d) (text_at (codes "term") d) (block_at (codes "docs") d) f b x
