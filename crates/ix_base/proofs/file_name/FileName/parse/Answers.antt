use Rattle.std.proofs.Common.{◌≡◌, None, rules}
use Rattle.ix_base.proofs.FileSpelling.{foreign_text}
use Rattle.ix_base.proofs.file_name.FileName.parse.Goals as goal

pub returns-in_err-id-clause-foreign : goal.returns-in_err-id-clause-foreign
returns-in_err-id-clause-foreign c gone =
    let commit : c.number_between.result ≡ None = search rules in
    let pending : c.number_between-2.result ≡ None = search rules in
    let rows : c.number_between-3.result ≡ None = search rules in
    let posts : c.number_between-4.result ≡ None = search rules in
    let live : c.numbers_before.result ≡ None = search rules in
    let values : c.numbers_before-2.result ≡ None = search rules in
    foreign_text c.args.text.now
    (c.number_between.ensures.none commit)
    (c.number_between-2.ensures.none pending)
    (c.number_between-3.ensures.none rows)
    (c.number_between-4.ensures.none posts)
    (c.numbers_before.ensures.none live)
    (c.numbers_before-2.ensures.none values)
