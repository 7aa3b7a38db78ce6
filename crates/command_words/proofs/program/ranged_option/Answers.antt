use Rattle.std.proofs.Common.{◌≡◌, ◌∙◌, ap, Option, Some}
use Rattle.clap.specs.Walk.{Rule, rule_of}
use Rattle.clap.specs.declared.builder.arg.Arg.{Arg}
use Rattle.clap.specs.declared.builder.value_parser.ValueParser.{ValueParser}
use Rattle.clap.specs.declared.builder.value_parser.ValueParser.TheVariants as vp
use Rattle.command_words.proofs.program.ranged_option.Goals as goal

pub returns-clause-rule : goal.returns-clause-rule
returns-clause-rule c =
    let parser : ValueParser = vp.Unsigned c.args.low c.args.high in
    let given = c.value_parser.ensures.given in
    let parser_is : c.value_parser.result.value_parser ≡ Some parser = given.1 ∙ ap Some (given.2 ∙ c.unsigned.ensures) in
    ap rule_of c.value_parser.ensures.others
    ∙ ap (λ (a : Arg). rule_of (record a { value_parser = c.value_parser.result.value_parser })) c.long.ensures
    ∙ ap (λ (p : Option ValueParser). rule_of (record c.new.result { long = Some c.args.name; value_parser = p })) parser_is
    ∙ ap (λ (r : Rule). record r { long = Some c.args.name.now; parser = Some parser }) c.new.ensures.rule
