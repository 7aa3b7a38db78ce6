use Rattle.std.proofs.Common.{map}
use Rattle.std.specs.Prelude.{string_bytes}
use Rattle.clap.specs.Simple.{app_of, subcommand_rows_of}
use Rattle.command_words.specs.declared.command.WordsFault.TheVariants as fault
use Rattle.command_words.proofs.Found.{reads, simple, simple_and_free}
use Rattle.command_words.proofs.reading.read_command.Goals as goal

pub returns-in-Ok-try_get_matches_from-clause-ok : goal.returns-in-Ok-try_get_matches_from-clause-ok
returns-in-Ok-try_get_matches_from-clause-ok c =
    let p = app_of c.in-Ok.program in
    let parsed = c.in-Ok-try_get_matches_from in
    reads p (map string_bytes c.args.words.now) (subcommand_rows_of parsed.matches) c.command_from.result fault.Words c.ok_or.result c.in-Ok.ensures
    (parsed.ensures.kinds (simple_and_free p c.in-Ok.ensures)) (parsed.ensures.matches (simple p c.in-Ok.ensures)).1 c.command_from.ensures.command c.ok_or.ensures.value
