-- The options of `make`, in any order.
use Rattle.std.proofs.Common.{◌≡◌, ◌∙◌, ℕ, List, [], false, true, Some, codes, refl}
use Rattle.std.specs.List.{slice_index_or}
use Rattle.clap.specs.Faults.{check_fault}
use Rattle.clap.specs.Takes.{is_given}
use Rattle.clap.specs.Walk.{Row}
use Rattle.clap.specs.Simple.{Shape}
use Rattle.clap.proofs.OnLiterals.{clap_on_literals}
use Rattle.command_words.specs.Program as spec
use Rattle.command_words.specs.Accepted.{number_of, make_in}
use Rattle.command_words.specs.declared.number_option.NumberOption.TheVariants as option
use Rattle.command_words.specs.WordLaws.{IsMakeUse, MakeAccepted, given, words_of}
use Rattle.command_words.specs.declared.command.Command.TheVariants as command
use Rattle.command_words.proofs.Rows.{is_given_by, number_found, once_fresh}
use Rattle.command_words.proofs.Walks.{Takes, rows_with_defaults}
use Rattle.command_words.proofs.Entering.{accepted_make, built_sub}
use Rattle.command_words.proofs.Naming.{TakesNamed, Numbers, another, made_of_uses, numbers_either, or_none, own, takes_either, takes_named}

abbrev make : Shape
make = built_sub spec.make

seed : TakesNamed make (codes "seed") 0 2147483647
unfolding clap_on_literals
seed = record {
  steps = λ held d ds minus. rw (minus, minus) refl;
  fine = λ held d ds words minus fine. rw (fine, minus, minus) refl;
  settles = λ rows text. refl;
  settles_fine = λ rows skip text passes free. rw (free, passes) refl;
}

lines : TakesNamed make (codes "lines") 1 1000000
unfolding clap_on_literals
lines = record {
  steps = λ held d ds minus. rw (minus, minus) refl;
  fine = λ held d ds words minus fine. rw (fine, minus, minus) refl;
  settles = λ rows text. refl;
  settles_fine = λ rows skip text passes free. rw (free, passes) refl;
}

callers : TakesNamed make (codes "callers") 1 256
unfolding clap_on_literals
callers = record {
  steps = λ held d ds minus. rw (minus, minus) refl;
  fine = λ held d ds words minus fine. rw (fine, minus, minus) refl;
  settles = λ rows text. refl;
  settles_fine = λ rows skip text passes free. rw (free, passes) refl;
}

takes : Takes make IsMakeUse
takes = takes_either (takes_named option.Seed seed) (takes_either (takes_named option.Lines lines) (takes_named option.Callers callers))

seed_number : Numbers option.Seed IsMakeUse
seed_number = numbers_either option.Seed (own option.Seed) (numbers_either option.Seed (another option.Lines option.Seed refl) (another option.Callers option.Seed refl))

lines_number : Numbers option.Lines IsMakeUse
lines_number = numbers_either option.Lines (another option.Seed option.Lines refl) (numbers_either option.Lines (own option.Lines) (another option.Callers option.Lines refl))

callers_number : Numbers option.Callers IsMakeUse
callers_number = numbers_either option.Callers (another option.Seed option.Callers refl) (numbers_either option.Callers (another option.Lines option.Callers refl) (own option.Callers))

-- nothing that is required is missing
checks : (rows : List Row) → is_given (codes "seed") rows ≡ true → is_given (codes "lines") rows ≡ true → is_given (codes "callers") rows ≡ true
    → check_fault make rows false ≡ []
checks rows seed_is lines_is callers_is = rw (seed_is, lines_is, callers_is) refl

made : (rows : List Row) (s l c : ℕ) → number_of option.Seed rows ≡ Some s → number_of option.Lines rows ≡ Some l
    → number_of option.Callers rows ≡ Some c → make_in rows ≡ Some (command.Make s l c)
made rows s l c seed_is lines_is callers_is = rw (seed_is, lines_is, callers_is) refl

pub make_accepted : MakeAccepted
make_accepted uses all once s l c seed_is lines_is callers_is =
    accepted_make (words_of uses)
    ∙ made_of_uses (codes "make") takes uses all (once_fresh uses once) refl
    (checks (rows_with_defaults make uses)
    (is_given_by option.Seed make.rules uses s seed_is)
    (is_given_by option.Lines make.rules uses l lines_is)
    (is_given_by option.Callers make.rules uses c callers_is))
    ∙ made (rows_with_defaults make uses) s l c
    (number_found option.Seed make.rules uses (λ k d lt. seed_number (slice_index_or uses k d) (all k d lt)) ∙ or_none (given option.Seed uses) ∙ seed_is)
    (number_found option.Lines make.rules uses (λ k d lt. lines_number (slice_index_or uses k d) (all k d lt)) ∙ or_none (given option.Lines uses) ∙ lines_is)
    (number_found option.Callers make.rules uses (λ k d lt. callers_number (slice_index_or uses k d) (all k d lt)) ∙ or_none (given option.Callers uses) ∙ callers_is)
