-- The options of `run`, in any order.
use Rattle.std.proofs.Common.{◌≡◌, ◌∙◌, ℕ, List, Option, Some, codes, refl}
use Rattle.std.specs.List.{slice_index_or}
use Rattle.clap.specs.Walk.{Row}
use Rattle.clap.specs.Simple.{Shape}
use Rattle.clap.proofs.OnLiterals.{clap_on_literals}
use Rattle.command_words.specs.Program as spec
use Rattle.command_words.specs.Accepted.{number_of, run_in}
use Rattle.command_words.specs.declared.number_option.NumberOption.TheVariants as option
use Rattle.command_words.specs.WordLaws.{IsRunUse, RunAccepted, given, words_of}
use Rattle.command_words.specs.declared.command.Command.TheVariants as command
use Rattle.command_words.proofs.Rows.{number_found, once_fresh}
use Rattle.command_words.proofs.Walks.{Takes, rows_with_defaults}
use Rattle.command_words.proofs.Entering.{accepted_run, built_sub}
use Rattle.command_words.proofs.Naming.{TakesNamed, Numbers, another, made_of_uses, numbers_either, or_default, or_none, own, takes_either, takes_named}

abbrev run : Shape
run = built_sub spec.run

threads : TakesNamed run (codes "threads") 1 16
unfolding clap_on_literals
threads = record {
  steps = λ held d ds minus. rw (minus, minus) refl;
  fine = λ held d ds words minus fine. rw (fine, minus, minus) refl;
  settles = λ rows text. refl;
  settles_fine = λ rows skip text passes free. rw (free, passes) refl;
}

buffer : TakesNamed run (codes "buffer") 1 65536
unfolding clap_on_literals
buffer = record {
  steps = λ held d ds minus. rw (minus, minus) refl;
  fine = λ held d ds words minus fine. rw (fine, minus, minus) refl;
  settles = λ rows text. refl;
  settles_fine = λ rows skip text passes free. rw (free, passes) refl;
}

merge : TakesNamed run (codes "merge") 2 64
unfolding clap_on_literals
merge = record {
  steps = λ held d ds minus. rw (minus, minus) refl;
  fine = λ held d ds words minus fine. rw (fine, minus, minus) refl;
  settles = λ rows text. refl;
  settles_fine = λ rows skip text passes free. rw (free, passes) refl;
}

keep : TakesNamed run (codes "keep") 1 1000
unfolding clap_on_literals
keep = record {
  steps = λ held d ds minus. rw (minus, minus) refl;
  fine = λ held d ds words minus fine. rw (fine, minus, minus) refl;
  settles = λ rows text. refl;
  settles_fine = λ rows skip text passes free. rw (free, passes) refl;
}

takes : Takes run IsRunUse
takes =
    takes_either (takes_named option.Threads threads)
    (takes_either (takes_named option.Buffer buffer) (takes_either (takes_named option.Merge merge) (takes_named option.Keep keep)))

threads_number : Numbers option.Threads IsRunUse
threads_number =
    numbers_either option.Threads (own option.Threads)
    (numbers_either option.Threads (another option.Buffer option.Threads refl)
    (numbers_either option.Threads (another option.Merge option.Threads refl) (another option.Keep option.Threads refl)))

buffer_number : Numbers option.Buffer IsRunUse
buffer_number =
    numbers_either option.Buffer (another option.Threads option.Buffer refl)
    (numbers_either option.Buffer (own option.Buffer)
    (numbers_either option.Buffer (another option.Merge option.Buffer refl) (another option.Keep option.Buffer refl)))

merge_number : Numbers option.Merge IsRunUse
merge_number =
    numbers_either option.Merge (another option.Threads option.Merge refl)
    (numbers_either option.Merge (another option.Buffer option.Merge refl)
    (numbers_either option.Merge (own option.Merge) (another option.Keep option.Merge refl)))

keep_number : Numbers option.Keep IsRunUse
keep_number =
    numbers_either option.Keep (another option.Threads option.Keep refl)
    (numbers_either option.Keep (another option.Buffer option.Keep refl)
    (numbers_either option.Keep (another option.Merge option.Keep refl) (own option.Keep)))

made : (rows : List Row) (t b m : ℕ) (k : Option ℕ) → number_of option.Threads rows ≡ Some t → number_of option.Buffer rows ≡ Some b
    → number_of option.Merge rows ≡ Some m → number_of option.Keep rows ≡ k → run_in rows ≡ Some (command.Run t b m k)
made rows t b m k threads_is buffer_is merge_is keep_is = rw (threads_is, buffer_is, merge_is, keep_is) refl

pub run_accepted : RunAccepted
run_accepted uses all once =
    accepted_run (words_of uses)
    ∙ made_of_uses (codes "run") takes uses all (once_fresh uses once) refl refl
    ∙ made (rows_with_defaults run uses) _ _ _ _
    (number_found option.Threads run.rules uses (λ k d lt. threads_number (slice_index_or uses k d) (all k d lt)) ∙ or_default (given option.Threads uses) 4)
    (number_found option.Buffer run.rules uses (λ k d lt. buffer_number (slice_index_or uses k d) (all k d lt)) ∙ or_default (given option.Buffer uses) 1000)
    (number_found option.Merge run.rules uses (λ k d lt. merge_number (slice_index_or uses k d) (all k d lt)) ∙ or_default (given option.Merge uses) 8)
    (number_found option.Keep run.rules uses (λ k d lt. keep_number (slice_index_or uses k d) (all k d lt)) ∙ or_none (given option.Keep uses))
