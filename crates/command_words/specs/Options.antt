-- The options of the subcommands: their names, and the range of each one's number.
use Rattle.std.specs.Prelude.{◌≤◌, ℕ, codes}
use Rattle.clap.specs.Walk.{Text}
use Rattle.command_words.specs.declared.number_option.NumberOption.{NumberOption}
use Rattle.command_words.specs.declared.number_option.NumberOption.TheVariants as option

-- the name, without its two hyphens
abbrev pub name_of : NumberOption → Text
name_of option.Threads = codes "threads"
name_of option.Buffer = codes "buffer"
name_of option.Merge = codes "merge"
name_of option.Keep = codes "keep"
name_of option.Commit = codes "commit"
name_of option.Seed = codes "seed"
name_of option.Lines = codes "lines"
name_of option.Callers = codes "callers"

-- the least number
abbrev pub low_of : NumberOption → ℕ
low_of option.Threads = 1
low_of option.Buffer = 1
low_of option.Merge = 2
low_of option.Keep = 1
low_of option.Commit = 0
low_of option.Seed = 0
low_of option.Lines = 1
low_of option.Callers = 1

-- the greatest number
abbrev pub high_of : NumberOption → ℕ
high_of option.Threads = 16
high_of option.Buffer = 65536
high_of option.Merge = 64
high_of option.Keep = 1000
high_of option.Commit = 9223372036854775807
high_of option.Seed = 2147483647
high_of option.Lines = 1000000
high_of option.Callers = 256

-- the number is in the option's range
abbrev pub IsNumberOf : NumberOption → ℕ → Type 0
IsNumberOf one number = (low_of one ≤ number) × (number ≤ high_of one)
