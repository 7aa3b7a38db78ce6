-- Inputs that are too long, and those that aren't.
use Rattle.std.proofs.Common.{◌≡◌, ℕ, ◌<◌, ◌≤◌, List, length, Err, refl}
use Rattle.std.proofs.lemmas.Bool.{lt-ltb, le-ltb}
use Rattle.op_script.specs.Language.{script, lines_from, most_bytes}
use Rattle.op_script.specs.Lines.{lines_of}
use Rattle.op_script.specs.declared.script.Why.TheVariants as why

pub script_long : (input : List ℕ) → most_bytes < length input → script input ≡ Err (record { line = 0; why = why.Long })
unfolding script
script_long input long = rw (lt-ltb _ _ long) refl

pub script_short : (input : List ℕ) → length input ≤ most_bytes → script input ≡ lines_from 1 (lines_of input)
unfolding script
script_short input short = rw (le-ltb _ _ short) refl
