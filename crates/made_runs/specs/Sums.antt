-- The numbers `n` of what a made script's run adds.
use Rattle.std.specs.Prelude.{pos, ◌≤ℤ◌}
use Rattle.ix_base.specs.declared.document.Hit.{Hit}
use Rattle.report_text.specs.Sums.{n_of}

-- a number `n` that a made script gives: it has 12 bits
abbrev pub HasMadeNumber : Hit → Type 0
HasMadeNumber hit = (pos 0 ≤ℤ n_of hit.num) × (n_of hit.num ≤ℤ pos 4095)
