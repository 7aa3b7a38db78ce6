-- The numbers `n` of hits, and their sum.
use Rattle.std.specs.Prelude.{ℕ, ℤ, pos, negsuc, min, ◌+ℤ◌, List, codes, find, fold}
use Rattle.std.specs.Option.{option_map_or}
use Rattle.std.specs.Str.{bytes_eq}
use Rattle.ix_base.specs.Steps.{Named}
use Rattle.ix_base.specs.declared.document.Hit.{Hit}

-- the number `n` among these, 0 where there is none
abbrev pub n_of : List Named → ℤ
n_of num = option_map_or (λ named. named.1) (find (λ named. bytes_eq named.0 (codes "n")) num) (pos 0)

-- the sum of the numbers `n` of these hits
abbrev pub sum_of : List Hit → ℤ
sum_of hits = fold (λ sum hit. sum +ℤ n_of hit.num) (pos 0) hits

-- the number of 64 bits that is nearest
abbrev pub nearest : ℤ → ℕ
nearest (pos n) = min n 18446744073709551615
nearest (negsuc n) = 0
