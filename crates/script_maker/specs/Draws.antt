-- What the lines of a made script draw: a linear congruential sequence modulo 2^31 that begins with
-- the seed.
use Rattle.std.specs.Prelude.{ℕ, zero, suc, ◌+◌, ◌*◌, ◌/◌, ◌%◌, ◌^◌}

abbrev pub next_number : ℕ → ℕ
next_number x = (x * 1103515245 + 12345) % 2 ^ 31

-- the number of the sequence after so many steps
abbrev pub number_at : ℕ → ℕ → ℕ
number_at seed zero = seed
number_at seed (suc i) = next_number (number_at seed i)

-- what line i draws: the 15 bits above the lowest 16 of its number
abbrev pub draw_at : ℕ → ℕ → ℕ
draw_at seed i = number_at seed i / 65536
