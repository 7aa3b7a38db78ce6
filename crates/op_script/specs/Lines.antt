-- The lines of an input.
use Rattle.std.specs.Prelude.{◌≡◌, ℕ, ◌==◌, List, Bool, false, ◌||◌}
use Rattle.std.specs.List.{list_all, slice_split}

-- the byte 10 stands between lines, so the last line may be empty
abbrev pub lines_of : List ℕ → List (List ℕ)
lines_of bytes = slice_split (λ b. b == 10) bytes

-- a line of spaces, tabs and carriage returns alone is passed over
abbrev pub is_blank : List ℕ → Bool
is_blank text = list_all (λ b. b == 32 || (b == 9 || b == 13)) text

-- some line isn't passed over
abbrev pub HasAsked : List ℕ → Type 0
HasAsked bytes = list_all is_blank (lines_of bytes) ≡ false
