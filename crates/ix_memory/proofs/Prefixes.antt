-- A prefix of a list, and what is left of the list.
use Rattle.std.proofs.Common.{◌≡◌, ℕ, ◌+◌, List, ◌++◌, take, drop, sym, ◌∙◌}
use Rattle.std.proofs.lemmas.List.{take-append-drop, drop-drop}

-- a list is the prefix that was copied from it and the rest
pub prefix_and_rest : (bytes buffer : List ℕ) (at n : ℕ) → take n buffer ≡ take n (drop at bytes) → drop at bytes ≡ take n buffer ++ drop (at + n) bytes
prefix_and_rest bytes buffer at n same =
    sym (take-append-drop n (drop at bytes)) ∙ rw (same, drop-drop)
