-- Where a term stands among postings.
use Rattle.std.specs.Prelude.{◌≡◌, ℕ, ◌<◌, ◌≤◌, List, length, get_or}
use Rattle.ix_base.specs.declared.document.Term.{Term}
use Rattle.ix_base.specs.declared.postings.TermPostings.{TermPostings}

-- the entry at this place is the term's
abbrev pub IsTermAt : List TermPostings → Term → ℕ → Type 0
IsTermAt entries term i = (i < length entries) × ((d : TermPostings) → (get_or entries i d).term ≡ term)

-- no entry before this place is the term's
abbrev pub StandsNotBefore : List TermPostings → Term → ℕ → Type 0
StandsNotBefore entries term from = (k : ℕ) (d : TermPostings) → k < length entries
    → (get_or entries k d).term ≡ term → from ≤ k

-- an entry that is the term's stands not before the first place, and before the second
abbrev pub StandsWithin : List TermPostings → Term → ℕ → ℕ → Type 0
StandsWithin entries term from to = (k : ℕ) (d : TermPostings) → k < length entries
    → (get_or entries k d).term ≡ term → (from ≤ k) × (k < to)

-- the number stands nowhere before this place
abbrev pub IsNotBefore : List ℕ → ℕ → ℕ → Type 0
IsNotBefore numbers number from = (k : ℕ) → k < length numbers → get_or numbers k 0 ≡ number → from ≤ k

-- the number stands nowhere but from the first place on, and before the second
abbrev pub IsWithin : List ℕ → ℕ → ℕ → ℕ → Type 0
IsWithin numbers number from to = (k : ℕ) → k < length numbers → get_or numbers k 0 ≡ number → (from ≤ k) × (k < to)
