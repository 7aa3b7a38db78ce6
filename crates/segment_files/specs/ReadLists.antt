-- Lists that are read of a file of postings.
use Rattle.std.specs.Prelude.{ℕ, ◌+◌, List, Option, Some, None, Result}
use Rattle.ix_base.specs.Codec.{items_at, left_by}
use Rattle.ix_base.specs.declared.document.Term.{Term}
use Rattle.ix_base.specs.declared.postings.Posting.{Posting}
use Rattle.ix_base.specs.declared.postings.TermPostings.{TermPostings}
use Rattle.segment_files.specs.Reading.{position_at, posting_at, term_at}

-- so many positions, rising
abbrev pub positions_at : ℕ → List ℕ → Result (List ℕ × List ℕ) ℕ
positions_at count bytes = items_at position_at (λ (x : ℕ). x + 1) 0 count bytes

-- so many rows below n, rising
abbrev pub postings_at : ℕ → ℕ → List ℕ → Result (List Posting × List ℕ) ℕ
postings_at n count bytes = items_at (posting_at n) (λ (p : Posting). p.row + 1) 0 count bytes

-- so many terms, rising, with rows below n
abbrev pub terms_at : ℕ → ℕ → List ℕ → Result (List TermPostings × List ℕ) ℕ
terms_at n count bytes = items_at (term_at n) (λ (entry : TermPostings). Some entry.term) None count bytes

-- the last of these terms
abbrev pub last_term : List TermPostings → Option Term
last_term entries = left_by (λ (entry : TermPostings). Some entry.term) None entries
