-- A term has at most as many rows as the segment.
use Rattle.std.proofs.Common.{◌≡◌, ℕ, ◌+◌, ◌<◌, ◌≤◌, List, [], ◌∷◌, length, get_or, sym, subst, arith}
use Rattle.std.specs.List.{AllByRecursion}
use Rattle.std.proofs.lemmas.List.Elements.{All-from_recursion}
use Rattle.ix_base.specs.Inversion.{IsPostings}
use Rattle.ix_base.proofs.ItemLaws.{AllGood}
use Rattle.ix_base.specs.declared.postings.Posting.{Posting}
use Rattle.ix_base.specs.declared.postings.TermPostings.{TermPostings}
use Rattle.segment_files.proofs.Chains.{AllRowsBelow, RowFrom, RowsRise, after_row, rows_chain}

counted : (n low : ℕ) (rows : List Posting) → low ≤ n → AllGood RowFrom after_row low rows → AllRowsBelow n rows → low + length rows ≤ n
counted n low [] le all below = omega arith
counted n low (p ∷ ps) le all below = omega (arith, all.0, below.0, counted n (p.row + 1) ps (omega (arith, below.0)) all.1 below.1)

few : (n : ℕ) (rows : List Posting) → RowsRise rows → AllRowsBelow n rows → length rows ≤ n
few n rows rise below = omega (arith, counted n 0 rows (omega arith) (rows_chain rows rise) below)

pub few_rows : (n : ℕ) (entries : List TermPostings) (i : ℕ) (entry : TermPostings) → IsPostings entries → AllByRecursion (λ (e : TermPostings). AllRowsBelow n e.rows) entries
    → i < length entries → entry ≡ get_or entries i entry → length entry.rows ≤ n
few_rows n entries i entry ordered below lt is =
    subst (λ (e : TermPostings). length e.rows ≤ n) (sym is)
    (few n (get_or entries i entry).rows (ordered.each i entry lt).rise (All-from_recursion (λ (e : TermPostings). AllRowsBelow n e.rows) entries below i entry lt))
