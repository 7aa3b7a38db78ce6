use Rattle.std.proofs.Common.{◌≡◌, ◌-◌, Some, None}
use Rattle.ix_base.specs.Codec.{items_at}
use Rattle.ix_base.proofs.ReadLoops.{so_far}
use Rattle.ix_base.specs.declared.postings.TermPostings.{TermPostings}
use Rattle.segment_files.specs.Reading.{term_at}
use Rattle.segment_files.proofs.read_terms.entry_list.Given as goal

abbrev pub invariant-loop : goal.invariant-loop
invariant-loop l =
    so_far (term_at l.row_count) (λ (entry : TermPostings). Some entry.term) None l.entries.items (l.count - l.counter) l.rest
    ≡ items_at (term_at l.row_count) (λ (entry : TermPostings). Some entry.term) None l.count l.bytes
