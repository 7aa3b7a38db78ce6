use Rattle.std.proofs.Common.{◌<◌, ◌≤◌, length, List, sym, subst, arith}
use Rattle.std.specs.List.{AllByRecursion}
use Rattle.ix_base.specs.Inversion.{IsPostings}
use Rattle.ix_base.specs.declared.postings.Posting.{Posting}
use Rattle.ix_base.specs.declared.postings.TermPostings.{TermPostings}
use Rattle.segment_files.proofs.Counts.{few_rows}
use Rattle.segment_files.proofs.posts.put_posts.Goals as goal

pub put_entry-requires : goal.put_entry-requires
put_entry-requires c =
    let ordered = subst IsPostings (sym c.as_slice-entries.ensures) c.requires.ordered in
    let below = subst (λ (es : List TermPostings). AllByRecursion (λ (e : TermPostings). AllByRecursion (λ (p : Posting). p.row < c.args.row_count) e.rows) es) (sym c.as_slice-entries.ensures) c.requires.below in
    let few : length c.entry-item.result.rows ≤ c.args.row_count = few_rows c.args.row_count c.as_slice-entries.result.now c.loop-entry.entry-index c.entry-item.result ordered below c.loop-entry-test.true c.entry-item.is in
    record { few = omega arith }
