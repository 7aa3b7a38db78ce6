use Rattle.std.proofs.Common.{◌≡◌, ◌++◌, length, take}
use Rattle.std.specs.List.{flat_map, AllByRecursion}
use Rattle.ix_base.specs.Spelling.{be64, be32}
use Rattle.segment_files.specs.Fits.{TermFits}
use Rattle.segment_files.specs.Spelling.{posts_mark, term_postings}
use Rattle.segment_files.proofs.posts.put_posts.Given as goal

abbrev pub invariant-loop-entry : goal.invariant-loop-entry
invariant-loop-entry l = record {
  bytes : l.out.items ≡ l.fn.out.items ++ (posts_mark ++ (be64 l.id ++ (be32 l.row_count ++ (be64 (length l.entries) ++ flat_map term_postings (take l.entry-index l.entries)))));
  fits : AllByRecursion TermFits (take l.entry-index l.entries);
}
