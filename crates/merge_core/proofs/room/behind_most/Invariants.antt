use Rattle.std.proofs.Common.{◌+◌, ◌≤◌, length, take}
use Rattle.std.specs.List.{flat_map}
use Rattle.segment_files.specs.Spelling.{term_postings}
use Rattle.merge_core.proofs.room.behind_most.Given as goal

abbrev pub invariant-loop-entry : goal.invariant-loop-entry
invariant-loop-entry l = l.left + length (flat_map term_postings (take l.entry-index l.entries)) ≤ l.fn.room
