use Rattle.std.proofs.Common.{◌≡◌, ◌<◌, ℕ, length, get_or}
use Rattle.merge_postings.specs.Keys.{KeysTerm}
use Rattle.merge_postings.specs.Tree.{term_of}
use Rattle.merge_postings.specs.Walk.{Waiting}
use Rattle.merge_postings.specs.declared.key.Key.{Key}
use Rattle.merge_postings.proofs.keyed.keys_beside.Given as goal

abbrev pub invariant-loop-place : goal.invariant-loop-place
invariant-loop-place l = record {
  long : length l.keys.items ≡ length l.heads;
  each : (i : ℕ) (d : Waiting) (k : Key) → i < l.place → i < length l.heads → KeysTerm l.field (get_or l.keys.items i k) (term_of l.heads i d);
}
