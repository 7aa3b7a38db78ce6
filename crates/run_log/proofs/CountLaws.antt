-- Lists that have each caller's lines in the same order have as many lines.
use Rattle.std.specs.Prelude.{◌≡◌, ℕ, List, length}
use Rattle.op_script.specs.declared.script.Line.{Line}
use Rattle.run_log.proofs.ByKeys.{reordered_by_keys, reordered_length}
use Rattle.run_log.specs.Telling.{of_caller}

pub same_count : (xs ys : List Line) → ((c : ℕ) → of_caller c xs ≡ of_caller c ys) → length xs ≡ length ys
same_count xs ys same = reordered_length xs ys (reordered_by_keys (λ (l : Line). l.caller) xs ys same)
