use Rattle.std.proofs.Common.{◌≤◌, ◌∙◌, List, ℕ, ap, length, get_or, take, arith}
use Rattle.std.proofs.lemmas.List.{get_or-take, length-take-le}
use Rattle.queue_rule.proofs.Seating.{opens}
use Rattle.delete_queue.proofs.make.new_table.Goals as goal

pub of_words-requires : goal.of_words-requires
of_words-requires c =
    let count = c.stretch_start-count.result in
    let is = c.stretch_start-count.ensures in
    let words = c.deref.result.now in
    let same = c.deref.ensures.value in
    let long : count ≤ length words = omega (arith, ap length same, c.in_ok-grow.ensures.long) in
    opens c.args.seats (take count words) c.requires.1 (length-take-le count words long ∙ is)
    (get_or-take count words 0 0 (omega (arith, is)) ∙ (ap (λ (l : List ℕ). get_or l 0 0) same ∙ c.in_ok-grow.ensures.first))
