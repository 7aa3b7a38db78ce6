use Rattle.std.proofs.Common.{arith, ap, ◌∙◌, ◌++◌, ◌∷◌, [], map, sym, List, length, length-append, ℕ, ◌+◌}
use Rattle.std.proofs.lemmas.List.{map-append}
use Rattle.thread_writer.specs.declared.piece.Piece.{Piece}
use Rattle.piece_queue.specs.Views.{parcels_of}
use Rattle.piece_queue.proofs.Sorting.{none_more}
use Rattle.piece_queue.proofs.receiver.no_parcels.Goals as goal

pub loop-preserved : goal.loop-preserved
loop-preserved c = (
  ap (map (λ p. p.items)) c.in_ok-push.ensures.items
      ∙ map-append (λ p. p.items) c.loop.all.items (c.new.result ∷ [])
      ∙ ap (λ (l : List (List Piece)). l ++ c.new.result.items ∷ []) c.loop.invariant.0
      ∙ ap (λ (x : List Piece). parcels_of 0 c.loop.counter [] ++ x ∷ []) c.new.ensures.items
      ∙ sym (none_more c.loop.counter),
  (let t = c.loop-test.true in omega (arith, t)),
  ap length c.in_ok-push.ensures.items ∙ length-append c.loop.all.items (c.new.result ∷ []) ∙ ap (λ (n : ℕ). n + 1) c.loop.invariant.2,
)
