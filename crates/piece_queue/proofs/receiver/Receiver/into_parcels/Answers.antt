use Rattle.std.proofs.Common.{◌<◌, ◌++◌, ◌∷◌, [], List, sym, ap, subst, ◌∙◌, ℕ, rules}
use Rattle.std.specs.Vec.Iter.{into_iter_items}
use Rattle.thread_writer.specs.declared.piece.Piece.{Piece}
use Rattle.piece_queue.specs.Views.{AreBelow}
use Rattle.piece_queue.proofs.Sorting.{below_at}
use Rattle.piece_queue.proofs.receiver.Receiver.into_parcels.Goals as goal

pub loop-piece-init : goal.loop-piece-init
loop-piece-init c =
    let gives = c.into_iter-piece-iterator.ensures.into_iter_gives in
    record { count = c.in_ok-all.ensures.count; all = gives.0; few = search rules; put = c.in_ok-all.ensures.none }

pub add_to-requires : goal.add_to-requires
add_to-requires c =
    let at = c.loop-piece in
    let all = at.invariant.all in
    let next = c.in-Some.ensures.steps.0 in
    let x = c.in-Some.piece in
    record {
      inside =
          subst (λ (n : ℕ). x.worker < n) (sym at.invariant.count)
          (below_at c.args.count at.yielded x (into_iter_items c.next.new.self)
          (subst (AreBelow c.args.count)
          (sym c.requires.taken ∙ sym all ∙ ap (λ (l : List Piece). at.yielded ++ l) next) c.requires.below));
    }
