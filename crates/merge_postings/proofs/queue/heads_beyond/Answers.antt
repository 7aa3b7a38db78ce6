use Rattle.std.proofs.Common.{◌≡◌, ◌++◌, ◌∷◌, [], None, Some, rules, sym, subst}
use Rattle.std.proofs.lemmas.List.Elements.{All-from_recursion}
use Rattle.merge_postings.specs.Renumbering.{CanMove}
use Rattle.merge_postings.specs.Walk.{IsPutBack}
use Rattle.merge_postings.proofs.Resuming.{more_resumed}
use Rattle.merge_postings.proofs.Taking.{back_end, back_none}
use Rattle.merge_postings.proofs.queue.heads_beyond.Goals as goal
use Rattle.merge_postings.proofs.queue.heads_beyond.Goals.{in-Some+in_ok-push, in_default}

pub loop-place-preserved : goal.loop-place-preserved
loop-place-preserved c =
    let able = subst CanMove (sym c.index-sources-place.is) (All-from_recursion CanMove c.args.sources.now c.requires c.loop-place.place c.index-sources-place.result c.loop-place-test.true) in
    let old = c.loop-place.heads.items in
    let new = c.match-beyond.heads.items in
    let put : IsPutBack c.beyond.result old new =
    elim c.match-beyond.branch [
      | in-Some+in_ok-push w ↦
          let some : c.beyond.result ≡ Some w.in-Some.head = search rules in
          let is : new ≡ old ++ w.in-Some.head ∷ [] = search rules in
          back_end c.beyond.result w.in-Some.head old new some is
      | in_default w ↦
          let none : c.beyond.result ≡ None = search rules in
          let is : new ≡ old = search rules in
          back_none c.beyond.result old new none is
    ] in
    more_resumed c.args.upto.now c.args.sources.now c.loop-place.place c.index-sources-place.result c.beyond.result old new
    c.loop-place.invariant c.loop-place-test.true c.index-sources-place.is able c.beyond.ensures put
