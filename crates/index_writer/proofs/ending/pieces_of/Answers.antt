use Rattle.std.proofs.Common.{◌∙◌, List, [], ◌∷◌, ◌++◌, ap, subst, arith}
use Rattle.std.specs.List.{AllByRecursion}
use Rattle.std.proofs.lemmas.Grind.{common_steps}
use Rattle.thread_writer.specs.declared.piece.Piece.{Piece}
use Rattle.index_writer.specs.declared.ending.Rest.{Rest}
use Rattle.index_writer.specs.Ending.{CanEnd}
use Rattle.index_writer.proofs.Gathering.{GoesOn, all_ended, one_more}
use Rattle.index_writer.proofs.ending.pieces_of.Goals as goal

pub returns : goal.returns
returns c = all_ended _ _ _ _ (grind (arith, common_steps)) c.loop-rest.invariant.goes_on

pub loop-rest-preserved : goal.loop-rest-preserved
loop-rest-preserved c =
    let base = c.args.base in
    let pieces = c.loop-rest.pieces.items in
    let last = c.in_ok-last.last in
    let steps = c.in-Some.ensures.steps.0 in
    record {
      goes_on =
          one_more base c.args.rests.items c.in-Some.rest _ pieces c.push.new.self.items last c.in_ok-last.ensures
          (c.in_ok-push.ensures.items ∙ ap (λ (ps : List Piece). ps ++ last ∷ []) c.in_ok-append.ensures.items)
          (subst (λ (rs : List Rest). GoesOn base c.args.rests.items rs pieces) steps c.loop-rest.invariant.goes_on);
      can = (subst (AllByRecursion CanEnd) steps c.loop-rest.invariant.can).1;
    }
