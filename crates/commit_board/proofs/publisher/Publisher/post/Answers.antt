use Rattle.std.proofs.Common.{◌≡◌, ◌∙◌, ◌++◌, List, drop, map, ap, sym, subst}
use Rattle.std.specs.Arc.{arc_value}
use Rattle.left_right.specs.Sides.{view}
use Rattle.commit_board.specs.declared.commit.Commit.{Commit}
use Rattle.commit_board.specs.declared.shelf.Shelf.{Shelf}
use Rattle.commit_board.specs.Commits.{RiseFrom, top_of}
use Rattle.commit_board.specs.Rule.{Shows}
use Rattle.commit_board.proofs.Keeping.{ok_case, rise_after, top_after}
use Rattle.commit_board.proofs.publisher.Publisher.post.Goals as goal

pub invariant_of-publisher : goal.invariant_of-publisher
invariant_of-publisher g c =
    let v : List Commit = view c.args.self.writer.desk.place in
    let x : Shelf = c.append.new.self.desk.shown.value in
    let new = drop c.append.new.self.behind c.append.new.self.log.items in
    let same : view c.append.new.self.desk.place ≡ v = λ i. view (c.append.ensures.desk i).place in
    let more = ok_case c.append.result _ _ (sym c.is_err.ensures.value ∙ c.if-is_err.false) c.append.ensures.pending in
    record {
      shows = subst (λ (l : List Commit). Shows x l) (sym same) (subst (λ (y : Shelf). Shows y v) (λ i. (sym c.append.ensures.desk i).shown.value) c.args.self.shows);
      rise = subst (λ (l : List Commit). RiseFrom 0 (l ++ map arc_value new)) (sym same) (rise_after v _ new c.args.commit more c.args.self.rise c.requires.number);
      top_is = ap (λ (k : Commit). k.number) c.deref.ensures ∙ (top_after v _ new c.args.commit more ∙ ap (λ (l : List Commit). top_of (l ++ map arc_value new)) (sym same));
    }
