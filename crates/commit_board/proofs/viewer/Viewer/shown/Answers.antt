use Rattle.std.proofs.Common.{rules, ◌≡◌, None, refl}
use Rattle.commit_board.specs.Commits.{last_of}
use Rattle.commit_board.specs.Board.{seen_in}
use Rattle.commit_board.proofs.Keeping.{no_last}
use Rattle.commit_board.proofs.viewer.Viewer.shown.Goals as goal

pub returns-in-None-clause-none : goal.returns-in-None-clause-none
returns-in-None-clause-none c =
    let none : last_of (seen_in c.args.self.now) ≡ None = search rules in
    ((λ _. no_last (seen_in c.args.self.now) none), (λ _. refl))
